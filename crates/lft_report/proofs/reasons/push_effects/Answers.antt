use Rattle.std.proofs.Common.{◌++◌, codes}
use Rattle.lft_model.specs.Runs.{effects_of}
use Rattle.lft_report.specs.Reasons.{listed_names}
use Rattle.lft_ir.{specs.Words.Words.reaction_words, proofs.WordsLemmas.Steps.also}
use Rattle.lft_report.proofs.reasons.push_effects.Goals as goal

pub returns : goal.returns
returns c = also _ _ _ ((((codes "  Effects of ") ++ (reaction_words c.args.program.now c.args.reaction)) ++ (codes ":")) ++ (listed_names c.args.program.now (effects_of c.args.program.now c.args.reaction))) (codes "\n") (also _ _ _ (((codes "  Effects of ") ++ (reaction_words c.args.program.now c.args.reaction)) ++ (codes ":")) (listed_names c.args.program.now (effects_of c.args.program.now c.args.reaction)) (also _ _ _ ((codes "  Effects of ") ++ (reaction_words c.args.program.now c.args.reaction)) (codes ":") (also _ _ _ (codes "  Effects of ") (reaction_words c.args.program.now c.args.reaction) c.in_ok-push_str.ensures.bytes c.in_ok-push_reaction.ensures) c.in_ok-push_str-2.ensures.bytes) c.in_ok-push_effects_of.ensures) c.in_ok-push_str-3.ensures.bytes
