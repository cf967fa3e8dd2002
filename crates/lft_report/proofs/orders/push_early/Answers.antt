use Rattle.std.proofs.Common.{◌++◌, codes}
use Rattle.lft_ir.{specs.Words.{Words.{tag_words, reaction_words}, Lines.line_words}, proofs.WordsLemmas.Steps.also}
use Rattle.lft_report.proofs.orders.push_early.Goals as goal

pub returns : goal.returns
returns c = also _ _ _ (reaction_words c.args.program.now c.args.later ++ codes " starts at " ++ tag_words c.args.tag ++ codes " in " ++ line_words c.args.start ++ codes ", before " ++ reaction_words c.args.program.now c.args.earlier ++ codes " ends in " ++ line_words c.args.end) (codes ".\n") (also _ _ _ (reaction_words c.args.program.now c.args.later ++ codes " starts at " ++ tag_words c.args.tag ++ codes " in " ++ line_words c.args.start ++ codes ", before " ++ reaction_words c.args.program.now c.args.earlier ++ codes " ends in ") (line_words c.args.end) (also _ _ _ (reaction_words c.args.program.now c.args.later ++ codes " starts at " ++ tag_words c.args.tag ++ codes " in " ++ line_words c.args.start ++ codes ", before " ++ reaction_words c.args.program.now c.args.earlier) (codes " ends in ") (also _ _ _ (reaction_words c.args.program.now c.args.later ++ codes " starts at " ++ tag_words c.args.tag ++ codes " in " ++ line_words c.args.start ++ codes ", before ") (reaction_words c.args.program.now c.args.earlier) (also _ _ _ (reaction_words c.args.program.now c.args.later ++ codes " starts at " ++ tag_words c.args.tag ++ codes " in " ++ line_words c.args.start) (codes ", before ") (also _ _ _ (reaction_words c.args.program.now c.args.later ++ codes " starts at " ++ tag_words c.args.tag ++ codes " in ") (line_words c.args.start) (also _ _ _ (reaction_words c.args.program.now c.args.later ++ codes " starts at " ++ tag_words c.args.tag) (codes " in ") (also _ _ _ (reaction_words c.args.program.now c.args.later ++ codes " starts at ") (tag_words c.args.tag) (also _ _ _ (reaction_words c.args.program.now c.args.later) (codes " starts at ") (c.in_ok-push_reaction.ensures) (c.in_ok-push_str.ensures.bytes)) (c.in_ok-push_tag.ensures)) (c.in_ok-push_str-2.ensures.bytes)) (c.in_ok-push_line.ensures)) (c.in_ok-push_str-3.ensures.bytes)) (c.in_ok-push_reaction-2.ensures)) (c.in_ok-push_str-4.ensures.bytes)) (c.in_ok-push_line-2.ensures)) (c.in_ok-push_str-5.ensures.bytes)
