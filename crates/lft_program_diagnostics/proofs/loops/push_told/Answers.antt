use Rattle.std.proofs.Common.{◌++◌, ap, ◌∙◌, sym, codes, string_bytes}
use Rattle.lft_ir.{specs.Words.Words.name_words, proofs.WordsLemmas.Steps.also}
use Rattle.lft_program_diagnostics.specs.Loops.{between, told_step}
use Rattle.lft_program_diagnostics.proofs.loops.push_told.Goals as goal

pub returns-in_ok-push_str-in-Some-2 : goal.returns-in_ok-push_str-in-Some-2
returns-in_ok-push_str-in-Some-2 c =
    let program = c.args.program.now in
    let first = between program c.args.first (codes " writes what ") c.args.second in
    let name = name_words program c.in-Some.name in
    also _ _ _ (first ++ codes " reads of " ++ name) (codes ".\n")
    (also _ _ _ (first ++ codes " reads of ") name
    (also _ _ _ first (codes " reads of ") c.in_ok-push_between-in-Some.ensures c.in_ok-push_str-in-Some.ensures.bytes)
    c.in_ok-push_name-in-Some.ensures)
    c.in_ok-push_str-in-Some-2.ensures.bytes
    ∙ ap (λ f. string_bytes c.args.out.now ++ told_step program c.args.first c.args.second f) (sym c.in-Some.is)
