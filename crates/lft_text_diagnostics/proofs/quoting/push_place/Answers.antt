use Rattle.std.proofs.Common.{◌++◌, codes}
use Rattle.std.specs.Prelude.{decimal}
use Rattle.lft_ir.proofs.WordsLemmas.Steps.{also}
use Rattle.lft_text_diagnostics.proofs.quoting.push_place.Goals as goal

pub returns : goal.returns
returns c =
    let line = decimal c.args.place.line in
    let column = decimal c.args.place.column in
    also _ _ _ (codes "Program, line " ++ line ++ codes ", column " ++ column) (codes ": ")
    (also _ _ _ (codes "Program, line " ++ line ++ codes ", column ") column
    (also _ _ _ (codes "Program, line " ++ line) (codes ", column ")
    (also _ _ _ (codes "Program, line ") line c.in_ok-push_str.ensures.bytes c.in_ok-push_number.ensures)
    c.in_ok-push_str-2.ensures.bytes)
    c.in_ok-push_number-2.ensures)
    c.in_ok-push_str-3.ensures.bytes
