use Rattle.std.proofs.Common.{◌++◌, codes, refl, inr}
use Rattle.lft_ir.proofs.WordsLemmas.Steps.{also}
use Rattle.lft_text_diagnostics.proofs.left_out.push_left_out.Goals as goal

pub returns : goal.returns
returns c =
    let lines = c.as_str.result.now in
    let head = codes "  Further on these are left out:\n" in
    (head ++ lines, inr (lines, refl), also _ _ _ head lines c.in_ok-push_str.ensures.bytes c.in_ok-push_str-2.ensures.bytes)
