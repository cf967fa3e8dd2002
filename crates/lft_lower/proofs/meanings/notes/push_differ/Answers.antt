use Rattle.std.proofs.Common.{◌++◌, codes, decimal, string_bytes}
use Rattle.lft_ir.proofs.WordsLemmas.Steps.{also}
use Rattle.lft_lower.proofs.meanings.notes.push_differ.Goals as goal

pub returns : goal.returns
returns c =
    let line = string_bytes c.args.line.now in
    let second = string_bytes c.push_counted-2.new.text in
    let left = codes "the widths differ: " ++ decimal c.args.left in
    let right = codes " on the left, " ++ decimal c.args.right in
    also line second (string_bytes c.push_str.new.self) (left ++ right) (codes " on the right. The rest stays unconnected.") (also line (string_bytes c.push_counted.new.text) second left right c.in_ok-push_counted.ensures c.in_ok-push_counted-2.ensures) c.in_ok-push_str.ensures.bytes
