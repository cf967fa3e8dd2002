use Rattle.std.proofs.Common.{List, take}
use Rattle.std.specs.List.{AllZip}
use Rattle.lft_tree.specs.Tree.{ReactorTree}
use Rattle.lft_resolve.specs.inner.{Sheets.IsReactions, Tables.IsFile}
use Rattle.lft_resolve.proofs.by_number.cues.reactions_among.Given as goal

abbrev pub invariant-loop-own : goal.invariant-loop-own
invariant-loop-own l = (rs : List ReactorTree) → IsFile rs l.file → AllZip (IsReactions rs) (take l.own-index rs) l.table.items
