use Rattle.std.proofs.Common.{◌++◌, List, length, take}
use Rattle.std.specs.List.{AllZip}
use Rattle.lft_tree.specs.{Tree.ReactorTree, View.connection_view}
use Rattle.lft_resolve.specs.inner.{Sheets.{IsJoin, Single, singles_in}, Tables.{IsFile, IsOwn}}
use Rattle.lft_resolve.proofs.by_number.joins.push_joins.Given as goal

abbrev pub invariant-loop-from : goal.invariant-loop-from
invariant-loop-from l = (rs : List ReactorTree) (r : ReactorTree) → IsFile rs l.file → IsOwn r l.own → (before : List Single) → AllZip (IsJoin rs r) before l.initial.joins.items → AllZip (IsJoin rs r) (before ++ take (length l.yielded) (singles_in (connection_view l.connection))) l.joins.items
