use Rattle.std.proofs.Common.{List, flat_map, take}
use Rattle.std.specs.List.{AllZip}
use Rattle.lft_tree.specs.Tree.{ReactorTree}
use Rattle.lft_resolve.specs.inner.{References.connection_trees, Sheets.{IsJoin, singles_in}, Tables.{IsFile, IsOwn}}
use Rattle.lft_resolve.proofs.by_number.joins.joins_of.Given as goal

abbrev pub invariant-loop-connection : goal.invariant-loop-connection
invariant-loop-connection l = (rs : List ReactorTree) (r : ReactorTree) → IsFile rs l.file → IsOwn r l.own → AllZip (IsJoin rs r) (flat_map singles_in (connection_trees (take l.connection-index l.connection-items))) l.joins.items
