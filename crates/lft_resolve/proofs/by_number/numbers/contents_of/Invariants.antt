use Rattle.std.proofs.Common.{List, take}
use Rattle.std.specs.List.{AllZip}
use Rattle.lft_tree.specs.Tree.{ReactorTree}
use Rattle.lft_resolve.specs.inner.{Numbers.IsReactorNumberOf, References.instance_trees, Tables.IsFile}
use Rattle.lft_resolve.proofs.by_number.numbers.contents_of.Given as goal

abbrev pub invariant-loop-instance : goal.invariant-loop-instance
invariant-loop-instance l = (rs : List ReactorTree) → IsFile rs l.file → AllZip (IsReactorNumberOf rs) (instance_trees (take l.instance-index l.instance-items)) l.instances.items
