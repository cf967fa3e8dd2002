use Rattle.std.proofs.Common.{Any, map, take}
use Rattle.lft_tree.specs.{Tree.ReactorTree, View.assignment_view}
use Rattle.lft_resolve.specs.{Causes.LacksParameter, inner.Tables.IsOwn}
use Rattle.lft_validate.proofs.unknown.first_for_none.Given as goal

abbrev pub invariant-loop-value : goal.invariant-loop-value
invariant-loop-value l = (r : ReactorTree) → IsOwn r l.inner → Any (LacksParameter r) (map assignment_view (take l.value-index l.given)) → ⊥
