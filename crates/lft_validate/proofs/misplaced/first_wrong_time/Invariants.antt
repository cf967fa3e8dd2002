use Rattle.std.proofs.Common.{Any, take}
use Rattle.lft_tree.specs.{Tree.ReactorTree, View.time_view}
use Rattle.lft_resolve.specs.{Causes.IsMisplacedTime, inner.Tables.IsOwn}
use Rattle.lft_validate.specs.inner.Members.{behind}
use Rattle.lft_validate.proofs.misplaced.first_wrong_time.Given as goal

abbrev pub invariant-loop-time : goal.invariant-loop-time
invariant-loop-time l = (r : ReactorTree) → IsOwn r l.own → Any (λ t. IsMisplacedTime r (time_view t)) (behind (take l.time-index l.times)) → ⊥
