use Rattle.std.proofs.Common.{Any, take}
use Rattle.lft_tree.specs.View.{time_view}
use Rattle.lft_resolve.specs.Causes.{IsLongTime}
use Rattle.lft_validate.specs.inner.Members.{behind}
use Rattle.lft_validate.proofs.member.first_long.Given as goal

abbrev pub invariant-loop-time : goal.invariant-loop-time
invariant-loop-time l = Any (λ t. IsLongTime (time_view t)) (behind (take l.time-index l.times)) → ⊥
