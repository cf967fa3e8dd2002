use Rattle.std.proofs.Common.{ℕ, ◌<◌, ◌≤◌}
use Rattle.lft_validate.specs.inner.Members.{IsMainAt, behind}
use Rattle.lft_validate.proofs.mains.main_from.Given as goal

abbrev pub invariant-loop-place : goal.invariant-loop-place
invariant-loop-place l = (k : ℕ) → l.start ≤ k → k < l.place → IsMainAt (behind l.reactors) k → ⊥
