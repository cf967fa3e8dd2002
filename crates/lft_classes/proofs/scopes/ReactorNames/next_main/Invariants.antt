use Rattle.std.proofs.Common.{ℕ, ◌<◌, ◌≤◌}
use Rattle.lft_classes.specs.{declared.scopes.Class.Class, inner.Scopes.IsMainClassAt}
use Rattle.lft_classes.proofs.scopes.ReactorNames.next_main.Given as goal

abbrev pub invariant-loop-place : goal.invariant-loop-place
invariant-loop-place l = (number : ℕ) (c : Class) → l.fn.from ≤ number → number < l.place → IsMainClassAt l.self number c → ⊥
