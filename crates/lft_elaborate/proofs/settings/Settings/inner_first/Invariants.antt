use Rattle.std.proofs.Common.{◌≡◌, ℕ, Some, slice_get}
use Rattle.lft_classes.specs.inner.Walks.{Has}
use Rattle.lft_elaborate.proofs.settings.Settings.inner_first.Given as goal

abbrev pub invariant-loop-place : goal.invariant-loop-place
invariant-loop-place l = (k : ℕ) (p : ℕ × ℕ) → slice_get l.places.items k ≡ Some p → Has l.used p.1
