use Rattle.std.proofs.Common.{◌≡◌, ℕ, ◌<◌, Some, slice_get}
use Rattle.lft_ir.specs.declared.parts.{Name.TheVariants.Port, Trigger.TheVariants.On}
use Rattle.lft_races.proofs.hints.guessing.has_port.Given as goal

abbrev pub invariant-loop-place : goal.invariant-loop-place
invariant-loop-place l = (i p : ℕ) → i < l.place → slice_get l.triggers i ≡ Some (On (Port p)) → ⊥
