use Rattle.std.proofs.Common.{◌≡◌, ℕ, ◌<◌, Some, slice_get}
use Rattle.lft_ir.specs.declared.parts.{Name.Name, Trigger.TheVariants.On}
use Rattle.lft_facts.specs.inner.Ways.{IsFedUndelayed}
use Rattle.lft_facts.proofs.feeding.feeding_port.Given as goal

abbrev pub invariant-loop-place : goal.invariant-loop-place
invariant-loop-place l = (k : ℕ) (n : Name) → k < l.place → slice_get l.triggers k ≡ Some (On n) → ¬ IsFedUndelayed l.program l.effects n

abbrev pub invariant-loop-place-2 : goal.invariant-loop-place-2
invariant-loop-place-2 l = (k : ℕ) (n : Name) → k < l.place → slice_get l.uses k ≡ Some n → ¬ IsFedUndelayed l.program l.effects n
