use Rattle.std.proofs.Common.{◌≡◌, ℕ, ◌<◌, Some, slice_get}
use Rattle.lft_ir.specs.declared.parts.Name.TheVariants.{Port}
use Rattle.lft_facts.proofs.feeding.has_port.Given as goal

abbrev pub invariant-loop-place : goal.invariant-loop-place
invariant-loop-place l = (k : ℕ) → k < l.place → ¬ (slice_get l.names k ≡ Some (Port l.port))
