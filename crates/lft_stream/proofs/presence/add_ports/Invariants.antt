use Rattle.std.proofs.Common.{◌≡◌, ◌<◌, ℕ, Some, Contains, slice_get}
use Rattle.lft_ir.specs.declared.parts.Name.{Name, TheVariants.Port}
use Rattle.lft_stream.proofs.presence.add_ports.Given as goal

abbrev pub invariant-loop-place : goal.invariant-loop-place
invariant-loop-place l = record { kept : (n : Name) → Contains l.fn.names.items n → Contains l.names.items n; added : (k p : ℕ) → k < l.place → slice_get l.ports k ≡ Some p → Contains l.names.items (Port p) }
