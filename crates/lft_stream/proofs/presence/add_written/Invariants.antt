use Rattle.std.proofs.Common.{◌≡◌, ◌<◌, ℕ, List, Some, Contains, slice_get}
use Rattle.lft_ir.specs.declared.{parts.{Value.Value, Name.TheVariants.Port}, steps.row.{Row.Row, Step.TheVariants.Write}}
use Rattle.lft_stream.proofs.presence.add_written.Given as goal

abbrev pub invariant-loop-place : goal.invariant-loop-place
invariant-loop-place l = (i o p : ℕ) (x : Row) (v : Value) (list : List ℕ) → i < l.place → slice_get l.own i ≡ Some x → x.step ≡ Write (Port o) v → slice_get l.channels.at_once o ≡ Some list → Contains list p → Contains l.names.items (Port p)
