use Rattle.std.proofs.Common.{◌≡◌, ◌≢◌, ℕ, ◌<◌, Some, slice_get}
use Rattle.lft_ir.specs.declared.{parts.{Name.Name, Value.Value}, steps.row.{Row.Row, Step.TheVariants.Write}}
use Rattle.lft_races.proofs.hints.rows.none_writes.Given as goal

abbrev pub invariant-loop-place : goal.invariant-loop-place
invariant-loop-place l = (i : ℕ) (row : Row) (n : Name) (v : Value) → i < l.place → slice_get l.rows i ≡ Some row → row.step ≢ Write n v
