use Rattle.std.proofs.Common.{◌≡◌, ◌≢◌, ℕ, ◌<◌, Some, slice_get}
use Rattle.lft_ir.specs.declared.steps.row.{Row.Row, Step.TheVariants.End}
use Rattle.lft_races.proofs.hints.rows.none_ends.Given as goal

abbrev pub invariant-loop-place : goal.invariant-loop-place
invariant-loop-place l = (i : ℕ) (row : Row) → i < l.place → slice_get l.rows i ≡ Some row → row.step ≢ End
