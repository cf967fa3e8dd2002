use Rattle.std.proofs.Common.{◌≡◌, ℕ, ◌<◌, Some, slice_get}
use Rattle.lft_ir.specs.declared.steps.row.Row.{Row}
use Rattle.lft_model.specs.Breaches.{IsUnended}
use Rattle.lft_rows.proofs.pass.least_open.Given as goal

abbrev pub invariant-loop-place : goal.invariant-loop-place
invariant-loop-place l = (j : ℕ) (row : Row) → j < l.place → slice_get l.rows j ≡ Some row → ¬ IsUnended l.rows j row
