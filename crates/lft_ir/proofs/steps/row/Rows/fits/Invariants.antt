use Rattle.std.proofs.Common.{◌≡◌, ◌<◌, ℕ, Some, slice_get}
use Rattle.lft_ir.specs.{Steps.Fits.RowFits, declared.steps.row.Row.Row}
use Rattle.lft_ir.proofs.steps.row.Rows.fits.Given as goal

abbrev pub invariant-loop-at : goal.invariant-loop-at
invariant-loop-at l = (k : ℕ) (row : Row) → k < l.at → slice_get l.self k ≡ Some row → RowFits l.program row
