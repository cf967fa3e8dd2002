-- Rows that are of a program, however many there are.
use Rattle.std.specs.Prelude.{◌≡◌, ℕ, List, Some, slice_get}
use Rattle.lft_ir.specs.{Parts.Parts, declared.steps.row.Row.Row, Steps.Fits.RowFits}

-- each row is of the program and recorded
abbrev pub EachFits : Parts → List Row → Type 0
EachFits program t = (i : ℕ) (row : Row) → slice_get t i ≡ Some row → RowFits program row
