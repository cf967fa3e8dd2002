-- Inside: runs without an end among the rows so far.
use Rattle.std.specs.Prelude.{◌≡◌, ℕ, ◌<◌, List, Some, slice_get}
use Rattle.lft_ir.specs.declared.steps.row.{Row.Row, Step.TheVariants.End}

-- each row is of a reaction below the number
abbrev pub AreOfReactionsBelow : List Row → ℕ → Type 0
AreOfReactionsBelow t n = (i : ℕ) (row : Row) → slice_get t i ≡ Some row → row.reaction < n

-- of the first n rows each that ends a run stands before the place that is kept of its reaction. This serves the proof alone
abbrev pub EndBefore : List Row → ℕ → List ℕ → Type 0
EndBefore t n last = (k x : ℕ) (row : Row) → k < n → slice_get t k ≡ Some row → row.step ≡ End → slice_get last row.reaction ≡ Some x → k < x
