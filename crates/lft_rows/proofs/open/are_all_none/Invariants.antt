use Rattle.std.proofs.Common.{◌≡◌, ◌<◌, ℕ, Option, Some, None, slice_get}
use Rattle.lft_rows.proofs.open.are_all_none.Given as goal

abbrev pub invariant-loop-number : goal.invariant-loop-number
invariant-loop-number l = (k : ℕ) (place : Option ℕ) → k < l.number → slice_get l.places k ≡ Some place → place ≡ None
