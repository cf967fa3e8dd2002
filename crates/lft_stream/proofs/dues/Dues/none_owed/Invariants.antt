use Rattle.std.proofs.Common.{◌≡◌, ℕ, ◌<◌, List, Some, slice_get}
use Rattle.lft_stream.specs.{declared.due.Due.Due, inner.Dues.IsOwed}
use Rattle.lft_stream.proofs.dues.Dues.none_owed.Given as goal

abbrev pub invariant-loop-number : goal.invariant-loop-number
invariant-loop-number l = (r k : ℕ) (list : List Due) (due : Due) → r < l.number → slice_get l.self r ≡ Some list → slice_get list k ≡ Some due → ¬ IsOwed l.last due
