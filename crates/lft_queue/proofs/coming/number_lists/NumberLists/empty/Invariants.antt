use Rattle.std.proofs.Common.{◌≡◌, ℕ, [], length, Some, slice_get}
use Rattle.lft_queue.proofs.coming.number_lists.NumberLists.empty.Given as goal

abbrev pub invariant-loop : goal.invariant-loop
invariant-loop l = (length l.lists.items ≡ l.counter) × ((n : ℕ) (list : _) → slice_get l.lists.items n ≡ Some list → list.items ≡ [])
