use Rattle.std.proofs.Common.{◌≡◌, ℕ, [], length, Some, slice_get}
use Rattle.lft_check.proofs.by_tag.lists.ByReaction.new.Given as goal

abbrev pub invariant-loop : goal.invariant-loop
invariant-loop g l = (length l.rows.items ≡ l.counter) × ((r : ℕ) (x : _) → slice_get l.rows.items r ≡ Some x → x.items ≡ [])
