use Rattle.std.proofs.Common.{◌≡◌, ◌<◌, ℕ, Option, Some, None, slice_get}
use Rattle.lft_tag.specs.declared.Shift.{Shift}
use Rattle.lft_queue.proofs.coming.unread.is_any.Given as goal

abbrev pub invariant-loop-place : goal.invariant-loop-place
invariant-loop-place l = (o : ℕ) (time : Option Shift) → o < l.place → slice_get l.soonest o ≡ Some time → time ≡ None
