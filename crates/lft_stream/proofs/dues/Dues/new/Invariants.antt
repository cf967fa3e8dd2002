use Rattle.std.proofs.Common.{◌≡◌, ℕ, List, [], length, Some, slice_get}
use Rattle.lft_stream.specs.{declared.due.Due.Due, inner.Dues.AreDueOf}
use Rattle.lft_stream.proofs.dues.Dues.new.Given as goal

abbrev pub invariant-loop-number : goal.invariant-loop-number
invariant-loop-number l = record { as_long : length l.lists.items ≡ l.number; each : (r : ℕ) (list : List Due) → slice_get l.lists.items r ≡ Some list → AreDueOf l.plan [] r list }
