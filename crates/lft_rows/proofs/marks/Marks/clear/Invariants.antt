use Rattle.std.proofs.Common.{◌≡◌, ℕ, ◌<◌, ◌≤◌, length, Some, slice_get}
use Rattle.lft_rows.proofs.marks.Marks.clear.Given as goal

abbrev pub invariant-loop-seat : goal.invariant-loop-seat
invariant-loop-seat l = record { inputs : l.self.inputs.items ≡ l.fn.self.inputs.items; firsts : l.self.firsts.items ≡ l.fn.self.firsts.items; count : length l.self.places.items ≡ length l.fn.self.places.items; none : (k m : ℕ) → k < l.seat → slice_get l.self.places.items k ≡ Some m → m ≤ 0 }
