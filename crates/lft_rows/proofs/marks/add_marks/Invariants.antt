use Rattle.std.proofs.Common.{◌≡◌, ◌+◌, length}
use Rattle.lft_rows.specs.inner.Marks.{AreNoneFrom}
use Rattle.lft_rows.proofs.marks.add_marks.Given as goal

abbrev pub invariant-loop-number : goal.invariant-loop-number
invariant-loop-number l = record { none : AreNoneFrom 0 l.places.items; count : length l.places.items ≡ length l.initial.places.items + l.number }
