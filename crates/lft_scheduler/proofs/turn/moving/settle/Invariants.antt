use Rattle.std.proofs.Common.{[]}
use Rattle.lft_scheduler.specs.inner.Seats.{IsMoving, AreFreeSeats, KeepsPhases, uncounted}
use Rattle.lft_scheduler.proofs.turn.moving.settle.Given as goal

abbrev pub invariant-walk : goal.invariant-walk
invariant-walk l = IsMoving l.up l.after l.seats l.stack l.left [] × AreFreeSeats l.seats l.frees × KeepsPhases l.fn.seats l.seats

abbrev pub decreases-walk : goal.decreases-walk
decreases-walk l = uncounted l.up l.seats
