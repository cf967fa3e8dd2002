use Rattle.std.proofs.Common.{◌≡◌, drop}
use Rattle.lft_scheduler.specs.inner.Seats.{IsMoving, AreFreeSeats, KeepsPhases, uncounted}
use Rattle.lft_scheduler.proofs.turn.moving.tell.Given as goal

abbrev pub invariant-members : goal.invariant-members
invariant-members l = IsMoving l.up l.after l.seats l.stack l.left (drop l.place l.list) × AreFreeSeats l.seats l.frees × (uncounted l.up l.seats ≡ uncounted l.up l.fn.seats) × KeepsPhases l.fn.seats l.seats
