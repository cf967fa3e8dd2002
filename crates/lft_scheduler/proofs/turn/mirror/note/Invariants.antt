use Rattle.std.proofs.Common.{drop}
use Rattle.lft_scheduler.specs.inner.Seats.{IsNoted}
use Rattle.lft_scheduler.proofs.turn.mirror.note.Given as goal

abbrev pub invariant-members : goal.invariant-members
invariant-members l = IsNoted l.reaction l.mine (drop l.place l.mine) l.fn.after l.after
