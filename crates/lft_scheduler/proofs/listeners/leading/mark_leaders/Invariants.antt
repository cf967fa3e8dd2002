use Rattle.lft_scheduler.proofs.Leaders.{AreMarkedTo}
use Rattle.lft_scheduler.proofs.listeners.leading.mark_leaders.Given as goal

abbrev pub invariant-triggers : goal.invariant-triggers
invariant-triggers l = AreMarkedTo l.program l.triggers l.place l.fn.marked l.marked
