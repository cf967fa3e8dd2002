use Rattle.lft_scheduler.specs.inner.Filling.{AreArriving}
use Rattle.lft_scheduler.proofs.listeners.arrivals.Arrivals.new.Given as goal

abbrev pub invariant-ports : goal.invariant-ports
invariant-ports l = AreArriving l.program l.number l.lists
