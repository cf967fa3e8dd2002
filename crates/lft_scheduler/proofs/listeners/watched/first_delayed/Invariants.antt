use Rattle.lft_scheduler.specs.inner.Filling.{AreFirstDelayedPorts}
use Rattle.lft_scheduler.proofs.listeners.watched.first_delayed.Given as goal

abbrev pub invariant-ports : goal.invariant-ports
invariant-ports l = AreFirstDelayedPorts l.program l.number l.firsts.items
