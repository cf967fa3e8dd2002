use Rattle.lft_queue.specs.inner.Coming.Unread.{AreSoonest}
use Rattle.lft_queue.proofs.coming.unread.soonest_of.Given as goal

abbrev pub invariant-ports : goal.invariant-ports
invariant-ports l = AreSoonest l.program l.number l.soonest.items
