use Rattle.lft_scheduler.specs.inner.Filling.{AreLeading}
use Rattle.lft_scheduler.proofs.listeners.leading.leading.Given as goal

abbrev pub invariant-reactions : goal.invariant-reactions
invariant-reactions l = AreLeading l.program l.number l.marked.items
