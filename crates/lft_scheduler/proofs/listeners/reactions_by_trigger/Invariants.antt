use Rattle.lft_scheduler.specs.inner.Filling.{AreListed}
use Rattle.lft_scheduler.proofs.listeners.reactions_by_trigger.Given as goal

abbrev pub invariant-reactions : goal.invariant-reactions
invariant-reactions l = AreListed l.program l.number l.lists
