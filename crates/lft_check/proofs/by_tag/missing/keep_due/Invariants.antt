use Rattle.lft_check.specs.inner.ByTag.Indexes.{AreTriggeredRows, AreMarkedTo}
use Rattle.lft_check.proofs.by_tag.missing.keep_due.Given as goal

abbrev pub invariant-loop-number : goal.invariant-loop-number
invariant-loop-number l = record { due : AreTriggeredRows l.presence l.due; marked : AreMarkedTo l.places l.known l.number l.fn.due l.due }
