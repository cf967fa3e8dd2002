use Rattle.lft_scheduler.specs.inner.Seats.{IsMirrored}
use Rattle.lft_scheduler.proofs.turn.mirror.mirror.Given as goal

abbrev pub invariant-reactions : goal.invariant-reactions
invariant-reactions l = IsMirrored l.graph.before l.reaction l.after
