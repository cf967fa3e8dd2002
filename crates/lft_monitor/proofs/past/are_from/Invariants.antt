use Rattle.lft_monitor.proofs.Behind.{AreFromTo}
use Rattle.lft_monitor.proofs.past.are_from.Given as goal

abbrev pub invariant-loop-place : goal.invariant-loop-place
invariant-loop-place l = AreFromTo l.rows l.low l.place
