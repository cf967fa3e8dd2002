use Rattle.lft_monitor.proofs.Opened.{AreOpenTo}
use Rattle.lft_monitor.proofs.open.open_among.Given as goal

abbrev pub invariant-loop-place : goal.invariant-loop-place
invariant-loop-place l = AreOpenTo l.before l.rows l.place l.runs.items
