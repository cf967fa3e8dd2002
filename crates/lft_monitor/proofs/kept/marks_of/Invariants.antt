use Rattle.lft_monitor.proofs.Keeping.{AreMarkedTo, IsIdleApart}
use Rattle.lft_monitor.proofs.kept.marks_of.Given as goal

abbrev pub invariant-loop-place : goal.invariant-loop-place
invariant-loop-place l = AreMarkedTo l.plan (IsIdleApart l.plan l.fn.low l.fn.is_apart) l.rows l.place l.marks.items l.starts.items
