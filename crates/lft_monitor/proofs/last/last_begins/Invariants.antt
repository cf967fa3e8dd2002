use Rattle.std.proofs.Common.{◌-◌}
use Rattle.lft_monitor.specs.inner.Follows.{AreAtLastTag}
use Rattle.lft_monitor.proofs.last.last_begins.Given as goal

abbrev pub invariant-loop-passed : goal.invariant-loop-passed
invariant-loop-passed l = AreAtLastTag l.rows l.end (l.end - l.passed)
