use Rattle.std.proofs.Common.{◌≡◌, ◌++◌}
use Rattle.lft_report.specs.Hops.{way_back}
use Rattle.lft_report.proofs.hops.way_back.Given as goal

abbrev pub invariant-loop-left : goal.invariant-loop-left
invariant-loop-left l = l.way.items ++ way_back l.program l.left l.at ≡ way_back l.program 21 l.port

abbrev pub decreases-loop-left : goal.decreases-loop-left
decreases-loop-left l = l.left
