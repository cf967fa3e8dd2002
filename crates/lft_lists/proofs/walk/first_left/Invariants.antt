use Rattle.std.proofs.Common.{◌-◌, length}
use Rattle.lft_lists.specs.inner.Walking.{WaysPassed}
use Rattle.lft_lists.proofs.walk.first_left.Given as goal

abbrev pub invariant-ways : goal.invariant-ways
invariant-ways g l = WaysPassed l.marks (g.W.Ways.ways l.ways l.number) l.from l.place

abbrev pub decreases-ways : goal.decreases-ways
decreases-ways g l = length (g.W.Ways.ways l.ways l.number) - l.place
