use Rattle.std.proofs.Common.{◌-◌}
use Rattle.lft_check.specs.inner.ByTag.Absences.{AreAbsentUntil}
use Rattle.lft_check.proofs.by_tag.sliced.Sliced.first_of.Given as goal

abbrev pub invariant-loop-place : goal.invariant-loop-place
invariant-loop-place l = AreAbsentUntil l.self l.names l.from l.place l.tag l.first

abbrev pub decreases-loop-place : goal.decreases-loop-place
decreases-loop-place l = l.to - l.place
