use Rattle.std.proofs.Common.{◌≡◌, ◌-◌, ◌≤◌, length}
use Rattle.lft_races.{specs.inner.Noted.{AreUpTo, IsNew}, proofs.Racing.NoneBefore}
use Rattle.lft_races.proofs.finding.first_race.Given as goal

abbrev pub invariant-loop-first : goal.invariant-loop-first
invariant-loop-first l = record { within : l.first ≤ length l.rows; new : IsNew l.rows l.first; none : NoneBefore l.plan.program l.rows l.first; long : length l.ends.items ≡ length l.plan.program.reactions; low : AreUpTo l.ends.items l.first }

abbrev pub decreases-loop-first : goal.decreases-loop-first
decreases-loop-first l = length l.rows - l.first
