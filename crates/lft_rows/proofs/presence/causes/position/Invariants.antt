use Rattle.std.proofs.Common.{◌-◌}
use Rattle.lft_rows.proofs.PresenceLemmas.Positions.{IsBetween}
use Rattle.lft_rows.proofs.presence.causes.position.Given as goal

abbrev pub invariant-loop-low : goal.invariant-loop-low
invariant-loop-low l = IsBetween l.causes l.name (l.shift.time, l.shift.steps) l.tag l.past l.low l.high

abbrev pub decreases-loop-low : goal.decreases-loop-low
decreases-loop-low l = l.high - l.low
