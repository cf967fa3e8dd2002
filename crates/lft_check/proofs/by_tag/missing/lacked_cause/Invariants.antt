use Rattle.std.proofs.Common.{◌-◌, length}
use Rattle.lft_check.{specs.inner.ByTag.Least.AreTriggered, proofs.ByTagLemmas.Walks.IsWalked}
use Rattle.lft_check.proofs.by_tag.missing.lacked_cause.Given as goal

abbrev pub invariant-loop-place : goal.invariant-loop-place
invariant-loop-place l = record { known : AreTriggered l.presence l.reaction l.tags l.known; walked : IsWalked l.presence l.causes l.name (l.shift.time, l.shift.steps) l.fn.low l.tags l.place }

abbrev pub decreases-loop-place : goal.decreases-loop-place
decreases-loop-place l = length l.causes - l.place
