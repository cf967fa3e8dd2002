use Rattle.std.proofs.Common.{◌+◌, ◌-◌}
use Rattle.lft_check.{specs.inner.ByTag.Least.AreTriggered, proofs.ByTagLemmas.Firings.WalkedTo}
use Rattle.lft_check.proofs.by_tag.missing.lacked_firing.Given as goal

abbrev pub invariant-loop-time : goal.invariant-loop-time
invariant-loop-time l = record { known : AreTriggered l.presence l.reaction l.tags l.known; walked : WalkedTo l.presence l.timer l.fn.low l.tags l.time }

abbrev pub decreases-loop-time : goal.decreases-loop-time
decreases-loop-time l = l.last + 1 - l.time
