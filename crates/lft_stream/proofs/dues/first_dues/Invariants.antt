use Rattle.std.proofs.Common.{ℕ, [], filter_map, take}
use Rattle.lft_stream.specs.inner.Dues.{timed, AreTriggersDue}
use Rattle.lft_stream.proofs.dues.first_dues.Given as goal

abbrev pub invariant-loop-place : goal.invariant-loop-place
invariant-loop-place l = (r : ℕ) → AreTriggersDue l.plan [] r (filter_map timed (take l.place l.triggers)) l.dues.items
