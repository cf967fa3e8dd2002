use Rattle.std.proofs.Common.{◌≡◌, ℕ, ◌<◌, slice_get}
use Rattle.lft_pair.specs.{Contrasts.event_of_scheduling, Runs.schedulings}
use Rattle.lft_pair.proofs.contrasting.effects.first_other.Given as goal

abbrev pub invariant-loop-place : goal.invariant-loop-place
invariant-loop-place l = (k : ℕ) → k < l.place → event_of_scheduling (slice_get (schedulings l.mine l.action) k) ≡ event_of_scheduling (slice_get (schedulings l.theirs l.action) k)
