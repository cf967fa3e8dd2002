use Rattle.std.proofs.Common.{◌≢◌, ℕ, ◌-◌, ◌<◌, length, Some, slice_get}
use Rattle.lft_lists.proofs.walk.path_from.Given as goal

abbrev pub invariant-places : goal.invariant-places
invariant-places l = (k : ℕ) → k < l.place → slice_get l.path k ≢ Some l.number

abbrev pub decreases-places : goal.decreases-places
decreases-places l = length l.path - l.place
