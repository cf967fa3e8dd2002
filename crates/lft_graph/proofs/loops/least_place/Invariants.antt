use Rattle.std.proofs.Common.{◌≡◌, ℕ, ◌<◌, ◌≤◌, length, Some, slice_get}
use Rattle.lft_graph.proofs.loops.least_place.Given as goal

abbrev pub invariant-places : goal.invariant-places
invariant-places l = (l.least < length l.circle) × ((i a b : ℕ) → i < l.place → slice_get l.circle i ≡ Some a → slice_get l.circle l.least ≡ Some b → b ≤ a)
