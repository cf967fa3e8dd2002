use Rattle.std.proofs.Common.{◌≡◌, ℕ, ◌+◌, ◌/◌, List, length, Some, slice_get}
use Rattle.lft_graph.specs.Sets.{Has}
use Rattle.lft_counts.proofs.overlaps.no_sets.Given as goal

abbrev pub invariant-loop-number : goal.invariant-loop-number
invariant-loop-number l = (length l.sets.items ≡ l.number) × ((k : ℕ) (set : List ℕ) → slice_get l.sets.items k ≡ Some set → (length set ≡ l.count / 64 + 1) × ((r : ℕ) → Has set r → ⊥))
