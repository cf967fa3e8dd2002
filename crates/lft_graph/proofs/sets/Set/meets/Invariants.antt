use Rattle.std.proofs.Common.{◌≡◌, ℕ, ◌<◌}
use Rattle.std.specs.Prelude.{bit_and, slice_index}
use Rattle.lft_graph.proofs.sets.Set.meets.Given as goal

abbrev pub invariant-loop-place : goal.invariant-loop-place
invariant-loop-place l = (j : ℕ) → j < l.place → bit_and (slice_index l.self-inside.words.items j) (slice_index l.other-inside.words.items j) ≡ 0
