use Rattle.std.proofs.Common.{◌≡◌, ◌+◌, ◌/◌, length}
use Rattle.lft_graph.specs.inner.Sets.{IsUnion}
use Rattle.lft_graph.proofs.ancestors.union_of.Given as goal

abbrev pub invariant-loop-place : goal.invariant-loop-place
invariant-loop-place l = record { room : length l.union ≡ length l.sets / 64 + 1; members : IsUnion l.list l.place l.sets l.union }
