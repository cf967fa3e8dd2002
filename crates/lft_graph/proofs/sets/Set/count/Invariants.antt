use Rattle.std.proofs.Common.{◌*◌}
use Rattle.lft_graph.specs.{Counts.Count, Sets.Has}
use Rattle.lft_graph.proofs.sets.Set.count.Given as goal

abbrev pub invariant-loop-place : goal.invariant-loop-place
invariant-loop-place l = Count (Has l.self-inside.words.items) (64 * l.place) l.many
