use Rattle.std.proofs.Common.{length}
use Rattle.lft_graph.proofs.Once.{Rows}
use Rattle.lft_coverage.specs.inner.Pairs.{IsCountedWith}
use Rattle.lft_coverage.proofs.pairs.met_pairs.Given as goal

abbrev pub invariant-loop-reaction : goal.invariant-loop-reaction
invariant-loop-reaction l = Rows (IsCountedWith l.overlaps) (length l.program.reactions) l.reaction l.many
