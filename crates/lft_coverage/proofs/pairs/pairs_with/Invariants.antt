use Rattle.std.proofs.Common.{◌*◌, length, min}
use Rattle.lft_graph.specs.Counts.{Count}
use Rattle.lft_coverage.specs.inner.Pairs.{IsCountedWith}
use Rattle.lft_coverage.proofs.pairs.pairs_with.Given as goal

abbrev pub invariant-loop-word : goal.invariant-loop-word
invariant-loop-word l = Count (λ a. IsCountedWith l.overlaps a l.reaction) (min (length l.program.reactions) (l.word * 64)) l.many
