use Rattle.std.proofs.Common.{length}
use Rattle.lft_graph.{specs.Precedence.Precedes, proofs.Once.Rows}
use Rattle.lft_graph.proofs.unordered.ordered_pairs.Given as goal

abbrev pub invariant-loop-reaction : goal.invariant-loop-reaction
invariant-loop-reaction l = Rows (Precedes l.program) (length l.program.reactions) l.reaction l.many
