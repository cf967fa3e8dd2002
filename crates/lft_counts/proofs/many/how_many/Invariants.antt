use Rattle.lft_counts.specs.Counts.{IsOver}
use Rattle.lft_graph.specs.Counts.{Count}
use Rattle.lft_counts.proofs.many.how_many.Given as goal

abbrev pub invariant-loop-place : goal.invariant-loop-place
invariant-loop-place l = Count (IsOver l.counts) l.place l.many
