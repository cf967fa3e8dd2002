use Rattle.lft_graph.proofs.Arranging.{Paired, Arranged}
use Rattle.lft_graph.proofs.order.by_level.Given as goal

abbrev pub invariant-levels : goal.invariant-levels
invariant-levels l = Paired l.levels l.pairs.items l.number

abbrev pub invariant-pairs : goal.invariant-pairs
invariant-pairs l = Arranged l.pairs.items l.order.items l.place
