use Rattle.lft_graph.proofs.Levelling.{Levelled}
use Rattle.lft_graph.proofs.levels.levels_along.Given as goal

abbrev pub invariant-order : goal.invariant-order
invariant-order l = Levelled l.before l.order l.levels.items l.place
