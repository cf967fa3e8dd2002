use Rattle.lft_graph.specs.inner.Walks.{KnowsWriters}
use Rattle.lft_graph.proofs.writers.last_writers.Given as goal

abbrev pub invariant-reactions : goal.invariant-reactions
invariant-reactions l = KnowsWriters l.program l.number l.writers.items
