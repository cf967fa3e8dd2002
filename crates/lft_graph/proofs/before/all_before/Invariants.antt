use Rattle.lft_graph.specs.inner.Walks.{HasLists}
use Rattle.lft_graph.proofs.before.all_before.Given as goal

abbrev pub invariant-reactions : goal.invariant-reactions
invariant-reactions l = HasLists l.program l.number l.lists.items
