use Rattle.lft_graph.specs.inner.Walks.{IsLevelOf}
use Rattle.lft_graph.proofs.levels.level_of.Given as goal

abbrev pub invariant-members : goal.invariant-members
invariant-members l = IsLevelOf l.levels l.list l.place l.level
