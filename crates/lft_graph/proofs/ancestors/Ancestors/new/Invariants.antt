use Rattle.lft_graph.proofs.Ancestry.{AreAncestorsTo}
use Rattle.lft_graph.proofs.ancestors.Ancestors.new.Given as goal

abbrev pub invariant-loop-place : goal.invariant-loop-place
invariant-loop-place l = AreAncestorsTo l.program l.order l.place l.sets.items
