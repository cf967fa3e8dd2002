use Rattle.lft_check.proofs.ByTagLemmas.ByTag.{AreSlicesTo}
use Rattle.lft_check.proofs.by_tag.slices.slices_of.Given as goal

abbrev pub invariant-loop-place : goal.invariant-loop-place
invariant-loop-place l = AreSlicesTo l.rows l.first l.place l.slices.items
