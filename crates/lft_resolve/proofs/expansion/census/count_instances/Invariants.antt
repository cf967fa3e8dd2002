use Rattle.lft_resolve.proofs.ExpansionLemmas.Counting.{Counting}
use Rattle.lft_resolve.proofs.expansion.census.count_instances.Given as goal

abbrev pub invariant-loop-counted : goal.invariant-loop-counted
invariant-loop-counted l = Counting l.contents l.main l.counted l.left.items
