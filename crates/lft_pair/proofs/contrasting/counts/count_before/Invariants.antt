use Rattle.lft_pair.{specs.Counts.StartsBefore, proofs.Counting.CountTo}
use Rattle.lft_pair.proofs.contrasting.counts.count_before.Given as goal

abbrev pub invariant-loop-place : goal.invariant-loop-place
invariant-loop-place l = CountTo (StartsBefore l.tag) l.rows l.place l.count
