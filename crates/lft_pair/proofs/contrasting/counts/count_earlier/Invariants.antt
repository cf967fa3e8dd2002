use Rattle.lft_pair.{specs.Counts.StartsEarlier, proofs.Counting.CountTo}
use Rattle.lft_pair.proofs.contrasting.counts.count_earlier.Given as goal

abbrev pub invariant-loop-place : goal.invariant-loop-place
invariant-loop-place l = CountTo (StartsEarlier l.program l.tag l.reaction) l.rows l.place l.count
