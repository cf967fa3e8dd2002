use Rattle.lft_pair.proofs.Odd.{Compared}
use Rattle.lft_pair.proofs.difference.first_odd.Given as goal

abbrev pub invariant-loop-place : goal.invariant-loop-place
invariant-loop-place l = Compared l.plan l.graph.levels l.rows l.others l.place l.kept.starts.read l.kept.starts.places.items l.least
