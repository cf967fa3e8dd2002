use Rattle.lft_stream.proofs.Ranking.{StartsWithin, RankedTo}
use Rattle.lft_stream.proofs.ranks.is_ranked.Given as goal

abbrev pub invariant-loop-place : goal.invariant-loop-place
invariant-loop-place l = record { starts : StartsWithin l.graph.levels l.rows l.place l.most; ranked : RankedTo l.graph.levels l.rows l.place }
