use Rattle.std.proofs.Common.{◌≡◌, length, subst, arith}
use Rattle.lft_stream.proofs.Ranking.{RankedTo, ranked_ordered}
use Rattle.lft_stream.proofs.ranks.is_ranked.Goals as goal

pub returns : goal.returns
returns c = λ z.
    let rows = c.args.rows.now in
    let graph = c.graph-graph.result.now in
    let e : c.loop-place.place ≡ length rows = omega arith in
    ranked_ordered c.args.plan.now.program graph c.graph-graph.ensures.graph rows c.requires (subst (λ n. RankedTo graph.levels rows n) e c.loop-place.invariant.ranked)
