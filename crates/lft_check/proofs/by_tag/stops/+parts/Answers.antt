use Rattle.std.proofs.Common.{rules}
use Rattle.lft_check.proofs.ByTagLemmas.Stopped.{stop_of_parts, first_fits, second_fits}
use Rattle.lft_check.proofs.by_tag.stops.+parts.Goals as goal

pub returns : goal.returns
returns g t c = stop_of_parts c.args.rows.now c.split_at.result.0.now c.split_at.result.1.now _ c.split_at.ensures.front c.split_at.ensures.back c.args.plan.now c.earlier_of.result c.join.result.0 c.join.result.1 c.join.ensures.first c.join.ensures.second c.earlier_of.ensures.one c.earlier_of.ensures.first c.earlier_of.ensures.second

pub join-requires-after_bounds : goal.join-requires-after_bounds
join-requires-after_bounds g t c κs within =
    let program = c.args.plan.now.program in
    let one = first_fits c.args.rows.now c.split_at.result.0.now c.split_at.result.1.now _ c.split_at.ensures.front c.split_at.ensures.back program c.requires in
    let other = second_fits c.args.rows.now c.split_at.result.0.now c.split_at.result.1.now _ c.split_at.ensures.front c.split_at.ensures.back program c.requires in
    search (rules, one, other)
