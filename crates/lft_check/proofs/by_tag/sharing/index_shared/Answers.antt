use Rattle.std.proofs.Common.{rules}
use Rattle.lft_check.proofs.ByTagLemmas.Indexed.{rises_of}
use Rattle.lft_check.proofs.by_tag.sharing.index_shared.Goals as goal

pub join-slices-requires-after_bounds : goal.join-slices-requires-after_bounds
join-slices-requires-after_bounds g c κs within =
    let up = rises_of c.args.traced.plan.now c.args.traced.rows.now c.requires.rules.kept in
    search (rules, up)
