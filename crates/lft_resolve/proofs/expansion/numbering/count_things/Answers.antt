use Rattle.std.proofs.Common.{arith}
use Rattle.lft_resolve.proofs.ExpansionLemmas.Things.{things_more}
use Rattle.lft_resolve.proofs.expansion.numbering.count_things.Goals as goal

pub instances-preserved : goal.instances-preserved
instances-preserved c =
    let more = things_more c.args.counts.now c.args.instances.now c.instances.number c.item_at.result c.item_at.ensures in
    let count = c.count_at.ensures in
    omega (arith, more, count)
