use Rattle.std.proofs.Common.{◌≡◌, ◌≤◌, length, arith, ◌∙◌}
use Rattle.lft_resolve.proofs.ExpansionLemmas.Listing.{listing_more, listing_next, listing_end}
use Rattle.lft_resolve.proofs.expansion.numbering.list_things.Goals as goal

pub things-preserved : goal.things-preserved
things-preserved c = rw c.in_ok-push.ensures.items (listing_more c.args.counts.now c.args.instances.now c.instances.number c.things.place c.things.all.items c.things.invariant)

pub instances-preserved : goal.instances-preserved
instances-preserved c =
    let low : c.count_at-place-end.result ≤ c.things.place = c.things-test.false in
    let high : c.things.place ≤ c.count_at-place-end.result = c.things.auto.place-end in
    let all : c.things.place ≡ c.count_at-place-end.result = omega arith in
    listing_next c.args.counts.now c.args.instances.now c.instances.number c.things.place c.things.all.items c.item_at-reactor.result c.things.invariant c.item_at-reactor.ensures (all ∙ c.count_at-place-end.ensures)

pub returns : goal.returns
returns c =
    let low : length c.args.instances.now ≤ c.instances.number = c.instances-test.false in
    let high : c.instances.number ≤ length c.args.instances.now = c.instances.auto.number-end in
    listing_end c.args.counts.now c.args.instances.now c.instances.number c.instances.all.items c.instances.invariant (omega arith)
