use Rattle.std.proofs.Common.{◌≤◌, length, arith}
use Rattle.std.proofs.lemmas.List.{take_all}
use Rattle.lft_coverage.{specs.Facts.order_line, proofs.{Taking.took_nothing, Listed.{took_items, took_one}}}
use Rattle.lft_coverage.proofs.listing.put_orders.Goals as goal

pub loop-place-init : goal.loop-place-init
loop-place-init g c = took_nothing _ _

pub loop-place-preserved : goal.loop-place-preserved
loop-place-preserved g c = took_one (order_line c.args.program.now) c.args.orders.now c.loop-place.place c.item_at.result c.item_at.ensures c.loop-place.invariant c.put_order-whole.ensures

pub returns : goal.returns
returns g c =
    let l : length c.args.orders.now ≤ c.loop-place.place = omega arith in
    took_items (order_line c.args.program.now) _ c.args.orders.now (take_all c.loop-place.place c.args.orders.now l) c.loop-place.invariant
