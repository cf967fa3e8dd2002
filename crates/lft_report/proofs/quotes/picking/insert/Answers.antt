use Rattle.std.proofs.Common.{arith, ◌∙◌}
use Rattle.lft_report.proofs.QuotesLemmas.Placed.{goes_before, stays}
use Rattle.lft_report.proofs.quotes.picking.insert.Goals as goal

pub returns-in_ok-insert : goal.returns-in_ok-insert
returns-in_ok-insert c =
    let passed = rw c.as_slice.ensures.value at c.place_for-place.ensures.passed in
    let there = rw c.as_slice-2.ensures.value at c.item_at.ensures in
    c.in_ok-insert.ensures.items ∙ goes_before c.args.quotes.now.items c.args.quote c.item_at.result c.place_for-place.result there (omega arith) passed

pub returns-else-quote-item_at : goal.returns-else-quote-item_at
returns-else-quote-item_at c =
    let passed = rw c.as_slice.ensures.value at c.place_for-place.ensures.passed in
    let there = rw c.as_slice-2.ensures.value at c.item_at.ensures in
    let stops = rw c.as_slice.ensures.value at c.place_for-place.ensures.stops in
    stays c.args.quotes.now.items c.args.quote c.item_at.result c.place_for-place.result there (omega (arith, stops c.item_at.result there)) passed
