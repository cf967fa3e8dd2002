use Rattle.std.proofs.Common.{[]}
use Rattle.lft_report.specs.Quotes.Picked.{inserted}
use Rattle.lft_ir.proofs.WordsLemmas.Steps.{fold_more}
use Rattle.lft_report.proofs.quotes.picking.in_order.Goals as goal

pub loop-place-preserved : goal.loop-place-preserved
loop-place-preserved c = fold_more inserted [] c.args.named.now c.loop-place.place c.item_at.result c.loop-place.quotes.items c.insert.new.quotes.items c.item_at.ensures c.loop-place.invariant c.in_ok-insert.ensures
