use Rattle.std.proofs.Common.{[]}
use Rattle.lft_report.specs.Quotes.Marks.{named_rows}
use Rattle.lft_ir.proofs.WordsLemmas.Steps.{said_more}
use Rattle.lft_report.proofs.quotes.picking.named.Goals as goal

pub loop-place-preserved : goal.loop-place-preserved
loop-place-preserved c = said_more named_rows c.args.facts.now c.loop-place.place c.item_at.result [] c.loop-place.quotes.items c.push_named.new.quotes.items c.item_at.ensures c.loop-place.invariant c.in_ok-push_named.ensures
