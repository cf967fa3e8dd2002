use Rattle.lft_report.specs.Quotes.Quoted.{widened}
use Rattle.lft_ir.proofs.WordsLemmas.Steps.{fold_more}
use Rattle.lft_report.proofs.quotes.quoting.greatest.Goals as goal

pub loop-place-preserved : goal.loop-place-preserved
loop-place-preserved c = fold_more (widened c.args.program.now c.args.rows.now) (record { line = 0; row = 0 }) c.args.quotes.now c.loop-place.place c.item_at.result c.loop-place.widths _ c.item_at.ensures c.loop-place.invariant c.in_ok-widths.ensures
