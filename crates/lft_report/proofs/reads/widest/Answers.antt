use Rattle.lft_report.specs.Reads.{widened}
use Rattle.lft_ir.proofs.WordsLemmas.Steps.{fold_more}
use Rattle.lft_report.proofs.reads.widest.Goals as goal

pub loop-place-preserved : goal.loop-place-preserved
loop-place-preserved c = fold_more (widened c.args.program.now) (record { name = 5; read = 4; present = 7 }) c.args.facts.now c.loop-place.place c.item_at.result c.loop-place.widths _ c.item_at.ensures c.loop-place.invariant c.in_ok-widths.ensures
