use Rattle.std.proofs.Common.{sym, subst}
use Rattle.lft_driver.{specs.Explained.AreReasons, proofs.Behind.{text_written, text_refused, no_text}}
use Rattle.lft_driver.proofs.explain.write_reasons.Goals as goal

pub returns-in-Ok-clause-written : goal.returns-in-Ok-clause-written
returns-in-Ok-clause-written g c = text_written (AreReasons c.args.all c.args.plan.now c.args.rows.now c.args.breach) c.as_slice.result.now (subst (AreReasons c.args.all c.args.plan.now c.args.rows.now c.args.breach) (sym c.as_slice.ensures.value) c.in-Ok.ensures) _ _ c.write_text.result c.write_text.ensures.whole

pub returns-in-Ok-clause-refused : goal.returns-in-Ok-clause-refused
returns-in-Ok-clause-refused g c = text_refused (AreReasons c.args.all c.args.plan.now c.args.rows.now c.args.breach) c.as_slice.result.now (subst (AreReasons c.args.all c.args.plan.now c.args.rows.now c.args.breach) (sym c.as_slice.ensures.value) c.in-Ok.ensures) _ _ c.write_text.result c.write_text.ensures.front c.write_text.ensures.part c.write_text.ensures.number

pub returns-in-Err-clause-refused : goal.returns-in-Err-clause-refused
returns-in-Err-clause-refused g c = no_text (AreReasons c.args.all c.args.plan.now c.args.rows.now c.args.breach) (g.W.Write.contents c.args.out.now) c.no_memory.result c.no_memory.ensures.part c.no_memory.ensures.number
