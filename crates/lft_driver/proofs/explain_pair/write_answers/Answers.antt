use Rattle.std.proofs.Common.{sym, subst}
use Rattle.lft_driver.{specs.PairExplained.AreAnswers, proofs.Behind.{text_written, text_refused, no_text}}
use Rattle.lft_driver.proofs.explain_pair.write_answers.Goals as goal

pub returns-in-Ok-clause-written : goal.returns-in-Ok-clause-written
returns-in-Ok-clause-written g c = text_written (AreAnswers c.args.all c.args.plan.now c.args.first.now c.args.second.now c.args.tag c.args.reaction) c.as_slice.result.now (subst (AreAnswers c.args.all c.args.plan.now c.args.first.now c.args.second.now c.args.tag c.args.reaction) (sym c.as_slice.ensures.value) c.in-Ok.ensures) _ _ c.write_text.result c.write_text.ensures.whole

pub returns-in-Ok-clause-refused : goal.returns-in-Ok-clause-refused
returns-in-Ok-clause-refused g c = text_refused (AreAnswers c.args.all c.args.plan.now c.args.first.now c.args.second.now c.args.tag c.args.reaction) c.as_slice.result.now (subst (AreAnswers c.args.all c.args.plan.now c.args.first.now c.args.second.now c.args.tag c.args.reaction) (sym c.as_slice.ensures.value) c.in-Ok.ensures) _ _ c.write_text.result c.write_text.ensures.front c.write_text.ensures.part c.write_text.ensures.number

pub returns-in-Err-clause-refused : goal.returns-in-Err-clause-refused
returns-in-Err-clause-refused g c = no_text (AreAnswers c.args.all c.args.plan.now c.args.first.now c.args.second.now c.args.tag c.args.reaction) (g.W.Write.contents c.args.out.now) c.no_memory.result c.no_memory.ensures.part c.no_memory.ensures.number
