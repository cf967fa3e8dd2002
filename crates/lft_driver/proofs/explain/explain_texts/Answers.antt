use Rattle.std.proofs.Common.{inl, inr}
use Rattle.std.proofs.{lemmas.Result.{IfErr-weaker, IfOk-weaker}, KnownBytes.Keeps-refl}
use Rattle.lft_driver.proofs.Judging.{rows_of_plan}
use Rattle.lft_driver.proofs.explain.explain_texts.Goals as goal

pub returns-in-Ok-clause-explained : goal.returns-in-Ok-clause-explained
returns-in-Ok-clause-explained g c = IfOk-weaker c.explain_plan.result _ _ (λ v h. record { it = c.in-Ok.plan; is_only = c.in-Ok.ensures.plan; said = h }) c.explain_plan.ensures.explained

pub returns-in-Ok-clause-refused : goal.returns-in-Ok-clause-refused
returns-in-Ok-clause-refused g c = IfErr-weaker c.explain_plan.result _ _ (λ f h. inr (record { it = c.in-Ok.plan; is_only = c.in-Ok.ensures.plan; said = h })) c.explain_plan.ensures.refused

pub returns-in-Ok-clause-none : goal.returns-in-Ok-clause-none
returns-in-Ok-clause-none g c = IfErr-weaker c.explain_plan.result _ _ (λ f h t other rows x. h t rows (rows_of_plan c.args.program.now c.args.externals.now c.args.trace.now c.in-Ok.plan c.in-Ok.ensures.plan other rows x)) c.explain_plan.ensures.none

pub returns-in-Err-clause-refused : goal.returns-in-Err-clause-refused
returns-in-Err-clause-refused g c = inl (c.in-Err.ensures.refused, Keeps-refl (g.W.Write.contents c.args.out.now))

pub returns-in-Err-clause-none : goal.returns-in-Err-clause-none
returns-in-Err-clause-none g c = λ t plan rows x. c.in-Err.ensures.none t plan x.is_plan
