use Rattle.std.proofs.Common.{inl, inr}
use Rattle.std.proofs.lemmas.Result.{IfErr-weaker, IfOk-weaker}
use Rattle.lft_driver.proofs.Judging.{rows_of_plan}
use Rattle.lft_driver.proofs.alone.judge_texts_alone.Goals as goal

pub returns-in-Ok-clause-judged : goal.returns-in-Ok-clause-judged
returns-in-Ok-clause-judged g c = IfOk-weaker c.judge_plan_alone.result _ _ (λ v h. record { it = c.in-Ok.plan; is_only = c.in-Ok.ensures.plan; said = h }) c.judge_plan_alone.ensures.judged

pub returns-in-Ok-clause-refused : goal.returns-in-Ok-clause-refused
returns-in-Ok-clause-refused g c = IfErr-weaker c.judge_plan_alone.result _ _ (λ f h. inr (record { it = c.in-Ok.plan; is_only = c.in-Ok.ensures.plan; said = h })) c.judge_plan_alone.ensures.refused

pub returns-in-Ok-clause-none : goal.returns-in-Ok-clause-none
returns-in-Ok-clause-none g c = IfErr-weaker c.judge_plan_alone.result _ _ (λ f h t other rows x. h t rows (rows_of_plan c.args.program.now c.args.externals.now c.args.trace.now c.in-Ok.plan c.in-Ok.ensures.plan other rows x)) c.judge_plan_alone.ensures.none

pub returns-in-Err-clause-refused : goal.returns-in-Err-clause-refused
returns-in-Err-clause-refused g c = inl c.in-Err.ensures.refused

pub returns-in-Err-clause-none : goal.returns-in-Err-clause-none
returns-in-Err-clause-none g c = λ t plan rows x. c.in-Err.ensures.none t plan x.is_plan
