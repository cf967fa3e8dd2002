use Rattle.std.proofs.Common.{inl, inr}
use Rattle.std.proofs.lemmas.Result.{IfErr-weaker}
use Rattle.lft_driver.specs.Refusals.{JudgingRefusal.by_check, JudgeRefusalUnder.{by_judging, by_trace}}
use Rattle.lft_driver.proofs.judge.check_plan.Goals as goal

pub returns-in-Ok-clause-judged : goal.returns-in-Ok-clause-judged
returns-in-Ok-clause-judged g c = c.tell.ensures.judged c.args.trace.now c.in-Ok.ensures.right

pub returns-in-Ok-clause-refused : goal.returns-in-Ok-clause-refused
returns-in-Ok-clause-refused g c = c.tell.ensures.refused c.args.trace.now c.args.workers c.in-Ok.ensures.right c.in-Ok.ensures.workers

pub returns-in-Ok-clause-none : goal.returns-in-Ok-clause-none
returns-in-Ok-clause-none g c = IfErr-weaker c.tell.result _ _ (λ f h t. absurd (h t)) c.tell.ensures.none

pub returns-in-Err-clause-refused : goal.returns-in-Err-clause-refused
returns-in-Err-clause-refused g c = elim c.in-Err.ensures.refused [
  | inl x ↦ by_trace x
  | inr x ↦ by_judging x.0 x.1 (by_check x.2)
]
