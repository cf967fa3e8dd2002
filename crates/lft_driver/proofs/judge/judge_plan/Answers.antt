use Rattle.std.proofs.lemmas.Result.{IfErr-weaker}
use Rattle.lft_driver.proofs.judge.judge_plan.Goals as goal

pub returns-in-Some-clause-judged : goal.returns-in-Some-clause-judged
returns-in-Some-clause-judged g c = c.tell.ensures.judged c.args.trace.now c.in-Some.ensures.right

pub returns-in-Some-clause-refused : goal.returns-in-Some-clause-refused
returns-in-Some-clause-refused g c = c.tell.ensures.refused c.args.trace.now c.args.workers c.in-Some.ensures.right c.in-Some.ensures.workers

pub returns-in-Some-clause-none : goal.returns-in-Some-clause-none
returns-in-Some-clause-none g c = IfErr-weaker c.tell.result _ _ (λ f h t. absurd (h t)) c.tell.ensures.none
