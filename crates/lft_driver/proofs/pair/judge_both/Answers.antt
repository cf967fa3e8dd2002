use Rattle.std.proofs.Common.{subst}
use Rattle.lft_check.specs.{declared.verdict.Verdict.Verdict, Verdicts.IsVerdict}
use Rattle.lft_driver.specs.Judged.{AcceptedRuns}
use Rattle.lft_driver.proofs.pair.judge_both.Goals as goal

pub judge_second-requires-clause-execution : goal.judge_second-requires-clause-execution
judge_second-requires-clause-execution g c = λ _ _. subst (λ (x : Verdict). AcceptedRuns c.args.plan.now c.args.first.now x) c.in-Accepted.is c.in-Ok.ensures.one_worker

pub judge_second-requires-clause-counted : goal.judge_second-requires-clause-counted
judge_second-requires-clause-counted g c = λ _ _. subst (λ (x : Verdict). IsVerdict c.args.plan.now c.args.first.now x) c.in-Accepted.is c.in-Ok.ensures.verdict

pub returns-in-Broken-clause-right : goal.returns-in-Broken-clause-right
returns-in-Broken-clause-right g c = subst (λ (x : Verdict). IsVerdict c.args.plan.now c.args.first.now x) c.in-Broken.is c.in-Ok.ensures.verdict
