use Rattle.std.proofs.Common.{subst}
use Rattle.lft_check.specs.{declared.verdict.Verdict.Verdict, Verdicts.IsVerdict}
use Rattle.lft_driver.specs.Judged.{AcceptedRuns}
use Rattle.lft_driver.proofs.pair.judge_second.Goals as goal

pub compare-requires-clause-accepted : goal.compare-requires-clause-accepted
compare-requires-clause-accepted g c =
    let v = subst (λ (x : Verdict). IsVerdict c.args.plan.now c.args.second.now x) c.in-Accepted.is c.in-Ok.ensures.verdict in
    record {
      first = c.requires.counted.legal;
      second = v.legal;
      first_runs = c.requires.execution;
      second_runs = subst (λ (x : Verdict). AcceptedRuns c.args.plan.now c.args.second.now x) c.in-Accepted.is c.in-Ok.ensures.one_worker;
    }

pub returns-in-Broken-clause-right : goal.returns-in-Broken-clause-right
returns-in-Broken-clause-right g c = (c.requires.counted.legal, c.requires.execution, subst (λ (x : Verdict). IsVerdict c.args.plan.now c.args.second.now x) c.in-Broken.is c.in-Ok.ensures.verdict)
