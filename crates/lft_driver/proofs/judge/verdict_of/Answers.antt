use Rattle.lft_driver.proofs.Judging.{accepted_runs}
use Rattle.lft_driver.proofs.judge.verdict_of.Goals as goal

pub returns-in-Some-clause-one_worker : goal.returns-in-Some-clause-one_worker
returns-in-Some-clause-one_worker g c = accepted_runs c.args.plan.now c.args.rows.now c.law_one_worker.ensures.runs c.law_one_worker.ensures.precedence c.in-Some.verdict c.in-Some.ensures
