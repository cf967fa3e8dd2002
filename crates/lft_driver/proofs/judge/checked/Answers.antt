use Rattle.lft_driver.proofs.Judging.{accepted_runs}
use Rattle.lft_driver.proofs.judge.checked.Goals as goal

pub returns-in-Ok-clause-one_worker : goal.returns-in-Ok-clause-one_worker
returns-in-Ok-clause-one_worker g c = accepted_runs c.args.plan.now c.args.rows.now c.law_one_worker.ensures.runs c.law_one_worker.ensures.precedence c.in-Ok.verdict c.in-Ok.ensures.verdict
