use Rattle.std.proofs.Common.{rules}
use Rattle.lft_check.proofs.Exact.{exact}
use Rattle.lft_check.proofs.judging.judge.Goals as goal

pub returns-in-Ok-clause-exact : goal.returns-in-Ok-clause-exact
returns-in-Ok-clause-exact g c = exact c.args.plan.now c.args.rows.now c.in-Ok.verdict (search rules)
