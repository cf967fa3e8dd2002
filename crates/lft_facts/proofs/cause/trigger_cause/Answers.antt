use Rattle.lft_facts.proofs.Causes.{not_firing}
use Rattle.lft_facts.proofs.cause.trigger_cause.Goals as goal

pub returns-in-None-clause-none : goal.returns-in-None-clause-none
returns-in-None-clause-none c = not_firing c.args.plan.now c.args.rows.now c.args.tag c.in-Timer.timer c.args.trigger c.in-Timer.is c.in-None.ensures.none
