use Rattle.lft_monitor.proofs.Coming.{timely_law, overdue_law}
use Rattle.lft_monitor.proofs.laws.law_timely.Goals as goal

pub returns : goal.returns
returns c = record { timely = timely_law c.args.plan.now; overdue = overdue_law c.args.plan.now }
