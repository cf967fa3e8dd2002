use Rattle.std.proofs.Common.{sym, subst}
use Rattle.lft_trace.specs.declared.external_table.Entry.TheVariants.{Stops}
use Rattle.lft_monitor.specs.Follows.{IsPassed}
use Rattle.lft_log.proofs.{Plans.told_stop, Inputs.passed_left}
use Rattle.lft_log.proofs.telling.tell_stop.Goals as goal

pub returns-then-stop_at-clause-told : goal.returns-then-stop_at-clause-told
returns-then-stop_at-clause-told c = λ base before told. told_stop base before c.args.plan.now c.stop_at.new.plan c.args.stop (c.stop_at.ensures.stopped c.if-stop_at.true) told

pub returns-then-stop_at-clause-timely : goal.returns-then-stop_at-clause-timely
returns-then-stop_at-clause-timely c = λ t is passed. absurd (cc ((c.stop_at.ensures.late t is).1 passed, c.if-stop_at.true))

pub returns-else-stop_at-clause-fault : goal.returns-else-stop_at-clause-fault
returns-else-stop_at-clause-fault c = λ t u follower base bytes lines stands told same numbered. (lines, Stops c.args.stop, stands, subst (λ r. IsPassed r c.args.stop) (sym same) (passed_left t u c.args.stop ((c.stop_at.ensures.late t follower).0 c.if-stop_at.false)), numbered)
