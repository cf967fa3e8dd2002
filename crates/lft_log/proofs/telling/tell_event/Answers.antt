use Rattle.std.proofs.Common.{inl, sym, subst}
use Rattle.lft_trace.specs.declared.external_table.Entry.TheVariants.{Happens}
use Rattle.lft_monitor.specs.Follows.{IsPassed}
use Rattle.lft_log.proofs.{Plans.told_event, Inputs.passed_left}
use Rattle.lft_log.proofs.telling.tell_event.Goals as goal

pub returns-in-Ok-Taken-clause-told : goal.returns-in-Ok-Taken-clause-told
returns-in-Ok-Taken-clause-told c = λ base before told. told_event base before c.args.plan.now c.add_event.new.plan c.args.event (rw c.in-Ok-Taken.field-0-is at c.in-Ok-Taken.ensures.receipt) c.keeps.ensures.sound.in_order told

pub returns-in-Ok-Taken-clause-timely : goal.returns-in-Ok-Taken-clause-timely
returns-in-Ok-Taken-clause-timely c = λ t is passed. let late = (c.in-Ok-Taken.ensures.late t is).1 passed in absurd (cc (late, c.in-Ok-Taken.field-0-is))

pub returns-in-Ok-Late-clause-fault : goal.returns-in-Ok-Late-clause-fault
returns-in-Ok-Late-clause-fault c = λ t u follower base bytes lines stands told same numbered. (lines, Happens c.args.event, stands, subst (λ r. IsPassed r c.args.event.tag) (sym same) (passed_left t u c.args.event.tag ((c.in-Ok-Late.ensures.late t follower).0 c.in-Ok-Late.field-0-is)), numbered)

pub returns-in-Ok-Again-clause-fault : goal.returns-in-Ok-Again-clause-fault
returns-in-Ok-Again-clause-fault c = λ t u follower base bytes lines stands told same numbered. (lines, c.args.event, stands, (c.args.plan.now, told, (rw c.in-Ok-Again.field-0-is at c.in-Ok-Again.ensures.receipt).1), numbered)

pub returns-in-Ok-ManyLater-clause-fault : goal.returns-in-Ok-ManyLater-clause-fault
returns-in-Ok-ManyLater-clause-fault c = λ t u follower base bytes lines stands told same numbered. (lines, c.args.event, stands, (c.args.plan.now, told, (rw c.in-Ok-ManyLater.field-0-is at c.in-Ok-ManyLater.ensures.receipt).1), numbered)

pub returns-in-Ok-TooMany-clause-fault : goal.returns-in-Ok-TooMany-clause-fault
returns-in-Ok-TooMany-clause-fault c = λ t u follower base bytes lines stands told same numbered. inl (lines, c.args.event, stands, (c.args.plan.now, told, (rw c.in-Ok-TooMany.field-0-is at c.in-Ok-TooMany.ensures.receipt).1))
