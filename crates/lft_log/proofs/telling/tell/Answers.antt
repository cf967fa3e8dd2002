use Rattle.std.proofs.Common.{◌++◌, List, IfOk, IfErr, sym, subst}
use Rattle.lft_ir.specs.declared.steps.row.Row.{Row}
use Rattle.lft_trace.specs.declared.external_table.Entry.{Entry}
use Rattle.lft_monitor.specs.{inner.Follows.IsFollowerOf, Follows.IsPassed}
use Rattle.lft_log.specs.{Logs.tag_of_entry, inner.Told.IsInputFault}
use Rattle.lft_log.proofs.telling.tell.Goals as goal

pub returns-in-Happens-clause-timely : goal.returns-in-Happens-clause-timely
returns-in-Happens-clause-timely c = subst (λ (e : Entry). IfOk c.tell_event.result (λ x. (t : List Row) → IsFollowerOf c.args.plan.now t c.args.follower.now → ¬ IsPassed t (tag_of_entry e))) (sym c.in-Happens.is) c.tell_event.ensures.timely

pub returns-in-Stops-clause-timely : goal.returns-in-Stops-clause-timely
returns-in-Stops-clause-timely c = subst (λ (e : Entry). IfOk c.tell_stop.result (λ x. (t : List Row) → IsFollowerOf c.args.plan.now t c.args.follower.now → ¬ IsPassed t (tag_of_entry e))) (sym c.in-Stops.is) c.tell_stop.ensures.timely

pub returns-in-Happens-clause-fault : goal.returns-in-Happens-clause-fault
returns-in-Happens-clause-fault c = subst (λ (e : Entry). IfErr c.tell_event.result (λ f. (t u : List Row) → IsFollowerOf c.args.plan.now t c.args.follower.now → IsInputFault c.args.plan.now (t ++ u) e c.args.number f)) (sym c.in-Happens.is) c.tell_event.ensures.fault

pub returns-in-Stops-clause-fault : goal.returns-in-Stops-clause-fault
returns-in-Stops-clause-fault c = subst (λ (e : Entry). IfErr c.tell_stop.result (λ f. (t u : List Row) → IsFollowerOf c.args.plan.now t c.args.follower.now → IsInputFault c.args.plan.now (t ++ u) e c.args.number f)) (sym c.in-Stops.is) c.tell_stop.ensures.fault
