use Rattle.std.proofs.Common.{arith, inl, inr}
use Rattle.std.proofs.lemmas.Result.{IfErr-weaker, IfOk-weaker}
use Rattle.lft_driver.{specs.Refusals.CheckRefusal.by_growth, proofs.{Judging.growth_untold, Tables.{has_table, no_trace, unread}}}
use Rattle.lft_driver.proofs.alone.verdict_on.Goals as goal

pub returns-in-Ok-clause-right : goal.returns-in-Ok-clause-right
returns-in-Ok-clause-right c =
    let has = has_table c.args.trace.now c.program.result.now c.args.plan.now.program c.program.ensures.value c.in-Ok.rows c.in-Ok.ensures.table c.in-Ok.ensures.one in
    IfOk-weaker c.checked.result _ _ (λ v h. (c.in-Ok.rows, has.is, h)) c.checked.ensures.verdict

pub returns-in-Ok-clause-refused : goal.returns-in-Ok-clause-refused
returns-in-Ok-clause-refused c =
    let has = has_table c.args.trace.now c.program.result.now c.args.plan.now.program c.program.ensures.value c.in-Ok.rows c.in-Ok.ensures.table c.in-Ok.ensures.one in
    IfErr-weaker c.checked.result _ _ (λ f h. inr (c.in-Ok.rows, has, by_growth h (omega arith, omega arith))) c.checked.ensures.growth

pub returns-in-Ok-clause-none : goal.returns-in-Ok-clause-none
returns-in-Ok-clause-none c = IfErr-weaker c.checked.result _ _ (λ f h t. absurd (growth_untold f h t)) c.checked.ensures.growth

pub returns-in-Err-clause-refused : goal.returns-in-Err-clause-refused
returns-in-Err-clause-refused c = inl (unread c.args.trace.now c.program.result.now c.args.plan.now.program c.program.ensures.value c.in-Err.fault c.trace.result c.trace.ensures.part c.trace.ensures.number c.in-Err.ensures.fault)

pub returns-in-Err-clause-none : goal.returns-in-Err-clause-none
returns-in-Err-clause-none c = no_trace c.args.trace.now c.program.result.now c.args.plan.now.program c.program.ensures.value c.in-Err.fault c.trace.result c.trace.ensures.part c.trace.ensures.number c.in-Err.ensures.fault
