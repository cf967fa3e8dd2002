use Rattle.lft_driver.proofs.Tables.{has_table, no_trace, unread}
use Rattle.lft_driver.proofs.judge.read_table.Goals as goal

pub returns-in-Ok-clause-table : goal.returns-in-Ok-clause-table
returns-in-Ok-clause-table g c = has_table c.args.trace.now c.program.result.now c.args.plan.now.program c.program.ensures.value c.in-Ok.rows c.in-Ok.ensures.table c.in-Ok.ensures.one

pub returns-in-Err-clause-refused : goal.returns-in-Err-clause-refused
returns-in-Err-clause-refused g c = unread c.args.trace.now c.program.result.now c.args.plan.now.program c.program.ensures.value c.in-Err.fault c.trace.result c.trace.ensures.part c.trace.ensures.number c.in-Err.ensures.fault

pub returns-in-Err-clause-none : goal.returns-in-Err-clause-none
returns-in-Err-clause-none g c = no_trace c.args.trace.now c.program.result.now c.args.plan.now.program c.program.ensures.value c.in-Err.fault c.trace.result c.trace.ensures.part c.trace.ensures.number c.in-Err.ensures.fault
