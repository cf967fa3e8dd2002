use Rattle.std.proofs.Common.{IsTrue, subst, sym}
use Rattle.lft_ir.specs.declared.steps.row.Step.{Step}
use Rattle.lft_model.specs.Breaches.{IsUndeclared}
use Rattle.lft_rows.proofs.Declares.{at_write, at_schedule}
use Rattle.lft_rows.proofs.declared.is_undeclared.Goals as goal

pub returns-in-Write : goal.returns-in-Write
returns-in-Write c = at_write c.args.program.now c.args.rows.now c.args.place c.args.row c.args.row.step c.in-Write.name c.in-Write.field-1 c.may_write.result c.in-Write.is c.may_write.ensures

pub returns-in-Schedule : goal.returns-in-Schedule
returns-in-Schedule c = at_schedule c.args.program.now c.args.rows.now c.args.place c.args.row c.args.row.step c.in-Schedule.name c.in-Schedule.field-1 c.in-Schedule.field-2 c.may_schedule.result c.in-Schedule.is c.may_schedule.ensures

pub returns-in-Read : goal.returns-in-Read
returns-in-Read c = subst (λ (s : Step). (IsTrue c.is_bad_read.result → IsUndeclared c.args.program.now c.args.rows.now c.args.place c.args.row s) × (IsUndeclared c.args.program.now c.args.rows.now c.args.place c.args.row s → IsTrue c.is_bad_read.result)) (sym c.in-Read.is) c.is_bad_read.ensures
