use Rattle.lft_rows.proofs.Marked.{other_step, no_input, marks_read}
use Rattle.lft_rows.proofs.marks.Marks.pass.Goals as goal

pub returns-in-Some : goal.returns-in-Some
returns-in-Some c low le old = marks_read c.args.program.now c.reactions.ensures.sound c.args.rows.now low c.args.place c.row_at-row.result c.row_at-row.ensures c.args.self.now old c.in-Some.ensures.0 c.in-Read.name c.in-Read.field-1 c.in-Some.seat c.set.new.self le c.in-Some.ensures.1 c.in-Read.is c.in-Some.ensures.2 c.set.ensures

pub returns-in_default-seat : goal.returns-in_default-seat
returns-in_default-seat c low le old = no_input c.args.program.now c.args.rows.now low c.args.place c.row_at-row.result c.row_at-row.ensures c.args.self.now old c.in_default-seat.ensures.0 c.in-Read.name c.in-Read.field-1 c.in_default-seat.ensures.1 c.in-Read.is c.in_default-seat.ensures.2

pub returns-in_default : goal.returns-in_default
returns-in_default c low le old = other_step c.args.program.now c.args.rows.now low c.args.place c.row_at-row.result c.row_at-row.ensures c.args.self.now old c.in_default.not-Read
