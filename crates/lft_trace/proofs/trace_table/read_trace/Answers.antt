use Rattle.std.proofs.Common.{subst}
use Rattle.lft_ir.specs.Parts.{Parts}
use Rattle.lft_tables.specs.Records.{records_of}
use Rattle.lft_trace.{specs.Traces.{Table, TraceFails}, proofs.{TraceFacts.{no_table, one_table, table_fits}, trace_table.read_trace.Goals.In-Ok-read_rows}}
use Rattle.lft_trace.proofs.trace_table.read_trace.Goals as goal

read : (c : In-Ok-read_rows) → Table c.args.program.now (records_of c.args.text.now) c.in-Ok-read_rows.rows.items
read c = subst (λ (p : Parts). Table p (records_of c.args.text.now) c.in-Ok-read_rows.rows.items) c.in-Ok.ensures c.in-Ok-read_rows.ensures.table

pub returns-in-Ok-read_rows-clause-one : goal.returns-in-Ok-read_rows-clause-one
returns-in-Ok-read_rows-clause-one c = λ other h.
    rw c.from_vec.ensures (one_table c.args.program.now (records_of c.args.text.now) c.in-Ok-read_rows.rows.items other c.keeps.ensures.sound (read (goal.at.returns-in-Ok-read_rows-clause-one c).In-Ok-read_rows) h)

pub returns-in-Ok-read_rows-clause-fits : goal.returns-in-Ok-read_rows-clause-fits
returns-in-Ok-read_rows-clause-fits c =
    rw c.from_vec.ensures (table_fits c.args.program.now (records_of c.args.text.now) c.in-Ok-read_rows.rows.items c.keeps.ensures.sound (read (goal.at.returns-in-Ok-read_rows-clause-fits c).In-Ok-read_rows))

pub returns-clause-fault : goal.returns-clause-fault
returns-clause-fault c = λ told.
    let f : TraceFails c.args.program.now (records_of c.args.text.now) c.in-Err.fault =
    subst (λ (p : Parts). TraceFails p (records_of c.args.text.now) c.in-Err.fault) c.in-Ok.ensures (c.in-Err.ensures.fault told) in
    (f, λ rows t. no_table c.args.program.now (records_of c.args.text.now) c.in-Err.fault rows c.keeps.ensures.sound f t)
