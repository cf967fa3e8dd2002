use Rattle.lft_tables.specs.Records.{records_of}
use Rattle.lft_trace.proofs.TraceFacts.{one_table, table_fits}
use Rattle.lft_trace.proofs.reading.shared.read_trace_shared.Goals as goal

pub returns-in-Some-clause-one : goal.returns-in-Some-clause-one
returns-in-Some-clause-one g c = λ other h.
    rw c.from_vec.ensures (one_table c.args.program.now (records_of c.args.text.now) c.in-Some.rows.items other c.keeps.ensures.sound c.in-Some.ensures h)

pub returns-in-Some-clause-fits : goal.returns-in-Some-clause-fits
returns-in-Some-clause-fits g c =
    rw c.from_vec.ensures (table_fits c.args.program.now (records_of c.args.text.now) c.in-Some.rows.items c.keeps.ensures.sound c.in-Some.ensures)
