use Rattle.lft_trace.proofs.{PlainRows.plain_lines, RowsBack.table_back}
use Rattle.lft_trace.proofs.trace_writer.write_trace.Goals as goal

pub returns-clause-table : goal.returns-clause-table
returns-clause-table c =
    let w = rw c.as_slice.ensures at c.write_rows.ensures in
    table_back c.args.program.now c.args.rows.now c.write_rows.result c.keeps.ensures.sound c.requires w.bytes w.words

pub returns-clause-plain : goal.returns-clause-plain
returns-clause-plain c =
    let w = rw c.as_slice.ensures at c.write_rows.ensures in
    plain_lines c.args.program.now c.args.rows.now c.write_rows.result c.keeps.ensures.sound c.requires w.bytes w.words
