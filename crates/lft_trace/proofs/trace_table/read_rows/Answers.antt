use Rattle.std.proofs.Common.{rules, ◌≡◌, ◌++◌, ◌∷◌, []}
use Rattle.lft_tables.{specs.{Records.records_of, inner.Records.fields_at_hand}, proofs.TableFacts.{bad, ended, fewer, one_more, past, start}}
use Rattle.lft_trace.specs.Traces.{header, trace_tables}
use Rattle.lft_trace.proofs.trace_table.read_rows.Goals as goal

pub lines-init : goal.lines-init
lines-init c =
    let top : fields_at_hand c.next.new.self ≡ header = search rules in
    (rw c.new-rows.ensures.items (start (trace_tables c.args.names.now) c.args.text.now c.new-records.result c.next.new.self c.new-records.ensures.unread (c.in-Ok-true.ensures.found c.in-Ok-true.field-0-test c.new-records.ensures.unread.plain) top tt), tt)

pub read_row-requires : goal.read_row-requires
read_row-requires c = c.lines.invariant.1

pub returns-in-Ok-false-next-clause-table : goal.returns-in-Ok-false-next-clause-table
returns-in-Ok-false-next-clause-table c =
    ended (trace_tables c.args.names.now) (records_of c.args.text.now) c.lines.rows.items c.lines.records c.lines.invariant.0 (c.in-Ok-false-next.ensures.none c.in-Ok-false-next.field-0-test c.lines.invariant.0.plain)

pub returns-in-Err-next-clause-fault : goal.returns-in-Err-next-clause-fault
returns-in-Err-next-clause-fault c told =
    let s = c.stopped-in-Err-next.ensures told in
    rw s.1 (past (trace_tables c.args.names.now) (records_of c.args.text.now) c.lines.rows.items c.lines.records c.next-in-lines.new.self c.lines.invariant.0 (c.in-Err-next.ensures.many s.0 c.lines.invariant.0.plain))

pub returns-in-Err-read_row-clause-fault : goal.returns-in-Err-read_row-clause-fault
returns-in-Err-read_row-clause-fault c _ =
    bad (trace_tables c.args.names.now) (records_of c.args.text.now) c.lines.rows.items c.lines.records c.next-in-lines.new.self c.in-Err-read_row.fault c.lines.invariant.0 (c.in-Ok-true-next.ensures.found c.in-Ok-true-next.field-0-test c.lines.invariant.0.plain) (rw c.fields-in-lines.ensures at c.in-Err-read_row.ensures.fault)

pub lines-smaller : goal.lines-smaller
lines-smaller c = fewer c.lines.records c.next-in-lines.new.self (c.in-Ok-true-next.ensures.counted c.in-Ok-true-next.field-0-test)

pub lines-preserved : goal.lines-preserved
lines-preserved c =
    let items : c.push.new.self.items ≡ c.lines.rows.items ++ (c.in-Ok.row ∷ []) = search rules in
    let read = one_more (trace_tables c.args.names.now) (records_of c.args.text.now) c.lines.rows.items c.lines.records c.next-in-lines.new.self c.in-Ok.row c.lines.invariant.0 (c.in-Ok-true-next.ensures.found c.in-Ok-true-next.field-0-test c.lines.invariant.0.plain) (rw c.fields-in-lines.ensures at c.in-Ok.ensures.row) tt in
    (rw items read, c.in-Ok.ensures.within)
