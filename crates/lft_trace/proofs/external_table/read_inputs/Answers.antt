use Rattle.std.proofs.Common.{rules, ◌≡◌, ◌≢◌, inl}
use Rattle.std.proofs.lemmas.{Option.IfSome_then, Result.{IfErr-weaker, IfOk-weaker}}
use Rattle.lft_trace.specs.ExternalTables.{external_tables, header}
use Rattle.lft_trace.proofs.ExternalFacts.{bad, ended, fit_all, fit_first, fit_more, no_stop, one_more, past, refused, start}
use Rattle.lft_tables.{specs.{Records.records_of, inner.Records.fields_at_hand}, proofs.TableFacts.{fewer, not_past, without_header, without_records}}
use Rattle.lft_trace.proofs.external_table.read_inputs.Goals as goal

pub returns-in-Ok-false-clause-fault : goal.returns-in-Ok-false-clause-fault
returns-in-Ok-false-clause-fault g c =
    IfSome_then (g.R.Read.remaining c.args.source) c.new-records.ensures.unread (λ text unread _.
    inl (without_records (external_tables c.args.program.now) text c.new-records.result c.new-records.result unread (c.in-Ok-false.ensures.none c.in-Ok-false.field-0-test unread.plain)))

pub returns-in-Err-clause-fault : goal.returns-in-Err-clause-fault
returns-in-Err-clause-fault g c =
    IfSome_then (g.R.Read.remaining c.args.source) c.new-records.ensures.unread (λ text unread told.
    absurd (not_past (external_tables c.args.program.now) text c.new-records.result c.next.new.self unread (c.in-Err.ensures.many (c.stopped.ensures told).0 unread.plain)))

pub returns-then-not-is_header-clause-fault : goal.returns-then-not-is_header-clause-fault
returns-then-not-is_header-clause-fault g c =
    IfSome_then (g.R.Read.remaining c.args.source) c.new-records.ensures.unread (λ text unread _.
    let other : fields_at_hand c.next.new.self ≢ header = search rules in
    inl (without_header (external_tables c.args.program.now) text c.new-records.result c.next.new.self unread (c.in-Ok-true.ensures.found c.in-Ok-true.field-0-test unread.plain) other))

pub lines-init : goal.lines-init
lines-init g c = record {
  known = IfSome_then (g.R.Read.remaining c.args.source) c.new-records.ensures.unread (λ text unread.
      let top : fields_at_hand c.next.new.self ≡ header = search rules in
      rw c.new-events.ensures (start c.args.program.now text c.new-records.result c.next.new.self unread (c.in-Ok-true.ensures.found c.in-Ok-true.field-0-test unread.plain) top));
  fitting = rw c.new-events.ensures (fit_first c.args.program.now c.new-records.result c.next.new.self c.new-records.ensures.last (c.in-Ok-true.ensures.counted c.in-Ok-true.field-0-test));
}

pub returns-in-Ok-false-next-clause-table : goal.returns-in-Ok-false-next-clause-table
returns-in-Ok-false-next-clause-table g c =
    IfOk-weaker c.finish.result _ _ (λ inputs made. IfSome_then (g.R.Read.remaining c.args.source) c.lines.invariant.known (λ text read.
    ended c.args.program.now (records_of text) c.lines.stop c.lines.events c.lines.records read inputs (c.in-Ok-false-next.ensures.none c.in-Ok-false-next.field-0-test read.read.plain) made)) c.finish.ensures.made

pub returns-in-Ok-false-next-clause-fits : goal.returns-in-Ok-false-next-clause-fits
returns-in-Ok-false-next-clause-fits g c =
    IfOk-weaker c.finish.result _ _ (λ inputs made. fit_all c.args.program.now c.lines.stop c.lines.events c.lines.records c.lines.invariant.fitting inputs made) c.finish.ensures.made

pub returns-in-Ok-false-next-clause-fault : goal.returns-in-Ok-false-next-clause-fault
returns-in-Ok-false-next-clause-fault g c =
    IfErr-weaker c.finish.result _ _ (λ e unmade. IfSome_then (g.R.Read.remaining c.args.source) c.lines.invariant.known (λ text read told.
    no_stop c.args.program.now (records_of text) c.lines.stop c.lines.events c.lines.records read e (c.in-Ok-false-next.ensures.none c.in-Ok-false-next.field-0-test read.read.plain) (unmade told))) c.finish.ensures.fault

pub returns-in-Err-next-clause-fault : goal.returns-in-Err-next-clause-fault
returns-in-Err-next-clause-fault g c =
    IfSome_then (g.R.Read.remaining c.args.source) c.lines.invariant.known (λ text read told.
    let s = c.stopped-in-Err-next.ensures told in
    rw s.1 (past c.args.program.now (records_of text) c.lines.stop c.lines.events c.lines.records read c.next-in-lines.new.self (c.in-Err-next.ensures.many s.0 read.read.plain)))

pub returns-in-Err-read_entry-clause-fault : goal.returns-in-Err-read_entry-clause-fault
returns-in-Err-read_entry-clause-fault g c =
    IfSome_then (g.R.Read.remaining c.args.source) c.lines.invariant.known (λ text read _.
    bad c.args.program.now (records_of text) c.lines.stop c.lines.events c.lines.records read c.next-in-lines.new.self c.in-Err-read_entry.fault (c.in-Ok-true-next.ensures.found c.in-Ok-true-next.field-0-test read.read.plain) (λ before. rw c.fields-in-lines.ensures at c.in-Err-read_entry.ensures.fault before))

pub returns-in-Err-keep-clause-fault : goal.returns-in-Err-keep-clause-fault
returns-in-Err-keep-clause-fault g c =
    IfSome_then (g.R.Read.remaining c.args.source) c.lines.invariant.known (λ text read told.
    refused c.args.program.now (records_of text) c.lines.stop c.lines.events c.lines.records read c.next-in-lines.new.self c.in-Ok.entry c.in-Err-keep.fault (c.in-Ok-true-next.ensures.found c.in-Ok-true-next.field-0-test read.read.plain) (rw c.fields-in-lines.ensures at c.in-Ok.ensures.entry) (c.in-Err-keep.ensures.fault told))

pub lines-smaller : goal.lines-smaller
lines-smaller g c = fewer c.lines.records c.next-in-lines.new.self (c.in-Ok-true-next.ensures.counted c.in-Ok-true-next.field-0-test)

pub lines-preserved : goal.lines-preserved
lines-preserved g c = record {
  known = IfSome_then (g.R.Read.remaining c.args.source) c.lines.invariant.known (λ text read.
      one_more c.args.program.now (records_of text) c.lines.stop c.lines.events c.lines.records read c.next-in-lines.new.self c.in-Ok.entry c.in-Ok-keep.stop c.keep.new.events (c.in-Ok-true-next.ensures.found c.in-Ok-true-next.field-0-test read.read.plain) (rw c.fields-in-lines.ensures at c.in-Ok.ensures.entry) c.in-Ok-keep.ensures.kept);
  fitting = fit_more c.args.program.now c.lines.stop c.lines.events c.lines.records c.lines.invariant.fitting c.next-in-lines.new.self (fields_at_hand c.next-in-lines.new.self) c.in-Ok.entry c.in-Ok-keep.stop c.keep.new.events (c.in-Ok-true-next.ensures.counted c.in-Ok-true-next.field-0-test) (rw c.fields-in-lines.ensures at c.in-Ok.ensures.entry) c.in-Ok-keep.ensures.kept;
}
