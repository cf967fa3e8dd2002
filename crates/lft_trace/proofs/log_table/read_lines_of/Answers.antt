use Rattle.std.proofs.Common.{rules, ◌≡◌, ◌∙◌, ◌+◌, ◌-◌, ◌++◌, ◌∷◌, [], List, length, refl, sym, ap, subst, arith, append-nil, append_assoc, length-append}
use Rattle.lft_ir.specs.{Parts.Parts, declared.steps.row.Row.Row as TheRow}
use Rattle.lft_trace.{specs.ExternalTables.{FaultAt, IsEntry}, proofs.LogTableFacts.{among, input_more, row_more, start}}
use Rattle.lft_tables.specs.{Records.records_of, inner.Records.{fields_at_hand, in_cursor, records_left}}
use Rattle.lft_trace.proofs.log_table.read_lines_of.Goals as goal

pub lines-init : goal.lines-init
lines-init c = (
  record {
    read = [];
    behind = sym (append-nil c.args.rows.now.items);
    gone = rw c.new-inputs.ensures.items (start c.args.names.now c.args.text c.new.result c.new-records.result c.new.ensures.inner c.new.ensures.position c.new-records.ensures.unread);
  },
  tt,
)

pub returns-in-Err-read_entry : goal.returns-in-Err-read_entry
returns-in-Err-read_entry c =
    let at = c.lines.invariant.0 in
    let gone = at.gone in
    let found = c.in-Ok-true.ensures.found c.in-Ok-true.field-0-test gone.plain in
    let fields = fields_at_hand c.next.new.self in
    let fault = subst (λ (p : Parts). FaultAt p [] 2 fields c.in-Err-read_entry.fault) c.program.ensures.value (rw c.fields-fields.ensures at c.in-Err-read_entry.ensures.fault []) in
    let few = gone.few in
    let line = gone.line in
    let last = gone.last in (
      at.read,
      at.behind,
      omega (arith, few, line, last),
      record {
        lines = gone.lines;
        first = gone.first;
        rest = records_left in_cursor c.lines.records;
        whole = gone.whole;
        each = gone.each;
        rows_are = gone.rows_are;
        inputs_are = gone.inputs_are;
        stops = (fields, records_left in_cursor c.next.new.self, found.left, (fault, rw c.fields-fields.ensures at c.if-begins_as_input.ensures.0 refl));
      },
    )

pub lines-preserved-then-begins_as_input : goal.lines-preserved-then-begins_as_input
lines-preserved-then-begins_as_input c =
    let at = c.lines.invariant.0 in
    let items : c.push.new.self.items ≡ c.lines.inputs.items ++ (among (c.len.result - c.len-others.result) c.in-Ok.entry ∷ []) = search rules in
    let entry = subst (λ (p : Parts). IsEntry p (fields_at_hand c.next.new.self) c.in-Ok.entry) c.program.ensures.value (rw c.fields-fields.ensures at c.in-Ok.ensures.entry) in
    let more = input_more c.args.names.now (records_of c.args.text.now) at.read c.lines.inputs.items c.lines.records c.next.new.self at.gone (c.in-Ok-true.ensures.found c.in-Ok-true.field-0-test at.gone.plain) c.in-Ok.entry entry in
    let long : length c.lines.rows.items ≡ length c.args.rows.now.items + length at.read = ap (λ (t : List TheRow). length t) at.behind ∙ length-append c.args.rows.now.items at.read in
    let here = c.len.ensures in
    let there = c.len-others.ensures in
    let before : c.len.result - c.len-others.result ≡ length at.read = omega (arith, long, here, there) in
    (record { read = at.read; behind = at.behind; gone = rw (items, before) more }, c.lines.invariant.1)

pub lines-preserved : goal.lines-preserved
lines-preserved c =
    let at = c.lines.invariant.0 in
    let row = c.in-Ok-read_row.row in
    let items : c.push-in-Ok-read_row.new.self.items ≡ c.lines.rows.items ++ (row ∷ []) = search rules in
    let more = row_more c.args.names.now (records_of c.args.text.now) at.read c.lines.inputs.items c.lines.records c.next.new.self at.gone (c.in-Ok-true.ensures.found c.in-Ok-true.field-0-test at.gone.plain) row (rw c.fields-fields.ensures at c.in-Ok-read_row.ensures.row) in
    (record { read = at.read ++ row ∷ []; behind = items ∙ ap (λ (t : List TheRow). t ++ row ∷ []) at.behind ∙ append_assoc c.args.rows.now.items at.read (row ∷ []); gone = more }, c.in-Ok-read_row.ensures.within)
