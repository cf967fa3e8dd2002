use Rattle.std.proofs.Common.{◌∙◌, ℕ, List, [], Vec, IfSome, subst, sym, arith}
use Rattle.std.{proofs.lemmas.{Bool.eqb-true, Option.IfSome_then}, specs.declared.alloc.Global.Global}
use Rattle.lft_trace.{specs.ExternalTables.IsEntry, proofs.{ExternalFacts.kept_none, ExternalReading.{all_left, read_all, read_more}}}
use Rattle.lft_tables.{specs.inner.{Parts.HoldsItems, TableLines.{AreNextLines, text_left}}, proofs.Together.at_some}
use Rattle.lft_trace.proofs.reading.externals.read_inputs.Goals as goal

pub loop-batch-init : goal.loop-batch-init
loop-batch-init g c = record {
  read = record { entries = []; records = []; each = tt; kept = (rw c.new.ensures kept_none, omega arith); all = all_left (text_left g.R.Read.remaining c.args.text.now) };
}

pub returns-then-is_empty : goal.returns-then-is_empty
returns-then-is_empty g c =
    let remaining = g.R.Read.remaining in
    let left = text_left remaining c.loop-batch.text in
    let new = c.next.new.self in
    let lines = c.in-Some.lines.items in
    let is_next = at_some (λ (v : Vec ℕ Global). IfSome left (AreNextLines remaining new v.items)) c.in_ok-lines.field-0 c.in-Some.lines c.in-Some.is c.in_ok-lines.ensures in
    let empty = sym c.in-Some.lines.ok.0 ∙ eqb-true c.in-Some.lines.len 0 (sym c.is_empty.ensures ∙ c.if-is_empty.true) in
    IfSome_then c.finish_kept.result c.finish_kept.ensures (λ inputs made. read_all remaining c.args.program.now (text_left remaining c.args.text.now) left c.loop-batch.kept c.loop-batch.invariant.read new lines is_next inputs empty made)

pub loop-batch-preserved : goal.loop-batch-preserved
loop-batch-preserved g c =
    let remaining = g.R.Read.remaining in
    let program = c.args.program.now in
    let left = text_left remaining c.loop-batch.text in
    let new = c.next.new.self in
    let lines = c.in-Some.lines.items in
    let is_next = at_some (λ (v : Vec ℕ Global). IfSome left (AreNextLines remaining new v.items)) c.in_ok-lines.field-0 c.in-Some.lines c.in-Some.is c.in_ok-lines.ensures in
    let kept = c.in-Some-keep_lines.ensures in
    let held = subst (λ (t : List ℕ). HoldsItems (IsEntry program) t kept.0) c.as_slice.ensures.value kept.1 in
    record { read = read_more remaining program (text_left remaining c.args.text.now) left c.loop-batch.kept c.loop-batch.invariant.read new lines is_next kept.0 c.in-Some-keep_lines.on held kept.2 }
