use Rattle.std.proofs.Common.{◌∙◌, ℕ, List, Vec, IfSome, subst, sym}
use Rattle.std.{proofs.lemmas.{Bool.eqb-true, Option.IfSome_then}, specs.declared.alloc.Global.Global}
use Rattle.lft_ir.specs.Parts.{Parts}
use Rattle.lft_trace.specs.{Traces.IsRow, inner.Parts.HoldsRows}
use Rattle.lft_tables.{specs.inner.{Parts.items_of, TableLines.{AreNextLines, text_left}}, proofs.{Beginning.begins_lines, Together.at_some}}
use Rattle.lft_stream.{specs.inner.Batches.Parted.PartsFit, proofs.BatchesLemmas.Reading.{all_accepted, reads_on}}
use Rattle.lft_stream.proofs.batches.shared.accepts_lines.Goals as goal

pub returns-then-is_empty : goal.returns-then-is_empty
returns-then-is_empty g c =
    let remaining = g.R.Read.remaining in
    let plan = c.args.plan.now in
    let batch = items_of c.loop-batch.parts.items in
    let left = text_left remaining c.loop-batch.text in
    let new = c.next.new.self in
    let lines = c.in-Some.lines.items in
    let is_next = at_some (λ (v : Vec ℕ Global). IfSome left (AreNextLines remaining new v.items)) c.in_ok-lines.field-0 c.in-Some.lines c.in-Some.is c.in_ok-lines.ensures in
    let empty = sym c.in-Some.lines.ok.0 ∙ eqb-true c.in-Some.lines.len 0 (sym c.is_empty.ensures ∙ c.if-is_empty.true) in
    IfSome_then c.finish_parts.result c.finish_parts.ensures (λ counts accepted.
    IfSome_then (text_left remaining c.args.text.now) c.loop-batch.invariant.read (λ body r.
    let next = at_some (AreNextLines remaining new lines) left r.0 r.1 is_next in
    let so = accepted r.2.t r.2.stands in
    all_accepted plan body r.0 c.loop-batch.progress batch r.2 counts (next.none empty) so.0 so.1))

pub loop-batch-preserved : goal.loop-batch-preserved
loop-batch-preserved g c =
    let remaining = g.R.Read.remaining in
    let plan = c.args.plan.now in
    let names = c.args.names.now in
    let left = text_left remaining c.loop-batch.text in
    let new = c.next.new.self in
    let lines = c.in-Some.lines.items in
    let is_next = at_some (λ (v : Vec ℕ Global). IfSome left (AreNextLines remaining new v.items)) c.in_ok-lines.field-0 c.in-Some.lines c.in-Some.is c.in_ok-lines.ensures in
    let on = c.in-Some-go_beside.on in
    let read = on.1.items in
    let gone = c.in-Some-go_beside.ensures in
    let holds = subst (λ (p : Parts). HoldsRows p lines (items_of read)) c.requires.names (subst (λ (t : List ℕ). HoldsRows names t (items_of read)) c.as_slice.ensures.value gone.read) in
    record {
      parts_fit = subst (λ (p : Parts). PartsFit p read) c.requires.names gone.read_fit;
      stands = (_, gone.gone c.loop-batch.invariant.stands.0 c.loop-batch.invariant.stands.1);
      read = IfSome_then (text_left remaining c.args.text.now) c.loop-batch.invariant.read (λ body r.
          let next = at_some (AreNextLines remaining new lines) left r.0 r.1 is_next in
          (next.behind, next.left, reads_on plan body r.0 c.loop-batch.progress (items_of c.loop-batch.parts.items) r.2 on.0 (items_of read) next.behind gone.gone (begins_lines (IsRow plan.program) r.0 lines next.behind (items_of read) next.cut holds)));
    }
