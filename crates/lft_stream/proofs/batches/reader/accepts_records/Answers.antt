use Rattle.std.proofs.Common.{◌∙◌, ◌++◌, List, [], Option, Some, Bool, ap, refl, subst}
use Rattle.std.specs.Prelude.{IfSome}
use Rattle.std.proofs.lemmas.Option.{IfSome_then}
use Rattle.lft_ir.specs.{Parts.Parts, declared.steps.row.Row.Row}
use Rattle.lft_trace.specs.inner.Batches.{AreLast, AreNext, IsBatch}
use Rattle.lft_stream.{specs.inner.Batches.Progresses.IsProgress, proofs.BatchesLemmas.Progressing.{last_accepted, more_next}}
use Rattle.lft_stream.proofs.batches.reader.accepts_records.Goals as goal

pub loop-batch-init : goal.loop-batch-init
loop-batch-init g c = record { read = ([], c.requires.first, record { first = []; each = tt; left = λ plain. (plain, refl) }) }

pub add-requires-clause-stands : goal.add-requires-clause-stands
add-requires-clause-stands g c = (c.loop-batch.invariant.read.0, c.loop-batch.invariant.read.1)

pub finish-requires : goal.finish-requires
finish-requires g c =
    let read = c.loop-batch.invariant.read in
    (_, c.if-not-add.ensures refl read.0 read.1)

pub returns-then-not-more : goal.returns-then-not-more
returns-then-not-more g c =
    let remaining = g.R.Read.remaining in
    let plan = c.args.plan.now in
    let names = c.args.names.now in
    let first = c.args.records.now in
    let old = c.loop-batch.records in
    let new = c.next_rows.new.records in
    let after = c.add.new.self in
    let batch = c.next_rows.new.rows.items in
    let read = c.loop-batch.invariant.read in
    let last = subst (λ (o : Option Bool). IfSome o (IsBatch remaining names old new batch)) (c.in-Some.is ∙ ap (λ (b : Bool). Some b) c.if-not-more.true) c.in_ok-more.ensures.rows in
    let on = subst (λ (r : List Row). IsProgress plan (read.0 ++ r) after) c.as_slice.ensures.value (c.if-not-add.ensures refl read.0 read.1) in
    IfSome_then c.finish.result c.finish.ensures (λ counts accepted plain.
    let so = accepted (read.0 ++ batch) on in
    last_accepted remaining plan first old read.0 batch read.2 counts (subst (λ (p : Parts). AreLast remaining p old batch) c.requires.names last) so.0 so.1 plain)

pub loop-batch-preserved : goal.loop-batch-preserved
loop-batch-preserved g c =
    let remaining = g.R.Read.remaining in
    let plan = c.args.plan.now in
    let names = c.args.names.now in
    let first = c.args.records.now in
    let old = c.loop-batch.records in
    let new = c.next_rows.new.records in
    let after = c.add.new.self in
    let batch = c.next_rows.new.rows.items in
    let read = c.loop-batch.invariant.read in
    let next = subst (λ (o : Option Bool). IfSome o (IsBatch remaining names old new batch)) (c.in-Some.is ∙ ap (λ (b : Bool). Some b) c.if-not-more.false) c.in_ok-more.ensures.rows in
    let on = subst (λ (r : List Row). IsProgress plan (read.0 ++ r) after) c.as_slice.ensures.value (c.if-not-add.ensures refl read.0 read.1) in
    record { read = (read.0 ++ batch, on, more_next remaining plan first old read.0 batch read.2 new (subst (λ (p : Parts). AreNext remaining p old new batch) c.requires.names next)) }
