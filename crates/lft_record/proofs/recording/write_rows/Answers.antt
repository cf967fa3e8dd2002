use Rattle.std.proofs.Common.{◌≡◌, ℕ, List, Option, Result, Ok, Err, OnOk, subst}
use Rattle.std.specs.Io.KnownBytes.{Appends}
use Rattle.lft_ir.specs.{Parts.Parts, declared.steps.row.Row.Row}
use Rattle.lft_tables.specs.Records.{records_of}
use Rattle.lft_trace.specs.{Traces.Table, Written.table_text}
use Rattle.lft_record.specs.Recordings.{Writes}
use Rattle.lft_record.proofs.recording.write_rows.Goals as goal

written : {A E : Type 0} (program : Parts) (rows : List Row) (old new : Option (List ℕ)) (text : List ℕ) (r : Result A E) → text ≡ table_text program rows → Table program (records_of text) rows → OnOk r (Appends old new text) → OnOk r (Writes program rows old new)
written program rows old new text (Ok x) plain table h = record { text = text; plain = plain; table = table; written = h }
written program rows old new text (Err e) plain table h = tt

pub returns-in-Ok-clause-written : goal.returns-in-Ok-clause-written
returns-in-Ok-clause-written g c =
    let contents = g.W.Write.contents in
    let rows = c.args.rows.now in
    let plain = subst (λ (p : Parts). c.in-Ok.text.items ≡ table_text p rows) c.program.ensures.value c.in-Ok.ensures.plain in
    let table = subst (λ (p : Parts). Table p (records_of c.in-Ok.text.items) rows) c.program.ensures.value c.in-Ok.ensures.table in
    written c.args.plan.now.program rows (contents c.args.out.now) (contents c.write_text.new.out) c.in-Ok.text.items c.write_text.result plain table (rw c.as_slice.ensures.value at c.write_text.ensures.whole)
