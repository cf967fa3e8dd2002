use Rattle.std.specs.Prelude.{IfSome}
use Rattle.std.proofs.lemmas.{Option.IfSome_then, Result.IfOk-weaker}
use Rattle.lft_tables.{specs.{declared.records.Records.Records, inner.Records.records_left}, proofs.Together.at_some}
use Rattle.lft_trace.specs.inner.Batches.{IsBelowHeader}
use Rattle.lft_stream.proofs.BatchesLemmas.Progressing.{table_of}
use Rattle.lft_stream.proofs.batches.reader.accepts_reader.Goals as goal

pub returns : goal.returns
returns g c =
    let remaining = g.R.Read.remaining in
    let plan = c.args.plan.now in
    let records = c.in-Some.records in
    let below = at_some (λ (r : Records _). IfSome (remaining c.args.source) (IsBelowHeader remaining r)) c.in_ok-records.field-0 records c.in-Some.is c.in_ok-records.ensures in
    IfOk-weaker c.accepts_records.result _ _ (λ found h. IfSome_then found h (λ counts accepted. IfSome_then (remaining c.args.source) below (λ text under. table_of plan text (records_left remaining records) counts under.1 (accepted under.0)))) c.accepts_records.ensures
