use Rattle.std.proofs.Common.{ℕ, List, IfSome}
use Rattle.std.proofs.lemmas.{Option.IfSome_then, Result.IfOk-weaker}
use Rattle.lft_tables.{specs.{declared.table_lines.TableLines.TableLines, Records.records_of, inner.TableLines.text_left}, proofs.Together.at_some}
use Rattle.lft_trace.specs.inner.Batches.{AreLinesBelowHeader}
use Rattle.lft_stream.{specs.inner.Batches.Progresses.HaveAcceptedRows, proofs.BatchesLemmas.Progressing.table_of}
use Rattle.lft_stream.proofs.batches.shared.accepts_reader_shared.Goals as goal

pub returns : goal.returns
returns g c =
    let remaining = g.R.Read.remaining in
    let plan = c.args.plan.now in
    let lines = c.in-Some.text in
    let below = at_some (λ (t : TableLines _). IfSome (remaining c.args.source) (AreLinesBelowHeader remaining t)) c.in_ok-text.field-0 lines c.in-Some.is c.in_ok-text.ensures in
    IfOk-weaker c.accepts_lines.result _ _ (λ found h. IfSome_then found h (λ counts accepted. IfSome_then (remaining c.args.source) below (λ text u. table_of plan text (records_of u.0) counts u.2 (at_some (λ (body : List ℕ). HaveAcceptedRows plan (records_of body) counts) (text_left remaining lines) u.0 u.1 accepted)))) c.accepts_lines.ensures
