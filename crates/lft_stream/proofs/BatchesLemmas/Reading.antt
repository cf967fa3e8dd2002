-- A text that is read batch by batch while its rows are judged.
use Rattle.std.proofs.Common.{◌≡◌, ◌≤◌, ℕ, List, [], ◌++◌, length, subst}
use Rattle.lft_ir.specs.declared.steps.row.Row.{Row}
use Rattle.lft_tables.{specs.Records.records_of, proofs.Beginning.{begins_all, begins_more}}
use Rattle.lft_trace.specs.{Traces.IsRow, inner.Parts.BeginsWith}
use Rattle.lft_model.specs.{Plans.PlanParts, Accepted.IsAccepted}
use Rattle.lft_stream.specs.inner.Batches.Progresses.{HaveAcceptedRows, IsGoneOn, IsReadUpTo}
use Rattle.lft_stream.specs.declared.{batches.progress.JudgedRows.JudgedRows, stream.RunCounts.RunCounts}

module _ (plan : PlanParts) (text rest : List ℕ) (old : JudgedRows) (batch : List Row) (so : IsReadUpTo plan text old batch rest) where
  -- a batch is judged, and what is read meanwhile stands behind it
  pub reads_on : (new : JudgedRows) (more : List Row) (behind : List ℕ) → IsGoneOn plan old new batch → BeginsWith plan.program rest more behind → IsReadUpTo plan text new more behind
  reads_on new more behind gone read = record { t = so.t ++ batch; stands = gone so.t so.stands; begins = begins_more (IsRow plan.program) text rest behind (so.t ++ batch) more so.begins read }

  -- where nothing is left to be read, the rows are all of the text's
  pub all_accepted : (counts : RunCounts) → rest ≡ [] → length (so.t ++ batch) ≤ 4000000 → IsAccepted plan (so.t ++ batch) counts.runs counts.tags → HaveAcceptedRows plan (records_of text) counts
  all_accepted counts none few accepted = (so.t ++ batch, begins_all (IsRow plan.program) text (so.t ++ batch) (subst (λ (r : List ℕ). BeginsWith plan.program text (so.t ++ batch) r) none so.begins), few, accepted)
