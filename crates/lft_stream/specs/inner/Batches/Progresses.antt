-- How far the rows of a trace are judged.
use Rattle.std.specs.Prelude.{◌≡◌, ◌+◌, ◌++◌, ◌≤◌, ℕ, List, length}
use Rattle.std.specs.List.{AllZip}
use Rattle.lft_ir.specs.{Steps.Fits.RowsFit, declared.steps.row.Row.Row}
use Rattle.lft_model.specs.{Plans.PlanParts, Accepted.IsAccepted}
use Rattle.lft_trace.specs.{Traces.IsRow, inner.Parts.BeginsWith}
use Rattle.lft_stream.specs.{inner.Kept.IsAcceptorOf, declared.{batches.progress.JudgedRows.JudgedRows, stream.RunCounts.RunCounts}}

-- what is kept is right for the rows that are judged, which are no more than a table may have
pub record IsJudgedTo (plan : PlanParts) (t : List Row) (progress : JudgedRows) : Type 0 where
  pub stands : IsAcceptorOf plan t progress.acceptor
  pub left : progress.left + length t ≡ 4000000

-- the rows so far are those that are judged, and behind them those that wait
pub record IsProgress (plan : PlanParts) (t : List Row) (progress : JudgedRows) : Type 0 where
  pub judged : List Row
  pub stands : IsJudgedTo plan judged progress
  pub fit : RowsFit plan.program progress.waiting.items
  pub all : judged ++ progress.waiting.items ≡ t

-- whatever the rows so far, these came behind them
abbrev pub IsGoneOn : PlanParts → JudgedRows → JudgedRows → List Row → Type 0
IsGoneOn plan old new rows = (t : List Row) → IsProgress plan t old → IsProgress plan (t ++ rows) new

-- the text begins with the rows so far and those of a batch behind them, and then comes the rest
pub record IsReadUpTo (plan : PlanParts) (text : List ℕ) (progress : JudgedRows) (batch : List Row) (rest : List ℕ) : Type 0 where
  pub t : List Row
  pub stands : IsProgress plan t progress
  pub begins : BeginsWith plan.program text (t ++ batch) rest

-- the records are rows, no more than a table may have, and these are accepted with such counts
abbrev pub HaveAcceptedRows : PlanParts → List (List (List ℕ)) → RunCounts → Type 0
HaveAcceptedRows plan records counts = (rows : List Row) × AllZip (IsRow plan.program) records rows × (length rows ≤ 4000000) × IsAccepted plan rows counts.runs counts.tags
