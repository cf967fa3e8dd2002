-- Inside: how far the rows of a text are judged and counted.
use Rattle.std.specs.Prelude.{◌≡◌, ◌++◌, ◌≤◌, ℕ, List, length, take}
use Rattle.lft_ir.specs.declared.steps.row.Row.{Row}
use Rattle.lft_trace.specs.inner.Telling.{rows_in}
use Rattle.lft_model.specs.Plans.{PlanParts}
use Rattle.lft_stream.specs.inner.Kept.{IsAcceptorOf}
use Rattle.lft_counts.specs.Cover.{CoversRows}
use Rattle.lft_coverage.specs.declared.driver.front.Front.{Front}

-- the rows of the text that are judged and counted
abbrev pub judged_rows : PlanParts → List ℕ → Front → List Row
judged_rows plan body front = take front.cover.rows (rows_in plan.program body)

-- what is kept and what is counted is right for the rows that are judged, which are no more than the text has, or a table may have
pub record IsFrontOfText (plan : PlanParts) (body : List ℕ) (front : Front) : Type 0 where
  pub stands : IsAcceptorOf plan (judged_rows plan body front) front.acceptor
  pub within : front.cover.rows ≤ length (rows_in plan.program body)
  pub few : front.cover.rows ≤ 4000000
  pub covers : CoversRows plan.program (rows_in plan.program body) front.cover.rows front.cover

-- the text has these rows next behind those that are judged
abbrev pub IsNextBehind : PlanParts → List ℕ → Front → List Row → Type 0
IsNextBehind plan body front rows = (more : List Row) × (rows_in plan.program body ≡ (judged_rows plan body front ++ rows) ++ more)
