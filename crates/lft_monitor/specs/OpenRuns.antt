-- Runs without an end among the rows so far.
use Rattle.std.specs.Prelude.{◌≡◌, ℕ, ◌+◌, ◌<◌, List, Some, slice_get}
use Rattle.lft_ir.specs.declared.steps.row.Row.{Row}
use Rattle.lft_model.specs.Breaches.{IsUnended}
use Rattle.lft_monitor.specs.declared.open.StillOpen.{StillOpen}

-- the run that the row starts, which stands in this line
abbrev pub run_in : Row → ℕ → StillOpen
run_in row line = record { reaction = row.reaction; worker = row.worker; line = line }

-- a row starts the run, and no later one ends it; behind so many other rows the row at place 0 stands two lines further on
pub record IsOpenRun (before : ℕ) (t : List Row) (run : StillOpen) : Type 0 where
  pub place : ℕ
  pub row : Row
  pub is_row : slice_get t place ≡ Some row
  pub unended : IsUnended t place row
  pub run_is : run ≡ run_in row (before + place + 2)

-- the runs are all those, in the order of the rows that start them
pub record AreOpenRuns (before : ℕ) (t : List Row) (runs : List StillOpen) : Type 0 where
  pub each : (k : ℕ) (run : StillOpen) → slice_get runs k ≡ Some run → IsOpenRun before t run
  pub all : (i : ℕ) (row : Row) → slice_get t i ≡ Some row → IsUnended t i row → (k : ℕ) × (run : StillOpen) × (slice_get runs k ≡ Some run) × (run.line ≡ before + i + 2)
  pub order : (k m : ℕ) (run other : StillOpen) → k < m → slice_get runs k ≡ Some run → slice_get runs m ≡ Some other → run.line < other.line
