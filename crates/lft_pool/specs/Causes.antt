-- Why `begin` refuses.
use Rattle.std.specs.Prelude.{◌≡◌, ℕ, ◌<◌, ◌≤◌, ◌⊎◌, ◌++◌, List, Option, length, slice_index}
use Rattle.lft_tag.specs.{declared.Tag.Tag, Tags.IsRecorded}
use Rattle.lft_ir.specs.declared.parts.Value.{Value}
use Rattle.lft_model.specs.{Presence.Inputs, Runs.by_ends, OneWorker.rows as rows_of_runs, Recorded.begun_rows}
use Rattle.lft_scheduler.specs.Starts.{IsBusy, MayStartFirst, started_count}
use Rattle.lft_pool.specs.declared.stop.Stop.{Stop}
use Rattle.lft_pool.specs.declared.stop.Stop.TheVariants.{NoBody, Collision, UndeclaredEffect, TooManyRuns, Stranger, BodyNoMemory, NoMemory, NoWorker, PlanChanged, BadWorkers, TooManyRows, LimitTag}
use Rattle.lft_pool.specs.Books.{BookParts}

-- as many runs as are allowed have started
abbrev pub HasAllRuns : BookParts → Type 0
HasAllRuns b = (b.max_runs ≤ started_count b.rows) ⊎ (1000000 ≤ started_count b.rows)

-- the rows with those of the run that is begun would pass their limit
abbrev pub HasNoRoom : BookParts → ℕ → Tag → ℕ → Type 0
HasNoRoom b w g r = (reads : List (Option Value)) × Inputs b.plan (rows_of_runs b.plan (by_ends b.plan b.rows)) g r reads × (4000000 < length (b.rows ++ begun_rows b.plan w g r reads))

-- why the worker doesn't start the run of r at g: each cause comes only where those before it don't hold
abbrev pub StartCause : BookParts → ℕ → Tag → ℕ → Stop → Type 0
StartCause b w g r LimitTag = ¬ IsRecorded g
StartCause b w g r TooManyRuns = IsRecorded g × HasAllRuns b
StartCause b w g r (NoBody a) = IsRecorded g × (¬ HasAllRuns b) × (a ≡ r) × (slice_index b.left r ≡ 0)
StartCause b w g r TooManyRows = IsRecorded g × (¬ HasAllRuns b) × (0 < slice_index b.left r) × HasNoRoom b w g r
StartCause b w g r NoMemory = Unit {0}
StartCause b w g r (Collision h) = ⊥
StartCause b w g r (UndeclaredEffect a) = ⊥
StartCause b w g r Stranger = ⊥
StartCause b w g r BodyNoMemory = ⊥
StartCause b w g r NoWorker = ⊥
StartCause b w g r PlanChanged = ⊥
StartCause b w g r BadWorkers = ⊥

-- why `begin` refuses the worker: want of memory, or it has no open run and doesn't start the run that may start first
abbrev pub BeginCause : BookParts → ℕ → Stop → Type 0
BeginCause b w s = (s ≡ NoMemory) ⊎ ((¬ IsBusy b.rows w) × ((g : Tag) × (r : ℕ) × MayStartFirst b.plan b.rows g r × StartCause b w g r s))
