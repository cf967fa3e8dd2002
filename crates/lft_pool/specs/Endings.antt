-- Why a recording isn't finished.
use Rattle.std.specs.Prelude.{◌⊎◌, ℕ, ℤ, ◌<◌, List, Option}
use Rattle.lft_tag.specs.declared.Tag.{Tag}
use Rattle.lft_ir.specs.declared.parts.Value.{Value}
use Rattle.lft_pool.specs.declared.bodies.done.Done.{Done}
use Rattle.lft_pool.specs.declared.stop.Stop.{Stop}
use Rattle.lft_pool.specs.declared.stop.Stop.TheVariants.{NoBody, Collision, UndeclaredEffect, TooManyRuns, Stranger, BodyNoMemory, NoMemory, NoWorker, PlanChanged, BadWorkers, TooManyRows, LimitTag}
use Rattle.lft_pool.specs.{Books.BookParts, Causes.HasAllRuns, Reasons.StopHolds}
use Rattle.lft_scheduler.specs.Starts.{SomethingLeft, started_count}

-- all runs that are allowed have started and something is left, or more have started
abbrev pub HasTooManyRuns : BookParts → Type 0
HasTooManyRuns b = (HasAllRuns b × SomethingLeft b.plan b.rows) ⊎ (b.max_runs < started_count b.rows)

-- why a recording ended before its stop: what the reason says of a book with what is handed back and some greatest number of runs; `TooManyRuns` says it of the number that was given, and the last five reasons say nothing here
abbrev pub WhyStopped : (ℕ → Tag → ℤ → List (Option Value) → Done → Type 0) → BookParts → Stop → Type 0
WhyStopped law b TooManyRuns = HasTooManyRuns b
WhyStopped law b (NoBody r) = (m : ℕ) × StopHolds law (record b { max_runs = m }) (NoBody r)
WhyStopped law b (Collision g) = (m : ℕ) × StopHolds law (record b { max_runs = m }) (Collision g)
WhyStopped law b (UndeclaredEffect r) = (m : ℕ) × StopHolds law (record b { max_runs = m }) (UndeclaredEffect r)
WhyStopped law b BodyNoMemory = (m : ℕ) × StopHolds law (record b { max_runs = m }) BodyNoMemory
WhyStopped law b TooManyRows = (m : ℕ) × StopHolds law (record b { max_runs = m }) TooManyRows
WhyStopped law b LimitTag = (m : ℕ) × StopHolds law (record b { max_runs = m }) LimitTag
WhyStopped law b Stranger = Unit {0}
WhyStopped law b NoMemory = Unit {0}
WhyStopped law b NoWorker = Unit {0}
WhyStopped law b PlanChanged = Unit {0}
WhyStopped law b BadWorkers = Unit {0}
