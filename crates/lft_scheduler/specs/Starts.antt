-- What may start next in a recording so far, and what is open.
use Rattle.std.specs.Prelude.{ℕ, ◌≤◌, List, length, Option, Some, None, filter_map}
use Rattle.lft_tag.specs.declared.Tag.{Tag}
use Rattle.lft_ir.specs.declared.steps.row.{Row.Row, Step.{Step, TheVariants.{Start, Read, Write, Schedule, Stop, End}}}
use Rattle.lft_model.specs.{Plans.PlanParts, Runs.{Ran, by_ends}, Breaches.IsOpen, OneWorker.{IsPending, Ready}}

-- r may start at g: it is ready after the ended runs, and has no run there
pub record MayStart (plan : PlanParts) (t : List Row) (g : Tag) (r : ℕ) : Type 0 where
  pub ready : Ready plan (by_ends plan t) g r
  pub fresh : ¬ Ran t g r

-- and is the least that may
pub record MayStartFirst (plan : PlanParts) (t : List Row) (g : Tag) (r : ℕ) : Type 0 where
  pub may : MayStart plan t g r
  pub least : (h : Tag) (a : ℕ) → MayStart plan t h a → r ≤ a

-- nothing may start
abbrev pub NoneMayStart : PlanParts → List Row → Type 0
NoneMayStart plan t = (g : Tag) (r : ℕ) → ¬ MayStart plan t g r

-- a reaction is still to run up to the stop
abbrev pub SomethingLeft : PlanParts → List Row → Type 0
SomethingLeft plan t = (g : Tag) × (r : ℕ) × IsPending plan (by_ends plan t) g r

-- nothing is left to run up to the stop
abbrev pub NothingLeft : PlanParts → List Row → Type 0
NothingLeft plan t = (g : Tag) (r : ℕ) → ¬ IsPending plan (by_ends plan t) g r

-- the worker has an open run
abbrev pub IsBusy : List Row → ℕ → Type 0
IsBusy t w = (g : Tag) × (r : ℕ) × IsOpen t (length t) w g r

-- some worker has an open run
abbrev pub IsAnyOpen : List Row → Type 0
IsAnyOpen t = (w : ℕ) × IsBusy t w

-- the step, where it is that of a start row
abbrev pub started_row : Step → Option Step
started_row Start = Some Start
started_row (Read n v) = None
started_row (Write n v) = None
started_row (Schedule n v d) = None
started_row Stop = None
started_row End = None

-- how many runs have started
abbrev pub started_count : List Row → ℕ
started_count t = length (filter_map (λ row. started_row row.step) t)
