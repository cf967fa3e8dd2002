-- What it is to accept a trace. Whoever accepts one says this: the acceptor, tag by tag, and the checker.
use Rattle.std.specs.Prelude.{◌≡◌, ◌<◌, ℕ, Bool, true, false, List, Some, length, slice_get}
use Rattle.std.specs.List.{count_by}
use Rattle.lft_tag.specs.{declared.Tag.Tag, Tags.Before}
use Rattle.lft_ir.specs.declared.steps.row.{Row.Row, Step.{Step, TheVariants.{Start, Read, Write, Schedule, Stop, End}}}
use Rattle.lft_model.specs.{Plans.PlanParts, Runs.Ran, Breaches.Legal}

-- the test of a start
abbrev pub begins : Step → Bool
begins Start = true
begins (Read n v) = false
begins (Write n v) = false
begins (Schedule n v d) = false
begins Stop = false
begins End = false

-- the number of runs: of start rows
abbrev pub runs_in : List Row → ℕ
runs_in t = count_by (λ (row : Row). begins row.step) t

-- the tags with a run, ascending
pub record AreTags (t : List Row) (tags : List Tag) : Type 0 where
  pub ascending : (j k : ℕ) (g h : Tag) → j < k → slice_get tags j ≡ Some g → slice_get tags k ≡ Some h → Before g h
  pub ran : (k : ℕ) (g : Tag) → slice_get tags k ≡ Some g → (r : ℕ) × Ran t g r
  pub each : (g : Tag) (r : ℕ) → Ran t g r → (k : ℕ) × (slice_get tags k ≡ Some g)

-- accepted: the trace is legal, with the number of its runs and of the different tags that have a run
pub record IsAccepted (plan : PlanParts) (t : List Row) (runs tags : ℕ) : Type 0 where
  pub legal : Legal plan t
  pub runs_are : runs ≡ runs_in t
  pub tags_are : (gs : List Tag) × AreTags t gs × (tags ≡ length gs)
