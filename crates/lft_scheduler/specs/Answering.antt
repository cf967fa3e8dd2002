-- What steps an answer may have.
use Rattle.std.specs.Prelude.{◌≡◌, ℕ, ◌<◌, List, Some, slice_get}
use Rattle.lft_ir.specs.declared.steps.row.Step.{Step, TheVariants.{Start, Read, Write, Schedule, Stop, End}}
use Rattle.lft_model.specs.{Plans.PlanParts, Recorded.MayAnswer}

-- the reaction may make all the steps
abbrev pub MayAll : PlanParts → ℕ → List Step → Type 0
MayAll plan r steps = (k : ℕ) (s : Step) → slice_get steps k ≡ Some s → MayAnswer plan r s

-- the step schedules with an extra delay past 10^18
abbrev pub IsLongDelay : Step → Type 0
IsLongDelay (Schedule n v d) = 1000000000000000000 < d
IsLongDelay (Write n v) = ⊥
IsLongDelay (Read n v) = ⊥
IsLongDelay Start = ⊥
IsLongDelay Stop = ⊥
IsLongDelay End = ⊥

-- one of the steps schedules with an extra delay past 10^18
abbrev pub HasLongDelay : List Step → Type 0
HasLongDelay steps = (k : ℕ) × (s : Step) × (slice_get steps k ≡ Some s) × IsLongDelay s
