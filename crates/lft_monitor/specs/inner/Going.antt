-- What is known of rows at hand that are gone over row by row. This serves the follower's proof alone.
use Rattle.std.specs.Prelude.{◌≡◌, ℕ, ◌+◌, ◌-◌, ◌≤◌, ◌⊎◌, List, ◌++◌, length, take, Option, Some, MatchOption, Contains, slice_get}
use Rattle.lft_tag.specs.{declared.Tag.Tag, Tags.Before}
use Rattle.lft_ir.specs.declared.steps.row.{Row.Row, Step.{Step, TheVariants.{Start, Read, Write, Schedule, Stop, End}}}
use Rattle.lft_model.specs.{Plans.PlanParts, Presence.stop, Breaches.IsUnended}
use Rattle.lft_rows.specs.inner.Passes.{KeepsEarly, EarlyRule, FirstUnended, HasPassed}
use Rattle.lft_monitor.specs.declared.gone.{Going.Going, Halt.Halt}

-- each run of the rows that starts before the tag has its end among them
abbrev pub AreEnded : List Row → Tag → Type 0
AreEnded t g = (i : ℕ) (x : Row) → slice_get t i ≡ Some x → Before x.tag g → ¬ IsUnended t i x

-- each run of the rows before the place that starts before the tag of the row there has its end among them
abbrev pub HasEnded : List Row → ℕ → Type 0
HasEnded rows place = (row : Row) → slice_get rows place ≡ Some row → AreEnded (take place rows) row.tag

-- each run of the rows without an end among them starts at one of so many places
abbrev pub AreFewOpenRuns : List Row → ℕ → Type 0
AreFewOpenRuns t n = (places : List ℕ) × (length places ≤ n) × ((i : ℕ) (x : Row) → slice_get t i ≡ Some x → IsUnended t i x → Contains places i)

-- how many runs are open behind a step, where so many were before it
abbrev pub opened : ℕ → Step → ℕ
opened n Start = n + 1
opened n (Read m v) = n
opened n (Write m v) = n
opened n (Schedule m v d) = n
opened n Stop = n
opened n End = n - 1

-- the first i rows at hand break none of the rules 1 to 4, behind rows that are done, and each run of theirs before the tag of the last has its end among them
pub record IsGoneTo (plan : PlanParts) (done rows : List Row) (i : ℕ) : Type 0 where
  pub within : i ≤ length rows
  pub kept : KeepsEarly (stop plan (done ++ take i rows)) plan (take i rows) i
  pub ended : (z : Row) → slice_get rows (i - 1) ≡ Some z → AreEnded (take i rows) z.tag

-- the first rows at hand are gone over, none of which breaks one of the rules 1 to 4, behind rows that are done
pub record IsGoing (plan : PlanParts) (done rows : List Row) (g : Going) : Type 0 where
  pub within : g.passed ≤ length rows
  pub stop_is : g.stop ≡ stop plan (done ++ take g.passed rows)
  pub passes : HasPassed g.stop plan (take g.passed rows) g.passed g.pass
  pub ended : (z : Row) → slice_get rows (g.passed - 1) ≡ Some z → AreEnded (take g.passed rows) z.tag
  pub few : g.runs ≤ g.passed
  pub runs : AreFewOpenRuns (take g.passed rows) g.runs

-- the row at place i is the first at hand that breaks one of the rules 1 to 4, and k is the least of these, where the stop is what the rows before it ask for
pub record IsFirstBad (plan : PlanParts) (done rows : List Row) (i k : ℕ) : Type 0 where
  pub row : Row
  pub is_row : slice_get rows i ≡ Some row
  pub gone : IsGoneTo plan done rows i
  pub ended : AreEnded (take i rows) row.tag
  pub rule : EarlyRule (stop plan (done ++ take i rows)) plan (take (i + 1) rows) i row (Some k)

-- the row at place s is the first of those before place i that starts a run without an end among them, and the row at place i is at a later tag
pub record IsRunLost (plan : PlanParts) (done rows : List Row) (s i : ℕ) : Type 0 where
  pub row : Row
  pub later : Row
  pub is_row : slice_get rows s ≡ Some row
  pub is_later : slice_get rows i ≡ Some later
  pub before : Before row.tag later.tag
  pub gone : IsGoneTo plan done rows i
  pub first : FirstUnended (take i rows) i (Some s)

-- going over the rows ended before the last: the row at the place breaks the rule and is that at the end; or it starts a run without an end, and the row at the end is at a later tag
abbrev pub IsHalt : PlanParts → List Row → List Row → Halt → Type 0
IsHalt plan done rows h = (h.end ≡ h.place) × IsFirstBad plan done rows h.place h.rule ⊎ (h.rule ≡ 5) × IsRunLost plan done rows h.place h.end

-- going over the rows ended behind the last, or before it
abbrev pub HasGone : PlanParts → List Row → List Row → Going → Option Halt → Type 0
HasGone plan done rows g halt = MatchOption halt (IsGoing plan done rows g × (g.passed ≡ length rows)) (IsHalt plan done rows)
