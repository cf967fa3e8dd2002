-- When triggers that wait for no event are due: at the tags where their reactions have no run yet.
use Rattle.std.specs.Prelude.{◌≡◌, ℕ, ◌+◌, ◌*◌, ◌<◌, List, length, filter_map, Option, Some, None, slice_get, Contains}
use Rattle.lft_tag.specs.{declared.Tag.Tag, Tags.{Before, UpTo}}
use Rattle.lft_ir.specs.declared.{parts.{Trigger.{Trigger, TheVariants.{Startup, Shutdown, Timer, On}}, Timer.Timer as TimerOf}, steps.row.Row.Row}
use Rattle.lft_model.specs.{Plans.PlanParts, Presence.{stop, Occurs}, Runs.Ran}
use Rattle.lft_rows.specs.inner.Presence.Needed.{AreNeededOf}
use Rattle.lft_stream.specs.declared.due.Due.{Due, TheVariants.{AtTag, AtStop, Never}}

-- the k-th firing of a timer, counted from 0; where the period is 0 the first alone is one
abbrev pub firing : TimerOf → ℕ → Tag
firing timer k = record { time = timer.offset + k * timer.period; micro = 0 }

-- r has a run at each of the first k firings of a timer
abbrev pub HasRunsAt : List Row → ℕ → TimerOf → ℕ → Type 0
HasRunsAt t r timer k = (j : ℕ) → j < k → Ran t (firing timer j) r

-- r has a run at each firing before the one at the tag, which is one, and the period is the timer's; or the timer fires once, and r has that run
abbrev pub IsNextFiring : List Row → ℕ → TimerOf → Due → Type 0
IsNextFiring t r timer (AtTag g period) = (k : ℕ) × HasRunsAt t r timer k × (g ≡ firing timer k) × (period ≡ timer.period) × (timer.period ≡ 0 → k ≡ 0)
IsNextFiring t r timer AtStop = ⊥
IsNextFiring t r timer Never = (timer.period ≡ 0) × Ran t (firing timer 0) r

-- a trigger of r is due at a tag, and wherever it is present before that r has a run; never where there is none, and where it waits for an event
abbrev pub IsDue : PlanParts → List Row → ℕ → Trigger → Due → Type 0
IsDue plan t r Startup (AtTag g period) = (g ≡ record { time = 0; micro = 0 }) × (period ≡ 0)
IsDue plan t r Startup AtStop = ⊥
IsDue plan t r Startup Never = Ran t (record { time = 0; micro = 0 }) r
IsDue plan t r Shutdown (AtTag g period) = ⊥
IsDue plan t r Shutdown AtStop = Unit {0}
IsDue plan t r Shutdown Never = Ran t (stop plan t) r
IsDue plan t r (Timer n) due = (timer : TimerOf) × (slice_get plan.program.timers n ≡ Some timer) × IsNextFiring t r timer due
IsDue plan t r (On n) (AtTag g period) = ⊥
IsDue plan t r (On n) AtStop = ⊥
IsDue plan t r (On n) Never = Unit {0}

-- one by one, when some triggers of r are due
pub record AreTriggersDue (plan : PlanParts) (t : List Row) (r : ℕ) (triggers : List Trigger) (dues : List Due) : Type 0 where
  pub as_long : length dues ≡ length triggers
  pub each : (k : ℕ) (x : Trigger) (due : Due) → slice_get triggers k ≡ Some x → slice_get dues k ≡ Some due → IsDue plan t r x due

-- the trigger, where it waits for no event
abbrev pub timed : Trigger → Option Trigger
timed Startup = Some Startup
timed Shutdown = Some Shutdown
timed (Timer n) = Some (Timer n)
timed (On n) = None

-- when those triggers of r are due that wait for no event and stand for all such
abbrev pub AreDueOf : PlanParts → List Row → ℕ → List Due → Type 0
AreDueOf plan t r dues = (needed : List Trigger) × AreNeededOf plan.program r needed × AreTriggersDue plan t r (filter_map timed needed) dues

-- the same of each reaction
pub record AreDues (plan : PlanParts) (t : List Row) (dues : List (List Due)) : Type 0 where
  pub as_long : length dues ≡ length plan.program.reactions
  pub each : (r : ℕ) (list : List Due) → slice_get dues r ≡ Some list → AreDueOf plan t r list

-- the reactions that started at g have runs there in the rows t, of which last is the stop, and what is kept is when the triggers of each reaction are due
pub record AreDuesAt (plan : PlanParts) (t : List Row) (started : List ℕ) (g last : Tag) (dues : List (List Due)) : Type 0 where
  pub last_is : last ≡ stop plan t
  pub ran : (r : ℕ) → Contains started r → Ran t g r
  pub each : AreDues plan t dues

-- what is due is so at g, where the stop tag is last
abbrev pub IsDueAt : Tag → Tag → Due → Type 0
IsDueAt last g (AtTag h period) = h ≡ g
IsDueAt last g AtStop = g ≡ last
IsDueAt last g Never = ⊥

-- what is due is so up to the stop
abbrev pub IsOwed : Tag → Due → Type 0
IsOwed last (AtTag g period) = UpTo g last
IsOwed last AtStop = Unit {0}
IsOwed last Never = ⊥

-- nothing is due up to the stop
abbrev pub NoneOwed : Tag → List (List Due) → Type 0
NoneOwed last dues = (r k : ℕ) (list : List Due) (due : Due) → slice_get dues r ≡ Some list → slice_get list k ≡ Some due → ¬ IsOwed last due

-- what is due is so before low, where the stop tag is last
abbrev pub IsDueBefore : Tag → Tag → Due → Type 0
IsDueBefore last low (AtTag g period) = Before g low
IsDueBefore last low AtStop = Before last low
IsDueBefore last low Never = ⊥

-- nothing is due before low
abbrev pub NoneDueBefore : Tag → Tag → List (List Due) → Type 0
NoneDueBefore last low dues = (r k : ℕ) (list : List Due) (due : Due) → slice_get dues r ≡ Some list → slice_get list k ≡ Some due → ¬ IsDueBefore last low due

-- some trigger of the list is present at g
abbrev pub SomeOccurs : PlanParts → List Row → Tag → List Trigger → Type 0
SomeOccurs plan t g triggers = (x : Trigger) × Contains triggers x × Occurs plan t g x

-- where a reaction has a run at g, and last is the stop, its triggers that were due by the old list are so by the new one
abbrev pub GoOn : Tag → Tag → List Due → List Due → Type 0
GoOn last g old new = (plan : PlanParts) (t : List Row) (r : ℕ) (triggers : List Trigger) → last ≡ stop plan t → Ran t g r → AreTriggersDue plan t r triggers old → AreTriggersDue plan t r triggers new

-- there some trigger that is due by the list is present at g
abbrev pub IsSomePresent : Tag → Tag → List Due → Type 0
IsSomePresent last g dues = (plan : PlanParts) (t : List Row) (r : ℕ) (triggers : List Trigger) → last ≡ stop plan t → Ran t g r → AreTriggersDue plan t r triggers dues → SomeOccurs plan t g triggers
