-- What two runs of r at g show beside one another, the one of the trace t, the other of s.
use Rattle.std.specs.Prelude.{◌≡◌, ◌≢◌, ℕ, List, All, Contains, Option, Some, option_map, slice_get, is_some}
use Rattle.lft_tag.specs.{declared.Tag.Tag, Tags.Before}
use Rattle.lft_ir.specs.declared.{parts.{Name.{Name, TheVariants.{Port, Action}}, Value.Value}, steps.row.Row.Row}
use Rattle.lft_model.specs.{Plans.PlanParts, Runs.{inputs_of, effects_of, read_of, steps_of}, Recorded.{SameHistory, instance_of}}
use Rattle.lft_pair.specs.{Pairs.IsSameRun, declared.contrasting.contrasts.{Placed.Placed, LastWrite.LastWrite, Scheduling.Scheduling, Contrast.Contrast}}
use Rattle.lft_pair.specs.{Runs.{placed_steps, last_write, schedulings, first_request}, Counts.{Counts, StartsBefore, StartsEarlier}}
use Rattle.lft_races.specs.Runs.{StartsAt}
use Rattle.lft_pair.specs.declared.contrasting.contrasts.Contrast.TheVariants as contrast

-- what counts of a write: its value
abbrev pub value_of : Option LastWrite → Option Value
value_of o = option_map (λ w. w.value) o

-- what counts of a scheduling: its extra delay and its value
abbrev pub event : Scheduling → ℕ × Value
event y = (y.delay, y.value)

abbrev pub event_of_scheduling : Option Scheduling → Option (ℕ × Value)
event_of_scheduling o = option_map event o

-- the last writes of port p in two runs, which haven't the same value
pub record IsWritten (mine theirs : List Placed) (p : ℕ) (first second : Option LastWrite) : Type 0 where
  pub first_is : first ≡ last_write mine p
  pub second_is : second ≡ last_write theirs p
  pub other : value_of first ≢ value_of second

-- the schedulings of action a at place k among those of two runs, which aren't the same
pub record IsScheduled (mine theirs : List Placed) (a k : ℕ) (first second : Option Scheduling) : Type 0 where
  pub first_is : first ≡ slice_get (schedulings mine a) k
  pub second_is : second ≡ slice_get (schedulings theirs a) k
  pub other : event_of_scheduling first ≢ event_of_scheduling second

-- the first stop requests of two runs, of which one has none
pub record IsRequested (mine theirs : List Placed) (first second : Option ℕ) : Type 0 where
  pub first_is : first ≡ first_request mine
  pub second_is : second ≡ first_request theirs
  pub other : is_some first ≢ is_some second

-- n is the input of r at place k, and both runs read this of it
pub record IsRead (plan : PlanParts) (t s : List Row) (g : Tag) (r k : ℕ) (n : Name) (read : Option Value) : Type 0 where
  pub is_input : slice_get (inputs_of plan.program r) k ≡ Some n
  pub first : read_of (steps_of t g r) n ≡ read
  pub second : read_of (steps_of s g r) n ≡ read

-- the earlier runs of the instance of r are the same in both, with the same reads, and there are so many
pub record HasEarlier (plan : PlanParts) (t s : List Row) (g : Tag) (r instance count : ℕ) : Type 0 where
  pub same : SameHistory plan t s g r
  pub is_instance : instance_of plan.program r ≡ instance
  pub counted : Counts (StartsEarlier plan.program g r) t count

-- the runs before g are the same in both, and there are so many
pub record HasBefore (plan : PlanParts) (t s : List Row) (g : Tag) (count : ℕ) : Type 0 where
  pub same : (h : Tag) (a : ℕ) → Before h g → IsSameRun plan t s h a
  pub counted : Counts (StartsBefore g) t count

-- the statement holds of the runs of r at g in the two traces
abbrev pub IsContrast : PlanParts → List Row → List Row → Tag → ℕ → Contrast → Type 0
IsContrast plan t s g r (contrast.Written p first second) = Contains (effects_of plan.program r) (Port p) × IsWritten (placed_steps t g r) (placed_steps s g r) p first second
IsContrast plan t s g r (contrast.Scheduled a k first second) = Contains (effects_of plan.program r) (Action a) × IsScheduled (placed_steps t g r) (placed_steps s g r) a k first second
IsContrast plan t s g r (contrast.Requested first second) = IsRequested (placed_steps t g r) (placed_steps s g r) first second
IsContrast plan t s g r (contrast.Starts first second) = StartsAt t g r first × StartsAt s g r second
IsContrast plan t s g r (contrast.Read k n read) = IsRead plan t s g r k n read
IsContrast plan t s g r (contrast.Earlier instance count) = HasEarlier plan t s g r instance count
IsContrast plan t s g r (contrast.Before count) = HasBefore plan t s g count

-- all of the statements hold
abbrev pub AreContrasts : PlanParts → List Row → List Row → Tag → ℕ → List Contrast → Type 0
AreContrasts plan t s g r contrasts = All (IsContrast plan t s g r) contrasts
