-- What each hint says of a plan, the rows of a trace and a breach. A guess is no statement, and stands in the words alone.
use Rattle.std.specs.Prelude.{◌≡◌, ◌≢◌, ℕ, ◌+◌, ◌*◌, ◌<◌, ◌≤◌, ◌⊎◌, List, length, Some, slice_get, Contains}
use Rattle.lft_tag.specs.{declared.Tag.Tag, Tags.Before}
use Rattle.lft_ir.specs.Parts.{Parts}
use Rattle.lft_ir.specs.declared.parts.{Name.{Name, TheVariants.{Port, Action}}, Reaction.Reaction, Trigger.{Trigger, TheVariants.{Shutdown, On}}, Value.Value}
use Rattle.lft_ir.specs.declared.steps.row.{Row.Row, Step.TheVariants.{Start, End, Read, Write, Schedule}}
use Rattle.lft_model.specs.{declared.breach.Breach.Breach, Plans.PlanParts, Presence.{stop, Triggered}}
use Rattle.lft_races.specs.{Races.IsRaceBefore, Across.{IsAcross, StartsTwice}, declared.hints.hint.Hint.Hint}
use Rattle.lft_races.specs.declared.hints.hint.Hint.TheVariants as hint

-- no row before the one at place i is of its worker
pub record IsFirstOfWorker (t : List Row) (i : ℕ) : Type 0 where
  pub row : Row
  pub is_row : slice_get t i ≡ Some row
  pub first : (j : ℕ) (other : Row) → j < i → slice_get t j ≡ Some other → other.worker ≢ row.worker

-- all rows are before g
abbrev pub AllBefore : List Row → Tag → Type 0
AllBefore t g = (i : ℕ) (row : Row) → slice_get t i ≡ Some row → Before row.tag g

-- no row reads
abbrev pub NoRowReads : List Row → Type 0
NoRowReads t = (i : ℕ) (row : Row) (n : Name) (v : Value) → slice_get t i ≡ Some row → row.step ≢ Read n v

-- no row writes
abbrev pub NoneWrites : List Row → Type 0
NoneWrites t = (i : ℕ) (row : Row) (n : Name) (v : Value) → slice_get t i ≡ Some row → row.step ≢ Write n v

-- no row ends a run
abbrev pub NoneEnds : List Row → Type 0
NoneEnds t = (i : ℕ) (row : Row) → slice_get t i ≡ Some row → row.step ≢ End

-- the stop is that of the external inputs, and g is over a hundred times as late
abbrev pub IsSmallStop : PlanParts → List Row → Tag → Type 0
IsSmallStop plan t g = (stop plan t ≡ plan.externals.stop) × (0 < plan.externals.stop.time) × (plan.externals.stop.time * 100 < g.time)

-- x is one of the triggers of r
pub record HasTrigger (program : Parts) (r : ℕ) (x : Trigger) : Type 0 where
  pub reaction : Reaction
  pub is_reaction : slice_get program.reactions r ≡ Some reaction
  pub is_trigger : Contains reaction.triggers x

-- a port is one of the triggers of r
abbrev pub HasPort : Parts → ℕ → Type 0
HasPort program r = (p : ℕ) × HasTrigger program r (On (Port p))

-- r is triggered at a thousand times the time of g, which isn't 0 and leads to a time that a trace may hold
pub record IsThousandfold (plan : PlanParts) (t : List Row) (g : Tag) (r : ℕ) : Type 0 where
  pub later : 0 < g.time
  pub recorded : g.time * 1000 ≤ 1000000000000000000
  pub triggered : Triggered plan t (record { time = g.time * 1000; micro = g.micro }) r

-- the row schedules an action that triggers r, and its tag and its extra delay alone lead to g
pub record SchedulesWhole (program : Parts) (g : Tag) (r : ℕ) (row : Row) : Type 0 where
  pub action : ℕ
  pub value : Value
  pub extra : ℕ
  pub schedules : row.step ≡ Schedule (Action action) value extra
  pub later : 0 < extra
  pub arrives : g ≡ record { time = row.tag.time + extra; micro = 0 }
  pub triggers : HasTrigger program r (On (Action action))

-- the row at place i is such a row
abbrev pub HasWholeDelay : Parts → List Row → Tag → ℕ → ℕ → Type 0
HasWholeDelay program t g r i = (row : Row) × (slice_get t i ≡ Some row) × SchedulesWhole program g r row

-- what a hint says of a run of r at g that nothing triggers
abbrev pub IsUntriggeredHint : PlanParts → List Row → Tag → ℕ → Hint → Type 0
IsUntriggeredHint plan t g r hint.Thousandfold = IsThousandfold plan t g r
IsUntriggeredHint plan t g r (hint.WholeDelay i) = HasWholeDelay plan.program t g r i
IsUntriggeredHint plan t g r hint.RunsAtStop = HasTrigger plan.program r Shutdown
IsUntriggeredHint plan t g r hint.NoWrites = NoneWrites t × HasPort plan.program r
IsUntriggeredHint plan t g r hint.Scheduler = ⊥
IsUntriggeredHint plan t g r hint.NextTag = ⊥
IsUntriggeredHint plan t g r hint.FirstOfWorker = ⊥
IsUntriggeredHint plan t g r hint.LateRow = ⊥
IsUntriggeredHint plan t g r hint.FirstRow = ⊥
IsUntriggeredHint plan t g r hint.StartedTwice = ⊥
IsUntriggeredHint plan t g r hint.OneNumber = ⊥
IsUntriggeredHint plan t g r hint.TraceEnds = ⊥
IsUntriggeredHint plan t g r hint.NoReads = ⊥
IsUntriggeredHint plan t g r hint.NoRows = ⊥
IsUntriggeredHint plan t g r hint.NoEnds = ⊥
IsUntriggeredHint plan t g r hint.LateEnd = ⊥
IsUntriggeredHint plan t g r hint.SmallStop = ⊥

-- what a hint says of the run that rule 8 names
abbrev pub OfRule8 : PlanParts → List Row → Breach → Hint → Type 0
OfRule8 plan t b h = (b.rule ≡ 8) × ((r : ℕ) × (b.reaction ≡ Some r) × IsUntriggeredHint plan t b.tag r h)

-- before the breach a run starts too early for rule 9
abbrev pub HasRace : PlanParts → List Row → Breach → Type 0
HasRace plan t b = (i : ℕ) × IsRaceBefore plan t b (Some i)

-- the breach is of the first row of a worker
abbrev pub IsOfFirstRow : List Row → Breach → Type 0
IsOfFirstRow t b = (i : ℕ) × (b.row ≡ i + 2) × IsFirstOfWorker t i

-- the breach is of a row that starts a run
abbrev pub IsOfStart : List Row → Breach → Type 0
IsOfStart t b = (i : ℕ) × (row : Row) × (b.row ≡ i + 2) × (slice_get t i ≡ Some row) × (row.step ≡ Start)

-- the breach is of a row of a run that was open when the first row at a later tag came
abbrev pub IsOfOpen : List Row → Breach → Type 0
IsOfOpen t b = (i : ℕ) × (b.row ≡ i + 2) × IsAcross t i

-- the row at place i starts a run that one before it starts
abbrev pub IsSecond : List Row → ℕ → Type 0
IsSecond t i = (j : ℕ) × StartsTwice t i j

-- the breach is of such a row
abbrev pub IsOfSecond : List Row → Breach → Type 0
IsOfSecond t b = (i : ℕ) × (b.row ≡ i + 2) × IsSecond t i

-- the row starts a run, or its run wasn't open so and no run starts too early before the breach
abbrev pub IsLateByRecorder : PlanParts → List Row → Breach → Type 0
IsLateByRecorder plan t b = IsOfStart t b ⊎ ((¬ IsOfOpen t b) × (¬ HasRace plan t b))

-- so it is with the breach of rule 1 or 3, where that may be the scheduler's
abbrev pub IsOfOrder : List Row → Breach → Type 0
IsOfOrder t b = ((b.rule ≡ 1) × (¬ IsOfStart t b) × (¬ IsOfOpen t b)) ⊎ (b.rule ≡ 3)

-- a row is at a tag after g
abbrev pub IsPassed : List Row → Tag → Type 0
IsPassed t g = (i : ℕ) × (row : Row) × (slice_get t i ≡ Some row) × Before g row.tag

-- what a hint says of a breach
abbrev pub IsHint : PlanParts → List Row → Breach → Hint → Type 0
IsHint plan t b hint.Scheduler = IsOfOrder t b × HasRace plan t b
IsHint plan t b hint.NextTag = (b.rule ≡ 1) × (¬ IsOfStart t b) × IsOfOpen t b
IsHint plan t b hint.FirstOfWorker = (b.rule ≡ 1) × IsLateByRecorder plan t b × IsOfFirstRow t b
IsHint plan t b hint.LateRow = (b.rule ≡ 1) × IsLateByRecorder plan t b × (¬ IsOfFirstRow t b)
IsHint plan t b hint.FirstRow = (b.rule ≡ 3) × (¬ HasRace plan t b) × (b.row ≡ 2)
IsHint plan t b hint.StartedTwice = (b.rule ≡ 3) × (¬ HasRace plan t b) × (b.row ≢ 2) × IsOfSecond t b
IsHint plan t b hint.OneNumber = (b.rule ≡ 3) × (¬ HasRace plan t b) × (b.row ≢ 2) × (¬ IsOfSecond t b)
IsHint plan t b hint.TraceEnds = (b.rule ≡ 7) × (0 < length t) × AllBefore t b.tag × (stop plan t ≡ plan.externals.stop)
IsHint plan t b hint.NoReads = (b.rule ≡ 10) × NoRowReads t
IsHint plan t b hint.NoRows = (b.rule ≡ 7) × (length t ≡ 0)
IsHint plan t b hint.NoEnds = (b.rule ≡ 5) × NoneEnds t
IsHint plan t b hint.LateEnd = (b.rule ≡ 5) × (¬ NoneEnds t) × IsPassed t b.tag
IsHint plan t b hint.SmallStop = (b.rule ≡ 2) × IsSmallStop plan t b.tag
IsHint plan t b hint.Thousandfold = OfRule8 plan t b hint.Thousandfold
IsHint plan t b (hint.WholeDelay i) = OfRule8 plan t b (hint.WholeDelay i)
IsHint plan t b hint.RunsAtStop = OfRule8 plan t b hint.RunsAtStop
IsHint plan t b hint.NoWrites = OfRule8 plan t b hint.NoWrites
