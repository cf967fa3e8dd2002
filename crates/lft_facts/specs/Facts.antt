-- What each fact says.
use Rattle.std.specs.Prelude.{◌≡◌, ◌≢◌, ◌↔◌, ℕ, ◌+◌, ◌*◌, ◌<◌, ◌≤◌, ◌⊎◌, List, [], length, Option, Some, None, slice_get, Contains, All}
use Rattle.lft_tag.specs.{declared.Tag.Tag, Tags.{Before, after, after_all}}
use Rattle.lft_ir.specs.{Parts.{Parts, inputs}, Origins.Origin}
use Rattle.lft_ir.specs.declared.parts.{Name.{Name, TheVariants.{Port, Action}}, Value.Value, Reaction.Reaction, Timer.Timer as TimerOf, Trigger.Trigger}
use Rattle.lft_ir.specs.declared.steps.{row.{Row.Row, Step.{Step, TheVariants.{Start, Read, Write, Schedule, Stop, End}}}, externals.Event.Event}
use Rattle.lft_graph.specs.{Before.{IsDeclaredJustBefore, FeedsLast}, Precedence.{IsDeclaredFirst, Precedes}}
use Rattle.lft_model.specs.{Plans.PlanParts, Presence.{stop, value_written, min_delay, Occurs, Triggered, Shows}, Runs.{Ran, steps_of, read_of, inputs_of}}
use Rattle.lft_model.specs.Breaches.{IsOpen, IsUnended, EndsBefore, MayWrite, MaySchedule}
use Rattle.lft_races.specs.{Runs.{StartsAt, EndsAt, IsOpenSince}, Across.{StartsTwice, ReadsAt}, Races.IsUnfinished, Hints.Hints.HasTrigger}
use Rattle.lft_facts.specs.{Reasons.IsReason, declared.facts.{Fact.Fact, Cause.Cause, RowFact.RowFact}}
use Rattle.lft_facts.specs.declared.facts.Fact.TheVariants as fact
use Rattle.lft_facts.specs.declared.facts.Cause.TheVariants as cause
use Rattle.lft_facts.specs.declared.facts.RowFact.TheVariants as row_fact

-- r starts at g in one row, and a ends at g in a later row
pub record StartsBeforeEnd (t : List Row) (g : Tag) (a r start end : ℕ) : Type 0 where
  pub starts : StartsAt t g r start
  pub ends : EndsAt t g a end
  pub before : start < end

-- a is declared just before r in its instance, or is the last declared writer of what an input port of r gets without a delay
abbrev pub IsJustBefore : Parts → ℕ → ℕ → Type 0
IsJustBefore program a r = IsDeclaredJustBefore program a r ⊎ FeedsLast program a r

-- of the reactions that precede r and have a run at g that no row before place i ends, a is the one to name: the least of those just before r, and where none is just before r the least of all
pub record IsChosen (program : Parts) (t : List Row) (g : Tag) (a r i : ℕ) : Type 0 where
  pub near : (b : ℕ) → IsJustBefore program b r → IsUnfinished t g b i → IsJustBefore program a r × (a ≤ b)
  pub far : (b : ℕ) → Precedes program b r → IsUnfinished t g b i → IsJustBefore program a r ⊎ (a ≤ b)

-- a precedes r and hadn't ended at g before r started there: r starts in one row, and a ends in a later row; of all those that hadn't ended a is the one to name
pub record IsEarlyStart (plan : PlanParts) (t : List Row) (g : Tag) (a r start end : ℕ) : Type 0 where
  pub precedes : Precedes plan.program a r
  pub not_ended : ¬ EndsBefore t g a r
  pub rows : StartsBeforeEnd t g a r start end
  pub chosen : IsChosen plan.program t g a r start

-- a has a run at g that no row before the start of r there ends, and a later row does
pub record HasUnfinishedRun (t : List Row) (g : Tag) (a r start end : ℕ) : Type 0 where
  pub rows : StartsBeforeEnd t g a r start end
  pub unfinished : IsUnfinished t g a start

-- so it is with a reaction that precedes r
pub record IsRaceOf (plan : PlanParts) (t : List Row) (g : Tag) (a r start end : ℕ) : Type 0 where
  pub precedes : Precedes plan.program a r
  pub race : HasUnfinishedRun t g a r start end

-- r is triggered at g and has no run there
pub record HasNoRun (plan : PlanParts) (t : List Row) (g : Tag) (r : ℕ) : Type 0 where
  pub triggered : Triggered plan t g r
  pub none : ¬ Ran t g r

-- a may write the origin of port p, which is an input of b and is reached without a delay
pub record FeedsBy (program : Parts) (a b p : ℕ) : Type 0 where
  pub writer : Reaction
  pub reader : Reaction
  pub is_writer : slice_get program.reactions a ≡ Some writer
  pub is_reader : slice_get program.reactions b ≡ Some reader
  pub origin : ℕ
  pub is_effect : Contains writer.effects (Port origin)
  pub is_input : Contains (inputs reader) (Port p)
  pub undelayed : Origin program p origin []

-- r has so many triggers
pub record HasTriggers (program : Parts) (r count : ℕ) : Type 0 where
  pub reaction : Reaction
  pub is_reaction : slice_get program.reactions r ≡ Some reaction
  pub as_many : length reaction.triggers ≡ count

-- the trigger of r at place k is x, and x isn't present at g
pub record IsUntriggered (plan : PlanParts) (t : List Row) (g : Tag) (r k : ℕ) (x : Trigger) : Type 0 where
  pub reaction : Reaction
  pub is_reaction : slice_get plan.program.reactions r ≡ Some reaction
  pub is_trigger : slice_get reaction.triggers k ≡ Some x
  pub absent : ¬ Occurs plan t g x

-- the timer fires at its offset and so many periods, once alone where the period is 0
pub record FiresAfter (program : Parts) (g : Tag) (n count : ℕ) : Type 0 where
  pub timer : TimerOf
  pub is_timer : slice_get program.timers n ≡ Some timer
  pub at : g ≡ record { time = timer.offset + count * timer.period; micro = 0 }
  pub once : timer.period ≡ 0 → count ≡ 0

-- the row at place i is the last that writes the origin of port p at its tag, and the delays from there lead to g
pub record IsWrittenIn (plan : PlanParts) (t : List Row) (g : Tag) (p i : ℕ) : Type 0 where
  pub row : Row
  pub value : Value
  pub origin : ℕ
  pub delays : List ℕ
  pub is_row : slice_get t i ≡ Some row
  pub writes : row.step ≡ Write (Port origin) value
  pub last : (j : ℕ) (other : Row) → i < j → slice_get t j ≡ Some other → other.tag ≡ row.tag → value_written origin other.step ≡ None
  pub is_origin : Origin plan.program p origin delays
  pub arrives : after_all row.tag delays ≡ g

-- the row at place i schedules action a, and its least and its extra delay lead to g
pub record IsScheduledIn (plan : PlanParts) (t : List Row) (g : Tag) (a i : ℕ) : Type 0 where
  pub row : Row
  pub value : Value
  pub extra : ℕ
  pub is_row : slice_get t i ≡ Some row
  pub schedules : row.step ≡ Schedule (Action a) value extra
  pub arrives : after row.tag (min_delay plan.program a + extra) ≡ g

-- the external event at place i is of action a at g
pub record IsGiven (plan : PlanParts) (g : Tag) (a i : ℕ) : Type 0 where
  pub event : Event
  pub is_event : slice_get plan.externals.events i ≡ Some event
  pub tag_is : event.tag ≡ g
  pub action_is : event.action ≡ a

-- n is the input of r at place k; the run of r at g read this of it, and exactly that is present there
pub record IsRead (plan : PlanParts) (t : List Row) (g : Tag) (r k : ℕ) (n : Name) (read present : Option Value) : Type 0 where
  pub reaction : Reaction
  pub is_reaction : slice_get plan.program.reactions r ≡ Some reaction
  pub is_input : slice_get (inputs reaction) k ≡ Some n
  pub was_read : read_of (steps_of t g r) n ≡ read
  pub shown : (o : Option Value) → Shows plan t g n o ↔ (o ≡ present)

-- the row at place i is of r at g
pub record IsRowOf (t : List Row) (g : Tag) (r i : ℕ) : Type 0 where
  pub row : Row
  pub is_row : slice_get t i ≡ Some row
  pub tag_is : row.tag ≡ g
  pub reaction_is : row.reaction ≡ r

-- the row at place i is at a lesser tag than the one at place j before it
pub record IsAtLesserTag (t : List Row) (i j : ℕ) : Type 0 where
  pub row : Row
  pub earlier : Row
  pub is_row : slice_get t i ≡ Some row
  pub is_earlier : slice_get t j ≡ Some earlier
  pub before : j < i
  pub lesser : Before row.tag earlier.tag

-- the row at place i is at a tag after the stop
pub record IsAfterStop (plan : PlanParts) (t : List Row) (i : ℕ) : Type 0 where
  pub row : Row
  pub is_row : slice_get t i ≡ Some row
  pub after : Before (stop plan t) row.tag

-- the row at place i starts a run while its worker has one open that it started in the row at place j
pub record StartsBusy (t : List Row) (i j : ℕ) : Type 0 where
  pub row : Row
  pub is_row : slice_get t i ≡ Some row
  pub starts : row.step ≡ Start
  pub busy : IsOpenSince t i row.worker j

-- the row at place i doesn't start a run, and its worker has no open run of its tag and reaction
pub record IsUnopened (t : List Row) (i : ℕ) : Type 0 where
  pub row : Row
  pub is_row : slice_get t i ≡ Some row
  pub inner : ¬ (row.step ≡ Start)
  pub closed : ¬ IsOpen t i row.worker row.tag row.reaction

-- the row at place i reads what isn't among the inputs of its reaction
pub record ReadsOther (program : Parts) (t : List Row) (i : ℕ) : Type 0 where
  pub row : Row
  pub name : Name
  pub value : Value
  pub is_row : slice_get t i ≡ Some row
  pub reads : row.step ≡ Read name value
  pub other : ¬ Contains (inputs_of program row.reaction) name

-- the row at place i reads what the one at place j before it reads in the same run
pub record ReadsTwice (t : List Row) (i j : ℕ) : Type 0 where
  pub row : Row
  pub name : Name
  pub value : Value
  pub is_row : slice_get t i ≡ Some row
  pub reads : row.step ≡ Read name value
  pub first : ReadsAt t row.tag row.reaction name j
  pub before : j < i

-- a step that writes or schedules what reaction r may not
abbrev pub MayNot : Parts → ℕ → Step → Type 0
MayNot program r (Write n v) = ¬ MayWrite program r n
MayNot program r (Schedule n v d) = ¬ MaySchedule program r n
MayNot program r Start = ⊥
MayNot program r (Read n v) = ⊥
MayNot program r Stop = ⊥
MayNot program r End = ⊥

-- the row at place i writes or schedules what its reaction may not
pub record IsNoEffect (program : Parts) (t : List Row) (i : ℕ) : Type 0 where
  pub row : Row
  pub is_row : slice_get t i ≡ Some row
  pub may_not : MayNot program row.reaction row.step

-- the row at place i starts a run that has no end row behind it
pub record IsNeverEnded (t : List Row) (i : ℕ) : Type 0 where
  pub row : Row
  pub is_row : slice_get t i ≡ Some row
  pub unended : IsUnended t i row

-- what makes something present is so in the plan and the rows
abbrev pub CauseHolds : PlanParts → List Row → Cause → Type 0
CauseHolds plan t (cause.AtStartup g) = g ≡ record { time = 0; micro = 0 }
CauseHolds plan t (cause.AtShutdown g) = g ≡ stop plan t
CauseHolds plan t (cause.Fires g n count) = FiresAfter plan.program g n count
CauseHolds plan t (cause.Written g p i) = IsWrittenIn plan t g p i
CauseHolds plan t (cause.Scheduled g a i) = IsScheduledIn plan t g a i
CauseHolds plan t (cause.Given g a i) = IsGiven plan g a i

-- the port or action to which a cause gives an event, and the tag of the event
abbrev pub event_of_cause : Cause → Option (Tag × Name)
event_of_cause (cause.Written g p i) = Some (g, Port p)
event_of_cause (cause.Scheduled g a i) = Some (g, Action a)
event_of_cause (cause.Given g a i) = Some (g, Action a)
event_of_cause (cause.AtStartup g) = None
event_of_cause (cause.AtShutdown g) = None
event_of_cause (cause.Fires g n count) = None

-- two causes give one port or action an event at g
pub record AreTwoCauses (plan : PlanParts) (t : List Row) (g : Tag) (c d : Cause) : Type 0 where
  pub name : Name
  pub first : CauseHolds plan t c
  pub second : CauseHolds plan t d
  pub first_event : event_of_cause c ≡ Some (g, name)
  pub second_event : event_of_cause d ≡ Some (g, name)
  pub apart : c ≢ d

-- what is wrong with a row is so in the plan and the rows
abbrev pub IsRowFact : PlanParts → List Row → RowFact → Type 0
IsRowFact plan t (row_fact.Late i j) = IsAtLesserTag t i j
IsRowFact plan t (row_fact.AfterStop i) = IsAfterStop plan t i
IsRowFact plan t (row_fact.StartsAgain i j) = StartsTwice t i j
IsRowFact plan t (row_fact.Busy i j) = StartsBusy t i j
IsRowFact plan t (row_fact.NotOpen i) = IsUnopened t i
IsRowFact plan t (row_fact.NotInput i) = ReadsOther plan.program t i
IsRowFact plan t (row_fact.ReadAgain i j) = ReadsTwice t i j
IsRowFact plan t (row_fact.NotEffect i) = IsNoEffect plan.program t i
IsRowFact plan t (row_fact.Unended i) = IsNeverEnded t i

-- the fact holds of the plan and the rows
abbrev pub IsFact : PlanParts → List Row → Fact → Type 0
IsFact plan t (fact.StartsEarly g a r start end) = IsEarlyStart plan t g a r start end
IsFact plan t (fact.Race g a r start end) = IsRaceOf plan t g a r start end
IsFact plan t (fact.DeclaredFirst a b) = IsDeclaredFirst plan.program a b
IsFact plan t (fact.Feeds a b p) = FeedsBy plan.program a b p
IsFact plan t (fact.NoRun g r) = HasNoRun plan t g r
IsFact plan t (fact.Runs g r start) = StartsAt t g r start
IsFact plan t (fact.HasTrigger r x) = HasTrigger plan.program r x
IsFact plan t (fact.TriggerCount r count) = HasTriggers plan.program r count
IsFact plan t (fact.Untriggered g r k x) = IsUntriggered plan t g r k x
IsFact plan t (fact.Cause c) = CauseHolds plan t c
IsFact plan t (fact.Clash g c d) = AreTwoCauses plan t g c d
IsFact plan t (fact.RowIs g r i) = IsRowOf t g r i
IsFact plan t (fact.Row f) = IsRowFact plan t f
IsFact plan t (fact.Reads g r k n read present) = IsRead plan t g r k n read present
IsFact plan t (fact.Reason x) = IsReason plan t x

-- all of the facts hold
abbrev pub AreFacts : PlanParts → List Row → List Fact → Type 0
AreFacts plan t facts = All (IsFact plan t) facts

-- what the plan and the rows show of a fact by itself: of an early start and of a race not that the one reaction precedes the other, and of a run that is missing not that it is triggered. Other facts are to give that
abbrev pub IsShown : PlanParts → List Row → Fact → Type 0
IsShown plan t (fact.StartsEarly g a r start end) = StartsBeforeEnd t g a r start end
IsShown plan t (fact.Race g a r start end) = HasUnfinishedRun t g a r start end
IsShown plan t (fact.DeclaredFirst a b) = IsFact plan t (fact.DeclaredFirst a b)
IsShown plan t (fact.Feeds a b p) = IsFact plan t (fact.Feeds a b p)
IsShown plan t (fact.NoRun g r) = ¬ Ran t g r
IsShown plan t (fact.Runs g r start) = IsFact plan t (fact.Runs g r start)
IsShown plan t (fact.HasTrigger r x) = IsFact plan t (fact.HasTrigger r x)
IsShown plan t (fact.TriggerCount r count) = IsFact plan t (fact.TriggerCount r count)
IsShown plan t (fact.Untriggered g r k x) = IsFact plan t (fact.Untriggered g r k x)
IsShown plan t (fact.Cause c) = IsFact plan t (fact.Cause c)
IsShown plan t (fact.Clash g c d) = IsFact plan t (fact.Clash g c d)
IsShown plan t (fact.RowIs g r i) = IsFact plan t (fact.RowIs g r i)
IsShown plan t (fact.Row f) = IsFact plan t (fact.Row f)
IsShown plan t (fact.Reads g r k n read present) = IsFact plan t (fact.Reads g r k n read present)
IsShown plan t (fact.Reason x) = IsFact plan t (fact.Reason x)

-- what the plan and the rows show of all of the facts
abbrev pub AreShown : PlanParts → List Row → List Fact → Type 0
AreShown plan t facts = All (IsShown plan t) facts
