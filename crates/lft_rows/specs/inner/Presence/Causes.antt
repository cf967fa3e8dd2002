-- The causes of events in one list: by port or action, then by tag, then by place.
use Rattle.std.specs.Prelude.{◌≡◌, ℕ, ◌+◌, ◌<◌, ◌≤◌, ◌⊎◌, Bool, true, List, length, Option, Some, None, MatchOption, slice_get}
use Rattle.lft_tag.specs.{declared.Tag.Tag, Tags.{Before, after}, Shifts.{Folded, shifted}}
use Rattle.lft_ir.specs.Parts.{Parts}
use Rattle.lft_ir.specs.declared.parts.{Value.Value, Name.{Name, TheVariants.{Port, Action}}}
use Rattle.lft_ir.specs.declared.steps.{row.{Row.Row, Step.{Step, TheVariants.{Start, Read, Write, Schedule, Stop, End}}}, externals.Event.Event}
use Rattle.lft_model.specs.{Plans.PlanParts, Presence.min_delay}
use Rattle.lft_rows.specs.declared.presence.causes.EventCause.{EventCause}

-- the tag at which a cause stands
abbrev pub tag_of : EventCause → Tag
tag_of c = record { time = c.time; micro = c.micro }

-- the cause of this name, tag and place
abbrev pub cause : ℕ → Tag → ℕ → EventCause
cause name g i = record { name = name; time = g.time; micro = g.micro; place = i }

-- by name, then by tag, then by place
abbrev pub ComesUpTo : EventCause → EventCause → Type 0
ComesUpTo x y = (x.name < y.name) ⊎ ((x.name ≡ y.name) × (Before (tag_of x) (tag_of y) ⊎ ((tag_of x ≡ tag_of y) × (x.place ≤ y.place))))

-- the causes stand by name, then by tag, then by place
abbrev pub AreAscending : List EventCause → Type 0
AreAscending causes = (j k : ℕ) (x y : EventCause) → j < k → slice_get causes j ≡ Some x → slice_get causes k ≡ Some y → ComesUpTo x y

-- the tag is near enough for a shift to be added: two delays and a microstep past a recorded one
abbrev pub IsNear : Tag → Type 0
IsNear g = (g.time ≤ 3000000000000000000) × (g.micro ≤ 1000000001)

-- the causes all stand at tags that are near
abbrev pub AreNear : List EventCause → Type 0
AreNear causes = (k : ℕ) (c : EventCause) → slice_get causes k ≡ Some c → IsNear (tag_of c)

-- the cause is of a lesser name, or of the name and leads to a tag before g; or to g itself, where that is asked too
abbrev pub LiesBelow : ℕ → Folded → Tag → Bool → EventCause → Type 0
LiesBelow name s g past c = (c.name < name) ⊎ ((c.name ≡ name) × (Before (shifted (tag_of c) s) g ⊎ ((past ≡ true) × (shifted (tag_of c) s ≡ g))))

-- the causes below a place lie below the tag, and the others don't
pub record IsPosition (causes : List EventCause) (name : ℕ) (s : Folded) (g : Tag) (past : Bool) (n : ℕ) : Type 0 where
  pub within : n ≤ length causes
  pub below : (k : ℕ) (c : EventCause) → k < n → slice_get causes k ≡ Some c → LiesBelow name s g past c
  pub rest : (k : ℕ) (c : EventCause) → n ≤ k → slice_get causes k ≡ Some c → ¬ LiesBelow name s g past c

-- a write names a port, which stands under its own number
abbrev pub write_cause : Tag → ℕ → Name → Option EventCause
write_cause g i (Port p) = Some (cause p g i)
write_cause g i (Action a) = None

-- a scheduling names an action, which stands under its number past the ports, at the tag of the event
abbrev pub schedule_cause : Parts → Tag → ℕ → ℕ → Name → Option EventCause
schedule_cause program g i extra (Port p) = None
schedule_cause program g i extra (Action a) = Some (cause (length program.ports + a) (after g (min_delay program a + extra)) i)

-- the cause that a step at g in the row at place i is, if it is one
abbrev pub step_cause : Parts → Tag → ℕ → Step → Option EventCause
step_cause program g i (Write n v) = write_cause g i n
step_cause program g i (Schedule n v extra) = schedule_cause program g i extra n
step_cause program g i Start = None
step_cause program g i (Read n v) = None
step_cause program g i Stop = None
step_cause program g i End = None

-- the cause that an external event is; its place is counted on from the rows
abbrev pub event_cause : Parts → ℕ → Event → EventCause
event_cause program i event = cause (length program.ports + event.action) event.tag i

-- a row is the cause
pub record IsRowCause (program : Parts) (t : List Row) (c : EventCause) : Type 0 where
  pub place : ℕ
  pub row : Row
  pub is_row : slice_get t place ≡ Some row
  pub gives : step_cause program row.tag place row.step ≡ Some c

-- an external event is the cause
pub record IsEventCause (program : Parts) (t : List Row) (events : List Event) (c : EventCause) : Type 0 where
  pub place : ℕ
  pub event : Event
  pub is_event : slice_get events place ≡ Some event
  pub gives : event_cause program (length t + place) event ≡ c

-- a row or an external event is the cause
abbrev pub IsCause : PlanParts → List Row → EventCause → Type 0
IsCause plan t c = IsRowCause plan.program t c ⊎ IsEventCause plan.program t plan.externals.events c

-- the list has just what is of a kind, each at a place of its own
pub record HasJust (P : EventCause → Type 0) (causes : List EventCause) : Type 0 where
  pub only : (k : ℕ) (c : EventCause) → slice_get causes k ≡ Some c → P c
  pub each : (c : EventCause) → P c → (k : ℕ) × (slice_get causes k ≡ Some c)
  pub once : (j k : ℕ) (x y : EventCause) → slice_get causes j ≡ Some x → slice_get causes k ≡ Some y → x.place ≡ y.place → j ≡ k

-- the list has each cause of events once, in order
pub record AreCauses (plan : PlanParts) (t : List Row) (causes : List EventCause) : Type 0 where
  pub just : HasJust (IsCause plan t) causes
  pub ascending : AreAscending causes
  pub near : AreNear causes

-- the cause is of the name, and the shift leads from its tag to g
abbrev pub Leads : ℕ → Folded → Tag → EventCause → Type 0
Leads name s g c = (c.name ≡ name) × (shifted (tag_of c) s ≡ g)

-- of the causes of a name that lead to g the last, if any
abbrev pub IsLastCause : PlanParts → List Row → ℕ → Folded → Tag → Option EventCause → Type 0
IsLastCause plan t name s g o = MatchOption o ((c : EventCause) → IsCause plan t c → ¬ Leads name s g c) (λ c. IsCause plan t c × Leads name s g c × ((d : EventCause) → IsCause plan t d → Leads name s g d → ComesUpTo d c))

-- the value that a step writes or schedules
abbrev pub value_of : Step → Option Value
value_of (Write n v) = Some v
value_of (Schedule n v d) = Some v
value_of Start = None
value_of (Read n v) = None
value_of Stop = None
value_of End = None

-- what stands at the place of a cause: the value of the row's step, or of the external event
abbrev pub Carries : PlanParts → List Row → EventCause → Option Value → Type 0
Carries plan t c o = ((row : Row) × (slice_get t c.place ≡ Some row) × (o ≡ value_of row.step)) ⊎ ((i : ℕ) × (event : Event) × (length t + i ≡ c.place) × (slice_get plan.externals.events i ≡ Some event) × (o ≡ Some event.value))

-- the value that the last cause of a name that leads to g carries, if there is one
abbrev pub IsValueFrom : PlanParts → List Row → ℕ → Folded → Tag → Option Value → Type 0
IsValueFrom plan t name s g o = MatchOption o ((c : EventCause) → IsCause plan t c → ¬ Leads name s g c) (λ v. (c : EventCause) × IsLastCause plan t name s g (Some c) × Carries plan t c (Some v))

-- the causes from one place up to, without, another lead to g, and the one at that other place, if any, doesn't
pub record IsSkip (causes : List EventCause) (name : ℕ) (s : Folded) (g : Tag) (place next : ℕ) : Type 0 where
  pub further : place < next
  pub within : next ≤ length causes
  pub same : (k : ℕ) (c : EventCause) → place ≤ k → k < next → slice_get causes k ≡ Some c → Leads name s g c
  pub other : (c : EventCause) → slice_get causes next ≡ Some c → ¬ Leads name s g c
