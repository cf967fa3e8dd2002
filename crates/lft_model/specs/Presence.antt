-- What is present at a tag, by the rows of a trace and the external inputs.
use Rattle.std.specs.Prelude.{◌≡◌, ◌≢◌, ℕ, ◌+◌, ◌*◌, ◌≤◌, cond, ◌&&◌, ◌==◌, List, ◌++◌, length, Option, Some, None, slice_get, Contains, filter_map, option_map, option_and_then, unwrap_or}
use Rattle.std.specs.List.{last_or, AllZip}
use Rattle.lft_tag.specs.{declared.Tag.Tag, Tags.{after, after_all, same_tag, earliest}}
use Rattle.lft_ir.specs.{Parts.{Parts, inputs}, Naming.{is_port, is_action}, Origins.Origin}
use Rattle.lft_ir.specs.declared.parts.{Value.Value, Name.{Name, TheVariants.{Port, Action}}, Trigger.{Trigger, TheVariants.{Startup, Shutdown, Timer, On}}}
use Rattle.lft_ir.specs.declared.parts.{Timer.Timer as TimerOf, Reaction.Reaction}
use Rattle.lft_ir.specs.declared.steps.{row.{Row.Row, Step.{Step, TheVariants.{Start, Read, Write, Schedule, Stop, End}}}, externals.Event.Event}
use Rattle.lft_model.specs.Plans.{PlanParts}

-- the value that a step writes to port p
abbrev pub value_written : ℕ → Step → Option Value
value_written p (Write n v) = cond (is_port p n) (Some v) None
value_written p Start = None
value_written p (Read n v) = None
value_written p (Schedule n v d) = None
value_written p Stop = None
value_written p End = None

-- the value that a row writes to port p at tag g
abbrev pub written : Tag → ℕ → Row → Option Value
written g p row = cond (same_tag g row.tag) (value_written p row.step) None

-- the last write row of t at g that names port p has the value v
abbrev pub Last : List Row → Tag → ℕ → Value → Type 0
Last t g p v = last_or None (filter_map (written g p) t) ≡ Some v

-- port p has an event at g with the value v, since its origin was written at h and the delays lead from h to g
pub record IsWrittenFrom (plan : PlanParts) (t : List Row) (g : Tag) (p : ℕ) (h : Tag) (v : Value) : Type 0 where
  pub origin : ℕ
  pub delays : List ℕ
  pub is_origin : Origin plan.program p origin delays
  pub arrives : after_all h delays ≡ g
  pub is_last : Last t h origin v

-- the extra delay and the value that a step schedules for action a
abbrev pub value_scheduled : ℕ → Step → Option (ℕ × Value)
value_scheduled a (Schedule n v extra) = cond (is_action a n) (Some (extra, v)) None
value_scheduled a Start = None
value_scheduled a (Read n v) = None
value_scheduled a (Write n v) = None
value_scheduled a Stop = None
value_scheduled a End = None

-- the value that a row gives action a, of this minimum delay, at tag g
abbrev pub scheduled : Tag → ℕ → ℕ → Row → Option Value
scheduled g a min row = option_and_then (λ x. cond (same_tag g (after row.tag (min + x.0))) (Some x.1) None) (value_scheduled a row.step)

-- the value that an external event gives action a at tag g
abbrev pub given : Tag → ℕ → Event → Option Value
given g a event = cond (same_tag g event.tag && (a == event.action)) (Some event.value) None

abbrev pub min_delay : Parts → ℕ → ℕ
min_delay program a = unwrap_or (option_map (λ x. x.min_delay) (slice_get program.actions a)) 0

-- the values of the events of action a at g, one for each schedule row and each external event that gives it one
abbrev pub events_of : PlanParts → List Row → Tag → ℕ → List Value
events_of plan t g a = filter_map (scheduled g a (min_delay plan.program a)) t ++ filter_map (given g a) plan.externals.events

-- the port or action has an event with the value v at g
abbrev pub At : PlanParts → List Row → Tag → Name → Value → Type 0
At plan t g (Port p) v = (h : Tag) × IsWrittenFrom plan t g p h v
At plan t g (Action a) v = Contains (events_of plan t g a) v

-- the port or action has an event at g
abbrev pub IsPresent : PlanParts → List Row → Tag → Name → Type 0
IsPresent plan t g n = (v : Value) × At plan t g n v

-- the stop tag that a step at g asks for: one microstep after g
abbrev pub asked : Tag → Step → Option Tag
asked g Stop = Some (after g 0)
asked g Start = None
asked g (Read n v) = None
asked g (Write n v) = None
asked g (Schedule n v d) = None
asked g End = None

-- the stop tags that the stop rows of t ask for
abbrev pub requests : List Row → List Tag
requests t = filter_map (λ row. asked row.tag row.step) t

-- the stop tag: the external one, or the least that a stop row asks for where that is lesser
abbrev pub stop : PlanParts → List Row → Tag
stop plan t = earliest plan.externals.stop (requests t)

-- the timer fires at offset + k * period, for k = 0 alone where the period is 0
abbrev pub Fires : TimerOf → Tag → Type 0
Fires timer g = (k : ℕ) × (g ≡ record { time = timer.offset + k * timer.period; micro = 0 }) × (timer.period ≡ 0 → k ≡ 0)

-- the trigger is present at g, where the stop tag is last
abbrev pub OccursUntil : Tag → PlanParts → List Row → Tag → Trigger → Type 0
OccursUntil last plan t g Startup = g ≡ record { time = 0; micro = 0 }
OccursUntil last plan t g Shutdown = g ≡ last
OccursUntil last plan t g (Timer n) = (timer : TimerOf) × (slice_get plan.program.timers n ≡ Some timer) × Fires timer g
OccursUntil last plan t g (On n) = IsPresent plan t g n

-- the trigger is present at g
abbrev pub Occurs : PlanParts → List Row → Tag → Trigger → Type 0
Occurs plan t g x = OccursUntil (stop plan t) plan t g x

-- some trigger of reaction r is present at g, where the stop tag is last
pub record TriggeredUntil (last : Tag) (plan : PlanParts) (t : List Row) (g : Tag) (r : ℕ) : Type 0 where
  pub reaction : Reaction
  pub trigger : Trigger
  pub is_reaction : slice_get plan.program.reactions r ≡ Some reaction
  pub is_trigger : Contains reaction.triggers trigger
  pub occurs : OccursUntil last plan t g trigger

-- some trigger of reaction r is present at g
abbrev pub Triggered : PlanParts → List Row → Tag → ℕ → Type 0
Triggered plan t g r = TriggeredUntil (stop plan t) plan t g r

-- what may be read of a name at g: its value, or that it is absent
abbrev pub Shows : PlanParts → List Row → Tag → Name → Option Value → Type 0
Shows plan t g n None = ¬ IsPresent plan t g n
Shows plan t g n (Some v) = At plan t g n v

-- what reaction r is to read at g: of each of its inputs in order the value, or that it is absent
pub record Inputs (plan : PlanParts) (t : List Row) (g : Tag) (r : ℕ) (reads : List (Option Value)) : Type 0 where
  pub reaction : Reaction
  pub is_reaction : slice_get plan.program.reactions r ≡ Some reaction
  pub each : AllZip (Shows plan t g) (inputs reaction) reads

-- two events of one port at one tag: its origin was written at two tags from which the delays lead to g
pub record PortClash (plan : PlanParts) (t : List Row) (g : Tag) (p : ℕ) : Type 0 where
  pub first : Tag
  pub second : Tag
  pub first_value : Value
  pub second_value : Value
  pub is_first : IsWrittenFrom plan t g p first first_value
  pub is_second : IsWrittenFrom plan t g p second second_value
  pub differ : first ≢ second

-- two causes give one port or action an event at g
abbrev pub ClashesAt : PlanParts → List Row → Tag → Name → Type 0
ClashesAt plan t g (Port p) = PortClash plan t g p
ClashesAt plan t g (Action a) = 2 ≤ length (events_of plan t g a)

-- some port or action has two causes at g
abbrev pub Collision : PlanParts → List Row → Tag → Type 0
Collision plan t g = (n : Name) × ClashesAt plan t g n
