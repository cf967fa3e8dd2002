-- The events of a port or an action that are still to be met: a lane of tags and values.
use Rattle.std.specs.Prelude.{◌≡◌, ℕ, ◌+◌, ◌<◌, ◌≤◌, ◌==◌, cond, List, [], length, Option, Some, None, Contains, filter_map, option_map, option_to_list}
use Rattle.std.specs.List.{last_or}
use Rattle.lft_tag.specs.{declared.Tag.Tag, Tags.{Before, UpTo, same_tag, after, after_all}}
use Rattle.lft_ir.specs.declared.parts.{Value.Value, Name.{Name, TheVariants.{Port, Action}}, Trigger.TheVariants.On}
use Rattle.lft_ir.specs.declared.steps.{row.Row.Row, externals.Event.Event}
use Rattle.lft_model.specs.{Plans.PlanParts, Presence.{value_scheduled, min_delay, written, At, ClashesAt}, Runs.Ran}
use Rattle.lft_queue.specs.inner.Coming.Listens.{Listens}

-- the value of an event at h
abbrev pub at_tag : Tag → Tag × Value → Option Value
at_tag h x = cond (same_tag h x.0) (Some x.1) None

-- the values that some events have at h
abbrev pub held : List (Tag × Value) → Tag → List Value
held queue h = filter_map (at_tag h) queue

-- the event of action a, of this minimum delay, that a row makes
abbrev pub coming : ℕ → ℕ → Row → Option (Tag × Value)
coming a min row = option_map (λ x. (after row.tag (min + x.0), x.1)) (value_scheduled a row.step)

-- the event of action a that an external input is
abbrev pub event_given_to : ℕ → Event → Option (Tag × Value)
event_given_to a event = cond (a == event.action) (Some (event.tag, event.value)) None

-- the events before the first row: the external inputs of an action
abbrev pub first_events : PlanParts → Name → List (Tag × Value)
first_events plan (Port p) = []
first_events plan (Action a) = filter_map (event_given_to a) plan.externals.events

-- the events that the rows u make of action a
abbrev pub made : PlanParts → List Row → ℕ → List (Tag × Value)
made plan u a = filter_map (coming a (min_delay plan.program a)) u

-- the event that the rows u at g make of a port to which these delays lead from origin o: one, of the last write
abbrev pub carried : List Row → Tag → ℕ → List ℕ → List (Tag × Value)
carried u g o delays = option_to_list (option_map (λ v. (after_all g delays, v)) (last_or None (filter_map (written g o) u)))

-- h is done with: where the name is present there, each reaction that it triggers has a run, and no two causes of it meet
pub record IsTagDone (plan : PlanParts) (t : List Row) (n : Name) (h : Tag) : Type 0 where
  pub met : (v : Value) → At plan t h n v → (r : ℕ) → Listens plan r (On n) → Ran t h r
  pub apart : ¬ ClashesAt plan t h n

-- the queue has what the rows so far and the external inputs give the name at h
pub record IsKept (plan : PlanParts) (t : List Row) (n : Name) (h : Tag) (queue : List (Tag × Value)) : Type 0 where
  pub there : (v : Value) → At plan t h n v → Contains (held queue h) v
  pub back : (v : Value) → Contains (held queue h) v → At plan t h n v
  pub clash : ClashesAt plan t h n → 2 ≤ length (held queue h)

-- the lane of a name: all tags before one are done with, and the queue has the events from there on
pub record IsLane (plan : PlanParts) (t : List Row) (n : Name) (low : Tag) (queue : List (Tag × Value)) : Type 0 where
  pub past : (h : Tag) → Before h low → IsTagDone plan t n h
  pub ahead : (h : Tag) → UpTo low h → IsKept plan t n h queue

-- what a queue has of a name at h is met: it is one event at most, and if there is one, each reaction that the name triggers has a run
pub record IsMetAt (plan : PlanParts) (t : List Row) (n : Name) (h : Tag) (queue : List (Tag × Value)) : Type 0 where
  pub alone : length (held queue h) < 2
  pub met : (v : Value) → Contains (held queue h) v → (r : ℕ) → Listens plan r (On n) → Ran t h r

-- a lane goes on to a later tag: what it had before that is met, and from there on it has what it had
pub record LaneGoesOn (plan : PlanParts) (t : List Row) (n : Name) (low : Tag) (queue : List (Tag × Value)) (high : Tag) (rest : List (Tag × Value)) : Type 0 where
  pub up : UpTo low high
  pub met : (h : Tag) → UpTo low h → Before h high → IsMetAt plan t n h queue
  pub same : (h : Tag) → UpTo high h → held rest h ≡ held queue h
