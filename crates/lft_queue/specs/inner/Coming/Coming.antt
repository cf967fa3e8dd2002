-- The events to come: those in a queue, and the external ones from a place on.
use Rattle.std.specs.Prelude.{◌≡◌, ℕ, ◌<◌, ◌≤◌, cond, List, [], ◌∷◌, ◌++◌, drop, length, Option, Some, MatchOption, slice_get, filter_map, option_to_list, Contains}
use Rattle.lft_tag.specs.{declared.Tag.Tag, Tags.{Before, UpTo}}
use Rattle.lft_ir.specs.declared.{parts.{Value.Value, Name.{Name, TheVariants.{Port, Action}}}, steps.{externals.Event.Event, row.Row.Row}}
use Rattle.lft_model.specs.{Plans.PlanParts, Presence.given}
use Rattle.lft_queue.specs.{Pending.{Pending, value_of, same_key}, declared.coming.{coming.Coming.Coming, listeners.NameListeners.NameListeners}}
use Rattle.lft_queue.specs.inner.Coming.{AtOnce.IsAwaited, Lanes.{held, made}, Listeners.IsUnheard}

-- the values that the external events from the place on give a name at h
abbrev pub given_from : List Event → ℕ → Tag → Name → List Value
given_from events place h (Port p) = []
given_from events place h (Action a) = filter_map (given h a) (drop place events)

-- the values of a name's events to come at h
abbrev pub to_come : List Event → Coming → Tag → Name → List Value
to_come events coming h n = given_from events coming.next h n ++ option_to_list (value_of h n coming.queue)

-- the value of an event of n at g, seen from a name and a tag
abbrev pub put_at : Tag → Name → Value → Tag → Name → List Value
put_at g n v h m = cond (same_key g n h m) (v ∷ []) []

-- the external events from the place on are after g
abbrev pub AreBrought : List Event → ℕ → Tag → Type 0
AreBrought events place g = (i : ℕ) (x : Event) → place ≤ i → slice_get events i ≡ Some x → Before g x.tag

-- there are external events from one place up to another, and they are up to g
abbrev pub AreTaken : List Event → ℕ → ℕ → Tag → Type 0
AreTaken events from to g = (i : ℕ) → from ≤ i → i < to → (x : Event) × (slice_get events i ≡ Some x) × UpTo x.tag g

-- h is before the tag at which two events are known to meet, if there is one
abbrev pub IsClear : Option Tag → Tag → Type 0
IsClear clash h = MatchOption clash (Unit {0}) (λ c. Before h c)

-- what is clear of the new tag is clear of the old one
abbrev pub IsNoLater : Option Tag → Option Tag → Type 0
IsNoLater old new = (h : Tag) → IsClear new h → IsClear old h

-- the events before g are gone, and were of names that trigger nothing; all others are as they were
pub record ArePassed (listeners : NameListeners) (g : Tag) (old new : List Pending) : Type 0 where
  pub unheard : (h : Tag) (n : Name) (v : Value) → Before h g → value_of h n old ≡ Some v → IsUnheard listeners n
  pub same : (h : Tag) (n : Name) → UpTo g h → value_of h n new ≡ value_of h n old

-- no two events are known to meet up to g; the events before g were of names that trigger nothing, each alone at its tag; from g on all is as it was, and the external events after g alone are outside the queue: those that went into it are up to g
pub record IsReached (events : List Event) (listeners : NameListeners) (g : Tag) (old new : Coming) : Type 0 where
  pub unheard : (h : Tag) (n : Name) (v : Value) → Before h g → Contains (to_come events old h n) v → IsUnheard listeners n
  pub alone : (h : Tag) (n : Name) → Before h g → length (to_come events old h n) < 2
  pub same : (h : Tag) (n : Name) → UpTo g h → to_come events new h n ≡ to_come events old h n
  pub brought : AreBrought events new.next g
  pub taken : AreTaken events old.next new.next g
  pub clear : IsClear old.clash g
  pub clash : new.clash ≡ old.clash

-- no two events are known to meet up to g, and the events up to there are of names that trigger nothing, each alone at its tag
pub record AreOver (events : List Event) (listeners : NameListeners) (g : Tag) (coming : Coming) : Type 0 where
  pub unheard : (h : Tag) (n : Name) (v : Value) → UpTo h g → Contains (to_come events coming h n) v → IsUnheard listeners n
  pub alone : (h : Tag) (n : Name) → UpTo h g → length (to_come events coming h n) < 2
  pub clear : IsClear coming.clash g

-- the lanes of names that somebody waits for have from a tag on, up to a last one and before two events are known to meet, what is to come
abbrev pub AreComing : PlanParts → Tag → Tag → (Name → List (Tag × Value)) → Coming → Type 0
AreComing plan low last lanes coming = (n : Name) (h : Tag) → IsAwaited plan.program n → UpTo low h → UpTo h last → IsClear coming.clash h → held (lanes n) h ≡ to_come plan.externals.events coming h n

-- the events that the rows u give a name that has its events in the queue
abbrev pub scheduled_by : PlanParts → List Row → Name → List (Tag × Value)
scheduled_by plan u (Port p) = []
scheduled_by plan u (Action a) = made plan u a
