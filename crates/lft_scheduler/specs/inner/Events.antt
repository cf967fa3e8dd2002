-- The events that rows make from a tag on, as a queue of them.
use Rattle.std.specs.Prelude.{◌≡◌, ◌↔◌, ◌⊎◌, ℕ, Bool, cond, nat_eq, List, [], ◌∷◌, ◌++◌, Option, Some, None, IsSome, IsTrue, slice_get}
use Rattle.std.specs.List.{list_any}
use Rattle.lft_tag.specs.{declared.Tag.Tag, Tags.{Before, UpTo}}
use Rattle.lft_ir.specs.{Parts.Parts, declared.{parts.{Port.Port as PortOf, Value.Value, Name.{Name, TheVariants.{Port, Action}}}, steps.row.Row.Row}}
use Rattle.lft_scheduler.specs.inner.Listeners.{IsWatched}
use Rattle.lft_queue.specs.Pending.{Pending, value_of, Becomes}
use Rattle.lft_model.specs.{Plans.PlanParts, Presence.{At, ClashesAt, Last}}

-- h is earlier than the tag that was found, if one was
abbrev pub IsEarlier : Option Tag → Tag → Type 0
IsEarlier None h = Unit {0}
IsEarlier (Some c) h = Before h c

-- the events of the name are watched, as those of each action are
abbrev pub IsWatchedName : Parts → Name → Type 0
IsWatchedName program (Port p) = IsWatched program p
IsWatchedName program (Action a) = Unit {0}

-- the queue has the watched events that the rows make from a tag on up to another, and two causes give one port or action an event at the tag that was found and at no earlier tag; each port and action has rows of its own
pub record HasEventsOf (plan : PlanParts) (seen : Name → List Row) (from last : Tag) (clash : Option Tag) (q : List Pending) : Type 0 where
  pub values : (h : Tag) (n : Name) (v : Value) → IsWatchedName plan.program n → UpTo from h → UpTo h last → IsEarlier clash h → (value_of h n q ≡ Some v) ↔ At plan (seen n) h n v
  pub clean : (h : Tag) (n : Name) → UpTo h last → IsEarlier clash h → ¬ ClashesAt plan (seen n) h n
  pub found : (c : Tag) → clash ≡ Some c → Before from c × UpTo c last × ((n : Name) × ClashesAt plan (seen n) c n)

-- the queue has, from a tag on up to a last one, for each action and watched port the value of its event by the rows; a tag that was found is the least at which events collide, watched or not, and the queue is right up to there
abbrev pub HasEvents : PlanParts → List Row → Tag → Tag → Option Tag → List Pending → Type 0
HasEvents plan t from last clash q = HasEventsOf plan (λ n. t) from last clash q

-- the rows of some ports are some rows, those of another port and of an action others
abbrev pub seen_by : List ℕ → List Row → List Row → Name → List Row
seen_by ports new old (Port p) = cond (list_any (nat_eq p) ports) new old
seen_by ports new old (Action a) = old

-- the tag is up to the last one and earlier than the one that was found
abbrev pub IsWanted : Tag → Option Tag → Tag → Type 0
IsWanted last clash h = UpTo h last × IsEarlier clash h

-- an event is put in where it is wanted and there was none; where there was one, its tag is the one that is found
abbrev pub IsEventPut : Tag → Option Tag → Tag → Name → Value → List Pending → List Pending → Option Tag → Type 0
IsEventPut last clash h n v old new found =
    (¬ IsWanted last clash h) × (new ≡ old) × (found ≡ clash)
    ⊎ IsWanted last clash h × (value_of h n old ≡ None) × Becomes old new h n (Some v) × (found ≡ clash)
    ⊎ IsWanted last clash h × IsSome (value_of h n old) × (new ≡ old) × (found ≡ Some h)

-- some ports have heard of a row more
abbrev pub IsFedTo : PlanParts → List Row → Row → Tag → List ℕ → Option Tag → List Pending → Type 0
IsFedTo plan t x last ports clash q = HasEventsOf plan (seen_by ports (t ++ x ∷ []) t) x.tag last clash q

-- the origin was written at g
abbrev pub WasWritten : List Row → Tag → ℕ → Type 0
WasWritten t g o = (v : Value) × Last t g o v

-- whether it was is known, where a port has that origin
abbrev pub KnowsAgain : PlanParts → List Row → Tag → ℕ → Bool → Type 0
KnowsAgain plan t g o again = (p : ℕ) (port : PortOf) → slice_get plan.program.ports p ≡ Some port → port.origin ≡ o → IsTrue again ↔ WasWritten t g o
