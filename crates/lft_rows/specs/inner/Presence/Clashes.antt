-- Inside: what collides: pairs of causes of a name, and the tags to which they lead.
use Rattle.std.specs.Prelude.{◌≡◌, ◌≢◌, ℕ, ◌<◌, ◌⊎◌, Bool, true, false, List, length, Option, Some, MatchOption, slice_get}
use Rattle.lft_tag.specs.{declared.Tag.Tag, Tags.UpTo}
use Rattle.lft_ir.specs.declared.steps.row.Row.{Row}
use Rattle.lft_model.specs.{Plans.PlanParts, Presence.{PortClash, events_of}}
use Rattle.lft_rows.specs.{declared.presence.causes.EventCause.EventCause, inner.Presence.Causes.tag_of}

-- the cause is one of these
abbrev pub Among : List EventCause → EventCause → Type 0
Among causes c = (k : ℕ) × (slice_get causes k ≡ Some c)

-- two causes of a name that lead to one tag: of a port at two tags of one time, of an action at two places of one tag
abbrev pub IsPair : Bool → ℕ → EventCause → EventCause → Type 0
IsPair true name x y = (x.name ≡ name) × (y.name ≡ name) × (x.time ≡ y.time) × (x.micro ≢ y.micro)
IsPair false name x y = (x.name ≡ name) × (y.name ≡ name) × (x.time ≡ y.time) × (x.micro ≡ y.micro) × (x.place ≢ y.place)

-- of the pairs of causes of a name the one that comes first, told by its later cause, if there is a pair
abbrev pub IsFirstPair : List EventCause → Bool → ℕ → Option EventCause → Type 0
IsFirstPair causes ports name o = MatchOption o ((x y : EventCause) → Among causes x → Among causes y → ¬ IsPair ports name x y) (λ c. ((x : EventCause) × Among causes x × Among causes c × IsPair ports name x c) × ((x y : EventCause) → Among causes x → Among causes y → IsPair ports name x y → UpTo (tag_of c) (tag_of y) ⊎ UpTo (tag_of c) (tag_of x)))

-- for each port of a lesser number the first pair of its causes
pub record AreDoubles (causes : List EventCause) (n : ℕ) (doubles : List (Option EventCause)) : Type 0 where
  pub as_long : length doubles ≡ n
  pub each : (p : ℕ) (o : Option EventCause) → slice_get doubles p ≡ Some o → IsFirstPair causes true p o

-- two events of one action at one tag
abbrev pub HasTwo : PlanParts → List Row → Tag → ℕ → Type 0
HasTwo plan t g a = 1 < length (events_of plan t g a)

-- two causes give a port of a lesser number an event at g
abbrev pub PortsClash : PlanParts → List Row → ℕ → Tag → Type 0
PortsClash plan t n g = (p : ℕ) × (p < n) × PortClash plan t g p

-- two causes give an action of a lesser number an event at g
abbrev pub ActionsClash : PlanParts → List Row → ℕ → Tag → Type 0
ActionsClash plan t n g = (a : ℕ) × (a < n) × HasTwo plan t g a
