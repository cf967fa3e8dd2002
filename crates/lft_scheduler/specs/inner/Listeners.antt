-- Who listens to a trigger, and where a write arrives.
use Rattle.std.specs.Prelude.{◌≡◌, ◌≢◌, ◌↔◌, ◌⊎◌, ◌<◌, ◌≤◌, ◌%◌, ℕ, List, Some, Contains, AllPairs, slice_get, length}
use Rattle.lft_tag.specs.{declared.Tag.Tag, Tags.UpTo}
use Rattle.lft_ir.specs.{Parts.Parts, declared.parts.{Port.Port as PortOf, Reaction.Reaction, Timer.Timer as TimerOf, Trigger.{Trigger, TheVariants.Timer}}}
use Rattle.lft_queue.specs.inner.{Reading.ReadsPort, Coming.NumberLists.list_at}
use Rattle.lft_scheduler.specs.inner.Lists.{TriggerLists, list_of_trigger}

-- the trigger triggers reaction r
abbrev pub IsListener : Parts → Trigger → ℕ → Type 0
IsListener program trigger r = (x : Reaction) × (slice_get program.reactions r ≡ Some x) × Contains x.triggers trigger

-- the beat of a timer: its period, and how far its offset goes past whole periods. Of two timers with one beat, the one that starts first fires whenever the other does
abbrev pub beat : TimerOf → ℕ × ℕ
beat timer = (timer.period, timer.offset % timer.period)

-- of the timers with its beat among the triggers, timer n starts first; of those that start as soon, it has the least number
pub record IsLeader (program : Parts) (triggers : List Trigger) (n : ℕ) : Type 0 where
  pub timer : TimerOf
  pub is_timer : slice_get program.timers n ≡ Some timer
  pub there : Contains triggers (Timer n)
  pub first : (m : ℕ) (other : TimerOf) → Contains triggers (Timer m) → slice_get program.timers m ≡ Some other → beat other ≡ beat timer → (timer.offset < other.offset) ⊎ ((timer.offset ≡ other.offset) × (n ≤ m))

-- timer n leads among the triggers of a reaction
abbrev pub IsLive : Parts → ℕ → Type 0
IsLive program n = (r : ℕ) × (x : Reaction) × (slice_get program.reactions r ≡ Some x) × IsLeader program x.triggers n

-- a write of the origin arrives at port p
abbrev pub IsArrival : Parts → ℕ → ℕ → Type 0
IsArrival program origin p = (port : PortOf) × (slice_get program.ports p ≡ Some port) × (port.origin ≡ origin)

-- where a write of its origin at (0, 0) arrives at the port
abbrev pub arrival : PortOf → Tag
arrival port = record { time = port.shift.time; micro = port.shift.steps }

-- port p has this origin, and a write of it arrives at a later time
pub record IsDelayed (program : Parts) (origin p : ℕ) (port : PortOf) : Type 0 where
  pub is_port : slice_get program.ports p ≡ Some port
  pub has_origin : port.origin ≡ origin
  pub later : 0 < port.shift.time

-- of the delayed ports of the origin below a number, p is the first: a write arrives at none of them sooner, and as soon at none that stands before p
pub record IsFirstDelayed (program : Parts) (below origin p : ℕ) : Type 0 where
  pub port : PortOf
  pub delayed : IsDelayed program origin p port
  pub soonest : (q : ℕ) (other : PortOf) → q < below → IsDelayed program origin q other → UpTo (arrival port) (arrival other)
  pub foremost : (q : ℕ) (other : PortOf) → q < below → IsDelayed program origin q other → arrival other ≡ arrival port → p ≤ q

-- the events of port p are watched: some reaction reads it, or it is an origin, whose events tell where it was written, or the first delayed port of an origin, where two writes of it collide if they do at any port
abbrev pub IsWatched : Parts → ℕ → Type 0
IsWatched program p = ((r : ℕ) × ReadsPort program r p) ⊎ IsArrival program p p ⊎ ((o : ℕ) × IsFirstDelayed program (length program.ports) o p)

-- what is kept of the listeners of a program: a list for each trigger, and the timers that lead
pub record ListenerParts : Type 0 where
  pub by_trigger : TriggerLists
  pub live_timers : List ℕ

-- they are the listeners of the program
pub record AreListeners (program : Parts) (listeners : ListenerParts) : Type 0 where
  pub each : (t : Trigger) (r : ℕ) → Contains (list_of_trigger listeners.by_trigger t) r ↔ IsListener program t r
  pub live : (n : ℕ) → Contains listeners.live_timers n ↔ IsLive program n

-- they are the watched arrivals of the program, by origin
pub record AreArrivals (program : Parts) (arrivals : List (List ℕ)) : Type 0 where
  pub each : (o p : ℕ) → Contains (list_at arrivals o) p ↔ (IsArrival program o p × IsWatched program p)
  pub once : (o : ℕ) → AllPairs (λ p q. p ≢ q) (list_at arrivals o)
