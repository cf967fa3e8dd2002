-- How far lists by trigger and by origin are filled. The contracts of private functions alone need this file.
use Rattle.std.specs.Prelude.{◌≡◌, ◌↔◌, ◌⊎◌, ◌<◌, ℕ, Bool, true, List, Option, Some, None, Contains, AllPairs, length, slice_get}
use Rattle.std.specs.{BTreeMap.{BTreeMap, get}, Ordering.{nat_cmp, ordering_then}, declared.cmp.Ordering.Ordering}
use Rattle.lft_tag.specs.Tags.{Before}
use Rattle.lft_ir.specs.{Parts.Parts, Sound.IsTriggerOf}
use Rattle.lft_ir.specs.declared.parts.{Port.Port as PortOf, Reaction.Reaction, Timer.Timer as TimerOf, Trigger.{Trigger, TheVariants.Timer}}
use Rattle.lft_queue.specs.inner.{Reading.AreReadPortsMarked, Coming.NumberLists.list_at}
use Rattle.lft_scheduler.specs.inner.Listeners.{beat, IsLeader, IsListener, IsArrival, IsWatched, arrival, IsDelayed, IsFirstDelayed}
use Rattle.lft_scheduler.specs.inner.Lists.{TriggerLists, list_of_trigger, HasList}

-- beats by the period, then by the rest
abbrev pub beat_cmp : ℕ × ℕ → ℕ × ℕ → Ordering
beat_cmp x y = ordering_then (nat_cmp x.0 y.0) (nat_cmp x.1 y.1)

-- each trigger of the program has those of its listeners that are below a number
pub record AreListed (program : Parts) (below : ℕ) (lists : TriggerLists) : Type 0 where
  pub room : (t : Trigger) → IsTriggerOf program t → HasList lists t
  pub each : (t : Trigger) (r : ℕ) → Contains (list_of_trigger lists t) r ↔ ((r < below) × IsListener program t r)

-- each port has those of its watched arrivals that are below a number, ascending
pub record AreArriving (program : Parts) (below : ℕ) (lists : List (List ℕ)) : Type 0 where
  pub as_long : length lists ≡ length program.ports
  pub each : (o p : ℕ) → Contains (list_at lists o) p ↔ ((p < below) × IsArrival program o p × IsWatched program p)
  pub ascends : (o : ℕ) → AllPairs (λ p q. p < q) (list_at lists o)

-- the port is delayed, and a write arrives there sooner than at another one, if there is one
abbrev pub ArrivesSooner : Parts → PortOf → Option ℕ → Type 0
ArrivesSooner program port None = 0 < port.shift.time
ArrivesSooner program port (Some n) = (0 < port.shift.time) × ((other : PortOf) → slice_get program.ports n ≡ Some other → Before (arrival port) (arrival other))

-- it is the first delayed port of the origin below a number, or there is none
abbrev pub IsFirstOfOrigin : Parts → ℕ → ℕ → Option ℕ → Type 0
IsFirstOfOrigin program below o None = (q : ℕ) (other : PortOf) → q < below → IsDelayed program o q other → ⊥
IsFirstOfOrigin program below o (Some p) = (p < below) × IsFirstDelayed program below o p

-- each port has the first delayed one of those that it is the origin of, below a number
pub record AreFirstDelayedPorts (program : Parts) (below : ℕ) (firsts : List (Option ℕ)) : Type 0 where
  pub as_long : length firsts ≡ length program.ports
  pub each : (o : ℕ) (first : Option ℕ) → slice_get firsts o ≡ Some first → IsFirstOfOrigin program below o first

-- what is known of the watched ports: whether a reaction reads each, and the first delayed one of each
pub record WatchedParts : Type 0 where
  pub read : List Bool
  pub firsts : List (Option ℕ)

-- they are those of the program
pub record AreWatched (program : Parts) (watched : WatchedParts) : Type 0 where
  pub read : AreReadPortsMarked program (length program.reactions) watched.read
  pub firsts : AreFirstDelayedPorts program (length program.ports) watched.firsts

-- timer n starts before the other one, if there is one, or as soon and has the lesser number
abbrev pub TimerStartsBefore : Parts → ℕ → Option ℕ → Type 0
TimerStartsBefore program n None = Unit {0}
TimerStartsBefore program n (Some m) = (timer other : TimerOf) → slice_get program.timers n ≡ Some timer → slice_get program.timers m ≡ Some other → (timer.offset < other.offset) ⊎ ((timer.offset ≡ other.offset) × (n < m))

-- the map has the leader of each beat of the timers among the triggers
pub record HaveLeaders (program : Parts) (triggers : List Trigger) (map : BTreeMap (ℕ × ℕ) ℕ) : Type 0 where
  pub each : (b : ℕ × ℕ) (n : ℕ) → get beat_cmp map b ≡ Some n → (leader : IsLeader program triggers n) × (beat leader.timer ≡ b)
  pub all : (n : ℕ) (timer : TimerOf) → Contains triggers (Timer n) → slice_get program.timers n ≡ Some timer → (m : ℕ) × (get beat_cmp map (beat timer) ≡ Some m)

-- the timers that lead among the triggers of a reaction below a number are marked, and no others
pub record AreLeading (program : Parts) (below : ℕ) (marked : List Bool) : Type 0 where
  pub as_long : length marked ≡ length program.timers
  pub each : (n : ℕ) → (slice_get marked n ≡ Some true) ↔ ((r : ℕ) × (r < below) × (x : Reaction) × (slice_get program.reactions r ≡ Some x) × IsLeader program x.triggers n)
