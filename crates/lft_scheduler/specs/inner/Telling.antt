-- Reactions are told that they are triggered.
use Rattle.std.specs.Prelude.{◌≡◌, ◌≢◌, ◌⊎◌, ℕ, ◌<◌, List, Some, IsSome, slice_get, length}
use Rattle.lft_tag.specs.{declared.Tag.Tag, Shifts.shifted}
use Rattle.lft_ir.specs.Parts.{Parts}
use Rattle.lft_ir.specs.declared.parts.{Port.Port as PortOf, Timer.Timer as TimerOf, Name.TheVariants.{Port, Action}}
use Rattle.lft_ir.specs.declared.parts.Trigger.{Trigger, TheVariants.{Startup, Shutdown, Timer, On}}
use Rattle.lft_ir.specs.declared.steps.row.Step.{Step, TheVariants.{Start, Read, Write, Schedule, Stop, End}}
use Rattle.lft_queue.specs.Pending.{Pending, value_of}
use Rattle.lft_model.specs.Presence.{Fires}
use Rattle.lft_scheduler.specs.{inner.{Listeners.IsListener, Turns.TurnParts}, declared.turn.phase.Phase.{Phase, TheVariants.{Idle, Waiting}}}

-- the idle reactions with a property wait now, and all else is as it was
pub record IsTold (P : ℕ → Type 0) (old new : TurnParts) : Type 0 where
  pub graph : new.graph ≡ old.graph
  pub count : length new.phases ≡ length old.phases
  pub kept : (r : ℕ) (x : Phase) → x ≢ Idle → slice_get old.phases r ≡ Some x → slice_get new.phases r ≡ Some x
  pub all : (r : ℕ) → P r → slice_get new.phases r ≢ Some Idle
  pub only : (r : ℕ) (x : Phase) → slice_get old.phases r ≡ Some Idle → slice_get new.phases r ≡ Some x → (x ≡ Idle) ⊎ ((x ≡ Waiting) × P r)

-- the timer with this number fires at g
abbrev pub FiresAt : Parts → Tag → ℕ → Type 0
FiresAt program g n = (timer : TimerOf) × (slice_get program.timers n ≡ Some timer) × Fires timer g

-- the trigger is present at g, by the events in the queue, where the stop tag is last
abbrev pub OccursBy : Parts → List Pending → Tag → Tag → Trigger → Type 0
OccursBy program q last g Startup = g ≡ record { time = 0; micro = 0 }
OccursBy program q last g Shutdown = g ≡ last
OccursBy program q last g (Timer n) = FiresAt program g n
OccursBy program q last g (On n) = IsSome (value_of g n q)

-- a trigger of the reaction is present at g, by the same
abbrev pub TriggeredByQueue : Parts → List Pending → Tag → Tag → ℕ → Type 0
TriggeredByQueue program q last g r = (x : Trigger) × OccursBy program q last g x × IsListener program x r

-- the step writes the origin of port p, and what is written at g arrives there at g itself
abbrev pub ArrivesAtOnce : Parts → Tag → Step → ℕ → Type 0
ArrivesAtOnce program g (Write (Port origin) v) p = (port : PortOf) × (slice_get program.ports p ≡ Some port) × (port.origin ≡ origin) × (shifted g (port.shift.time, port.shift.steps) ≡ g)
ArrivesAtOnce program g (Write (Action a) v) p = ⊥
ArrivesAtOnce program g Start p = ⊥
ArrivesAtOnce program g (Read n v) p = ⊥
ArrivesAtOnce program g (Schedule n v d) p = ⊥
ArrivesAtOnce program g Stop p = ⊥
ArrivesAtOnce program g End p = ⊥

-- a trigger of the reaction is a port at which what one of the steps writes at g arrives at once
abbrev pub TriggeredByWrites : Parts → Tag → List Step → ℕ → Type 0
TriggeredByWrites program g steps r = (k : ℕ) × (s : Step) × (p : ℕ) × (slice_get steps k ≡ Some s) × ArrivesAtOnce program g s p × IsListener program (On (Port p)) r

-- it holds of one of the first n items of a list
abbrev pub OfFirst : {X : Type 0} → (X → ℕ → Type 0) → List X → ℕ → ℕ → Type 0
OfFirst {X} P xs n r = (k : ℕ) × (x : X) × (k < n) × (slice_get xs k ≡ Some x) × P x r
