-- What holds of the parts of every program.
use Rattle.std.specs.Prelude.{◌≡◌, ℕ, ◌+◌, ◌<◌, ◌≤◌, List, slice_get, length, Some, Contains, AllPairs, ◌≢◌}
use Rattle.lft_ir.specs.{Parts.{Parts, inputs}, Names.{AreDistinct, AreWords}, Origins.Origin}
use Rattle.lft_ir.specs.declared.parts.{Port.Port as PortOf, Action.Action as ActionOf, Timer.Timer as TimerOf, Reaction.Reaction}
use Rattle.lft_ir.specs.declared.parts.{Name.{Name, TheVariants.{Port, Action}}, Trigger.{Trigger, TheVariants.{Startup, Shutdown, Timer, On}}}
use Rattle.lft_tag.specs.Shifts.{join_all, none}

-- the origin and the shift kept with a port are those of its chain of connections
abbrev pub KeepsOrigins : Parts → Type 0
KeepsOrigins program = (p : ℕ) (port : PortOf) → slice_get program.ports p ≡ Some port → (delays : List ℕ) × Origin program p port.origin delays × (join_all none delays ≡ (port.shift.time, port.shift.steps))

-- the reactions that write one port belong to one instance
abbrev pub HasOneWriter : Parts → Type 0
HasOneWriter program = (a b : ℕ) (x y : Reaction) (p : ℕ) → slice_get program.reactions a ≡ Some x → slice_get program.reactions b ≡ Some y → Contains x.effects (Port p) → Contains y.effects (Port p) → x.instance ≡ y.instance

-- reactions of one instance are numbered in the order of their declaration
abbrev pub IsNumbered : Parts → Type 0
IsNumbered program = (a b : ℕ) (x y : Reaction) → slice_get program.reactions a ≡ Some x → slice_get program.reactions b ≡ Some y → x.instance ≡ y.instance → a < b → x.place < y.place

-- a reaction that isn't the first of its instance stands right after the one declared just before it
abbrev pub IsConsecutive : Parts → Type 0
IsConsecutive program = (a : ℕ) (x : Reaction) → slice_get program.reactions a ≡ Some x → 0 < x.place → (b : ℕ) × (y : Reaction) × (slice_get program.reactions b ≡ Some y) × (b + 1 ≡ a) × (y.instance ≡ x.instance) × (y.place + 1 ≡ x.place)

-- no input and no effect stands twice in its reaction
abbrev pub HasDistinct : Parts → Type 0
HasDistinct program = (a : ℕ) (x : Reaction) → slice_get program.reactions a ≡ Some x → AllPairs (λ m n. m ≢ n) (inputs x) × AllPairs (λ m n. m ≢ n) x.effects

-- a port or action of the program
abbrev pub IsNameOf : Parts → Name → Type 0
IsNameOf program (Port p) = p < length program.ports
IsNameOf program (Action a) = a < length program.actions

-- a trigger that names a timer, port or action of the program, or none
abbrev pub IsTriggerOf : Parts → Trigger → Type 0
IsTriggerOf program Startup = Unit {0}
IsTriggerOf program Shutdown = Unit {0}
IsTriggerOf program (Timer t) = t < length program.timers
IsTriggerOf program (On n) = IsNameOf program n

-- what a reaction names is part of the program
pub record NamesParts (program : Parts) (x : Reaction) : Type 0 where
  pub triggers : (t : Trigger) → Contains x.triggers t → IsTriggerOf program t
  pub uses : (n : Name) → Contains x.uses n → IsNameOf program n
  pub effects : (n : Name) → Contains x.effects n → IsNameOf program n

-- the limits on what a program has
pub record IsWithinLimits (program : Parts) : Type 0 where
  pub instances : length program.names.instances ≤ 10000
  pub reactions : length program.reactions ≤ 10000
  pub ports : length program.ports ≤ 100000
  pub actions : length program.actions ≤ 100000
  pub timers : length program.timers ≤ 100000

-- no minimum delay, offset or period is past 10^18 nanoseconds
pub record HasTimes (program : Parts) : Type 0 where
  pub min_delays : (a : ℕ) (action : ActionOf) → slice_get program.actions a ≡ Some action → action.min_delay ≤ 1000000000000000000
  pub offsets : (t : ℕ) (timer : TimerOf) → slice_get program.timers t ≡ Some timer → timer.offset ≤ 1000000000000000000
  pub periods : (t : ℕ) (timer : TimerOf) → slice_get program.timers t ≡ Some timer → timer.period ≤ 1000000000000000000

-- each thing has a name of letters, digits, `_`, dots and `#`, and no two things have the same
pub record IsWellNamed (program : Parts) : Type 0 where
  pub ports : length program.names.ports ≡ length program.ports
  pub actions : length program.names.actions ≡ length program.actions
  pub timers : length program.names.timers ≡ length program.timers
  pub reactions : length program.names.reactions ≡ length program.reactions
  pub distinct : AreDistinct program.names
  pub words : AreWords program.names

-- a sound program
pub record IsSound (program : Parts) : Type 0 where
  pub origins : KeepsOrigins program
  pub one_writer : HasOneWriter program
  pub numbered : IsNumbered program
  pub consecutive : IsConsecutive program
  pub distinct : HasDistinct program
  pub exist : (a : ℕ) (x : Reaction) → slice_get program.reactions a ≡ Some x → NamesParts program x
  pub limits : IsWithinLimits program
  pub times : HasTimes program
  pub well_named : IsWellNamed program
