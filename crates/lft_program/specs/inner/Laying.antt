-- Parts by number, as they are read from the tables, the nest and the links. The contracts of the crate's own functions alone need this file.
use Rattle.std.specs.Prelude.{◌≡◌, ℕ, ◌≤◌, Bool, List, [], Option, Some, slice_get, unwrap_or, option_map, option_and_then}
use Rattle.std.specs.List.{AllZip}
use Rattle.lft_resolve.specs.inner.Expansion.{Joins.{port_at, port_of}, Values.clock_in}
use Rattle.lft_resolve.specs.declared.expansion.{numbering.Thing.Thing, settings.Clock.Clock}
use Rattle.lft_resolve.specs.declared.by_number.sheets.{ActionSheet.ActionSheet, Cue.Cue, Cues.Cues, Declarations.Declarations, NamedThing.NamedThing}
use Rattle.lft_resolve.specs.declared.by_number.sheets.TimerSheet.{TimerSheet}
use Rattle.lft_program.specs.declared.nesting.{linking.Linked.Linked, nest.Nest.Nest, tables.Tables.Tables}
use Rattle.lft_ir.specs.declared.parts.{Action.Action as ActionOf, Name.{Name, TheVariants.{Port, Action}}, Port.Port as PortOf, Reaction.Reaction}
use Rattle.lft_ir.specs.declared.parts.{Timer.Timer as TimerOf, Trigger.{Trigger, TheVariants.{Startup, Shutdown, Timer, On}}}
use Rattle.lft_resolve.specs.declared.by_number.sheets.Cue.TheVariants as cues
use Rattle.lft_resolve.specs.declared.by_number.sheets.NamedThing.TheVariants as spots

-- ---- what each instance declares

-- what the reactor of instance n declares
abbrev pub declarations_at : Tables → Nest → ℕ → Option Declarations
declarations_at tables nest n = option_and_then (λ i. slice_get tables.declarations.items i.reactor) (slice_get nest.instances.items n)

-- whether a port is an input
abbrev pub input_at : Tables → Nest → Thing → Option Bool
input_at tables nest thing = option_and_then (λ d. slice_get d.inputs.items thing.place) (declarations_at tables nest thing.instance)

-- the sheet of a timer
abbrev pub timer_at : Tables → Nest → Thing → Option TimerSheet
timer_at tables nest thing = option_and_then (λ d. slice_get d.timers.items thing.place) (declarations_at tables nest thing.instance)

-- the sheet of an action
abbrev pub action_at : Tables → Nest → Thing → Option ActionSheet
action_at tables nest thing = option_and_then (λ d. slice_get d.actions.items thing.place) (declarations_at tables nest thing.instance)

-- what the names of a reaction stand for
abbrev pub cues_at : Tables → Nest → Thing → Option Cues
cues_at tables nest thing = option_and_then (λ x. slice_get x.reactions.items thing.place) (option_and_then (λ i. slice_get tables.reactions.items i.reactor) (slice_get nest.instances.items thing.instance))

-- ---- times, ports and names by number

-- what a clock is in instance n
abbrev pub clock_at : Nest → ℕ → Clock → ℕ
clock_at nest n clock = clock_in (unwrap_or (slice_get nest.values n) []) clock

-- the port or action that a spot is in instance n
abbrev pub name_at : Nest → ℕ → NamedThing → Option Name
name_at nest n (spots.Port end) = option_map Port (port_of nest.ports.firsts.items nest.children n end)
name_at nest n (spots.Action place) = option_map Action (port_at nest.actions.firsts.items n place)

-- what a cue is in instance n
abbrev pub trigger_at : Nest → ℕ → Cue → Option Trigger
trigger_at nest n cues.Startup = Some Startup
trigger_at nest n cues.Shutdown = Some Shutdown
trigger_at nest n (cues.Timer place) = option_map Timer (port_at nest.timers.firsts.items n place)
trigger_at nest n (cues.On spot) = option_map On (name_at nest n spot)

-- a number that is there, within the limits
abbrev pub IsFew : Option ℕ → Type 0
IsFew number = (n : ℕ) × (number ≡ Some n) × (n ≤ 100000)

-- the spot is something in instance n
abbrev pub HasNamedThing : Nest → ℕ → NamedThing → Type 0
HasNamedThing nest n (spots.Port end) = IsFew (port_of nest.ports.firsts.items nest.children n end)
HasNamedThing nest n (spots.Action place) = IsFew (port_at nest.actions.firsts.items n place)

-- the cue is something in instance n
abbrev pub HasCue : Nest → ℕ → Cue → Type 0
HasCue nest n cues.Startup = Unit {0}
HasCue nest n cues.Shutdown = Unit {0}
HasCue nest n (cues.Timer place) = IsFew (port_at nest.timers.firsts.items n place)
HasCue nest n (cues.On spot) = HasNamedThing nest n spot

-- each of these is so
abbrev pub Each : {X : Type 0} → (X → Type 0) → List X → Type 0
Each {X} P xs = (k : ℕ) (x : X) → slice_get xs k ≡ Some x → P x

-- all names of a reaction are something in instance n
pub record HasCues (nest : Nest) (n : ℕ) (c : Cues) : Type 0 where
  pub triggers : Each (HasCue nest n) c.triggers.items
  pub uses : Each (HasNamedThing nest n) c.uses.items
  pub effects : Each (HasNamedThing nest n) c.effects.items

-- the names, in order, that the spots are in instance n
abbrev pub AreNames : Nest → ℕ → List NamedThing → List Name → Type 0
AreNames nest n spots names = AllZip (λ s x. name_at nest n s ≡ Some x) spots names

-- the triggers, in order, that the cues are in instance n
abbrev pub AreTriggersOfCues : Nest → ℕ → List Cue → List Trigger → Type 0
AreTriggersOfCues nest n cues triggers = AllZip (λ c t. trigger_at nest n c ≡ Some t) cues triggers

-- ---- parts

-- the port is the one of its instance and place, reached by its link
pub record IsPortAt (tables : Tables) (nest : Nest) (link : Linked) (thing : Thing) (port : PortOf) : Type 0 where
  pub instance : port.instance ≡ thing.instance
  pub direction : input_at tables nest thing ≡ Some port.is_input
  pub source : port.source ≡ link.source
  pub origin : port.origin ≡ link.origin
  pub shift : port.shift ≡ link.shift

-- the timer is the one of its sheet, with the times of its instance
pub record IsTimerAt (tables : Tables) (nest : Nest) (thing : Thing) (timer : TimerOf) : Type 0 where
  pub sheet : TimerSheet
  pub is_sheet : timer_at tables nest thing ≡ Some sheet
  pub instance : timer.instance ≡ thing.instance
  pub offset : timer.offset ≡ clock_at nest thing.instance sheet.offset
  pub period : timer.period ≡ clock_at nest thing.instance sheet.period

-- the action is the one of its sheet, with the delay of its instance
pub record IsActionAt (tables : Tables) (nest : Nest) (thing : Thing) (action : ActionOf) : Type 0 where
  pub sheet : ActionSheet
  pub is_sheet : action_at tables nest thing ≡ Some sheet
  pub instance : action.instance ≡ thing.instance
  pub physical : action.physical ≡ sheet.is_physical
  pub min_delay : action.min_delay ≡ clock_at nest thing.instance sheet.min_delay

-- the reaction is the one of its cues, with what they are in its instance
pub record IsReactionAt (tables : Tables) (nest : Nest) (thing : Thing) (reaction : Reaction) : Type 0 where
  pub cues : Cues
  pub is_cues : cues_at tables nest thing ≡ Some cues
  pub instance : reaction.instance ≡ thing.instance
  pub place : reaction.place ≡ thing.place
  pub triggers : AreTriggersOfCues nest thing.instance cues.triggers.items reaction.triggers
  pub uses : AreNames nest thing.instance cues.uses.items reaction.uses
  pub effects : AreNames nest thing.instance cues.effects.items reaction.effects
