-- Inside: what each reactor of a file declares, with a place for each name and a number for each time.
use Rattle.std.specs.Prelude.{◌≡◌, ℕ, ◌+◌, List, Option, Some, None, map, flat_map, slice_get, nat_lt, if◌then◌else◌}
use Rattle.std.specs.List.{AllZip, zip}
use Rattle.lft_tree.specs.Tree.{ReactorTree, ActionTree, TimerTree, ReactionTree, ConnectionTree, InstanceTree, AssignmentTree, TimeTree, Written, Named, RefTree, TriggerTree, AtStartup, AtShutdown, OnRef, nanoseconds, instances_of, connections_of, ports_of, actions_of, timers_of, reactions_of}
use Rattle.lft_resolve.specs.declared.expansion.settings.{Clock.{Clock, TheVariants.{Fixed, Parameter}}, Given.Given, Parameters.Parameters}
use Rattle.lft_resolve.specs.declared.expansion.joins.{End.{End, TheVariants.{Own, Inner}}, Join.Join, Connections.Connections}
use Rattle.lft_resolve.specs.declared.by_number.sheets.{NamedThing.NamedThing, Cue.Cue, Cues.Cues, Reactions.Reactions, TimerSheet.TimerSheet}
use Rattle.lft_resolve.specs.declared.by_number.sheets.{ActionSheet.ActionSheet, Declarations.Declarations}
use Rattle.lft_resolve.specs.{Causes.longest, Instances.reactor_named, inner.Places.place, Sheets.without_timers}
use Rattle.lft_resolve.specs.declared.by_number.sheets.NamedThing.TheVariants as spots
use Rattle.lft_resolve.specs.declared.by_number.sheets.Cue.TheVariants as cues

-- ---- times
-- a time as it is kept: each past the greatest one as one nanosecond more than that
abbrev pub kept : ℕ → ℕ
kept n = if nat_lt longest n then longest + 1 else n

-- the place of the parameter of this name
abbrev pub parameter_place : ReactorTree → List ℕ → Option ℕ
parameter_place r name = place name (map (λ p. p.name) r.parameters)

-- the clock that a time in the reactor is: a fixed one, or the parameter of this name
abbrev pub IsClock : ReactorTree → TimeTree → Clock → Type 0
IsClock r (Written t) (Fixed n) = n ≡ kept (nanoseconds t)
IsClock r (Written t) (Parameter k) = ⊥
IsClock r (Named name) (Fixed n) = ⊥
IsClock r (Named name) (Parameter k) = parameter_place r name ≡ Some k

-- a time that may be left out, and is 0 then
abbrev pub IsClockOrZero : ReactorTree → Option TimeTree → Clock → Type 0
IsClockOrZero r None clock = clock ≡ Fixed 0
IsClockOrZero r (Some t) clock = IsClock r t clock

-- a delay that may be left out, and is none then
abbrev pub IsDelay : ReactorTree → Option TimeTree → Option Clock → Type 0
IsDelay r None None = Unit {0}
IsDelay r None (Some clock) = ⊥
IsDelay r (Some t) None = ⊥
IsDelay r (Some t) (Some clock) = IsClock r t clock

-- the parameter of the new reactor that has this name is given the time, which is one of the outer reactor
pub record IsGiven (outer inner : ReactorTree) (a : AssignmentTree) (given : Given) : Type 0 where
  pub place : parameter_place inner a.name ≡ Some given.place
  pub clock : IsClock outer a.value given.clock

-- what `new` gives to the parameters of the new reactor
abbrev pub AreValuesGiven : List ReactorTree → ReactorTree → InstanceTree → List Given → Type 0
AreValuesGiven rs outer i given = (inner : ReactorTree) × (reactor_named rs i.reactor ≡ Some inner) × AllZip (IsGiven outer inner) i.given given

-- the defaults of the reactor's parameters, and what it gives to those of its instances
pub record IsParameters (rs : List ReactorTree) (r : ReactorTree) (p : Parameters) : Type 0 where
  pub defaults : p.defaults.items ≡ map (λ x. kept (nanoseconds x.default)) r.parameters
  pub given : AllZip (AreValuesGiven rs r) (instances_of r) (map (λ g. g.items) p.given.items)

-- for each reactor in order: the defaults of its parameters, and what it gives to those of its instances
abbrev pub AreParameters : List ReactorTree → List Parameters → Type 0
AreParameters rs table = AllZip (IsParameters rs) rs table

-- ---- ports, timers and actions
pub record IsTimerSheet (r : ReactorTree) (t : TimerTree) (sheet : TimerSheet) : Type 0 where
  pub offset : IsClockOrZero r t.offset sheet.offset
  pub period : IsClockOrZero r t.period sheet.period

pub record IsActionSheet (r : ReactorTree) (a : ActionTree) (sheet : ActionSheet) : Type 0 where
  pub is_physical : sheet.is_physical ≡ a.is_physical
  pub min_delay : IsClockOrZero r a.min_delay sheet.min_delay

-- what the reactor declares beside parameters, instances, connections and reactions
pub record IsDeclarations (r : ReactorTree) (d : Declarations) : Type 0 where
  pub inputs : d.inputs.items ≡ map (λ x. x.is_input) (ports_of r)
  pub timers : AllZip (IsTimerSheet r) (timers_of r) d.timers.items
  pub actions : AllZip (IsActionSheet r) (actions_of r) d.actions.items

-- for each reactor in order: its ports, timers and actions
abbrev pub AreDeclarations : List ReactorTree → List Declarations → Type 0
AreDeclarations rs table = AllZip IsDeclarations rs table

-- ---- names
-- the places of the port, timer, action and instance of this name
abbrev pub port_place : ReactorTree → List ℕ → Option ℕ
port_place r name = place name (map (λ x. x.name) (ports_of r))

abbrev pub timer_place : ReactorTree → List ℕ → Option ℕ
timer_place r name = place name (map (λ x. x.name) (timers_of r))

abbrev pub action_place : ReactorTree → List ℕ → Option ℕ
action_place r name = place name (map (λ x. x.name) (actions_of r))

abbrev pub instance_place : ReactorTree → List ℕ → Option ℕ
instance_place r name = place name (map (λ x. x.name) (instances_of r))

-- the name stands for the port of the instance at this place
pub record IsInner (rs : List ReactorTree) (r : ReactorTree) (ref : RefTree) (number port : ℕ) : Type 0 where
  pub name : List ℕ
  pub i : InstanceTree
  pub inner : ReactorTree
  pub is_name : ref.port ≡ Some name
  pub is_place : instance_place r ref.head ≡ Some number
  pub is_instance : slice_get (instances_of r) number ≡ Some i
  pub is_inner : reactor_named rs i.reactor ≡ Some inner
  pub is_port : port_place inner name ≡ Some port

-- the port that a name in the reactor stands for
abbrev pub IsEnd : List ReactorTree → ReactorTree → RefTree → End → Type 0
IsEnd rs r ref (Own port) = (ref.port ≡ None) × (port_place r ref.head ≡ Some port)
IsEnd rs r ref (Inner number port) = IsInner rs r ref number port

-- the port or action that a name in the reactor stands for
abbrev pub IsSpot : List ReactorTree → ReactorTree → RefTree → NamedThing → Type 0
IsSpot rs r ref (spots.Port end) = IsEnd rs r ref end
IsSpot rs r ref (spots.Action n) = (ref.port ≡ None) × (action_place r ref.head ≡ Some n)

-- what a trigger stands for
abbrev pub IsCue : List ReactorTree → ReactorTree → TriggerTree → Cue → Type 0
IsCue rs r AtStartup cue = cue ≡ cues.Startup
IsCue rs r AtShutdown cue = cue ≡ cues.Shutdown
IsCue rs r (OnRef ref) cues.Startup = ⊥
IsCue rs r (OnRef ref) cues.Shutdown = ⊥
IsCue rs r (OnRef ref) (cues.Timer n) = (ref.port ≡ None) × (timer_place r ref.head ≡ Some n)
IsCue rs r (OnRef ref) (cues.On spot) = IsSpot rs r ref spot

-- what the names of a reaction stand for; a timer as a use isn't kept
pub record AreCues (rs : List ReactorTree) (r : ReactorTree) (x : ReactionTree) (c : Cues) : Type 0 where
  pub triggers : AllZip (IsCue rs r) x.triggers c.triggers.items
  pub uses : AllZip (IsSpot rs r) (without_timers r x.uses) c.uses.items
  pub effects : AllZip (IsSpot rs r) x.effects c.effects.items

-- for each reaction of the reactor in order: what its names stand for
abbrev pub IsReactions : List ReactorTree → ReactorTree → Reactions → Type 0
IsReactions rs r x = AllZip (AreCues rs r) (reactions_of r) x.reactions.items

-- for each reactor in order: what the names of its reactions stand for
abbrev pub AreReactions : List ReactorTree → List Reactions → Type 0
AreReactions rs table = AllZip (IsReactions rs) rs table

-- ---- connections
-- a single connection: its source, its destination, and the delay of the connection that it is one of
pub record Single : Type 0 where
  pub from : RefTree
  pub to : RefTree
  pub delay : Option TimeTree

-- the single connections of a connection, joined in order
abbrev pub singles_in : ConnectionTree → List Single
singles_in c = map (λ p. record { from = p.0; to = p.1; delay = c.delay }) (zip c.sources c.destinations)

-- those of a reactor
abbrev pub singles_of : ReactorTree → List Single
singles_of r = flat_map singles_in (connections_of r)

-- what a single connection joins
pub record IsJoin (rs : List ReactorTree) (r : ReactorTree) (s : Single) (join : Join) : Type 0 where
  pub from : IsEnd rs r s.from join.from
  pub to : IsEnd rs r s.to join.to
  pub delay : IsDelay r s.delay join.delay

-- for each single connection of the reactor in order: what it joins
abbrev pub IsConnections : List ReactorTree → ReactorTree → Connections → Type 0
IsConnections rs r c = AllZip (IsJoin rs r) (singles_of r) c.joins.items

-- for each reactor in order: what its connections join
abbrev pub AreConnections : List ReactorTree → List Connections → Type 0
AreConnections rs table = AllZip (IsConnections rs) rs table
