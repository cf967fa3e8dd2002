-- The flat program of a program that is written out.
use Rattle.std.specs.Prelude.{◌≡◌, ℕ, ◌+◌, ◌<◌, List, [], ◌∷◌, ◌++◌, Option, Some, None, codes, decimal, flat_map, map, slice_get}
use Rattle.std.specs.{List.{AllZip, enumerate_from}, Option.option_map_or}
use Rattle.lft_same.specs.Expanded.Expanded.{Action, Contents, Expanded, Port, Reaction, Timer, Trigger, AtStartup, AtShutdown, OnThing}
use Rattle.lft_ir.specs.{Names.ThingNames, Parts.Parts, Sound.KeepsOrigins}
use Rattle.lft_ir.specs.declared.parts.{Action.Action as FlatAction, Name.{Name, TheVariants.{Port as PortName, Action as ActionName}}, Port.Port as FlatPort}
use Rattle.lft_ir.specs.declared.parts.{Reaction.Reaction as FlatReaction, Timer.Timer as FlatTimer}
use Rattle.lft_ir.specs.declared.parts.Trigger.{Trigger as FlatTrigger, TheVariants.{Startup, Shutdown, Timer as TimerTrigger, On}}
use Rattle.lft_resolve.specs.{Expansion.Paths.PathBefore, Instances.{Thing, thing_at}}
use Rattle.lft_tag.specs.declared.Source.{Source}

-- ---- the instances by number

-- an instance with its path
pub record LocatedContents : Type 0 where
  pub path : List ℕ
  pub contents : Contents

-- all instances in pre-order
pub record AreAllInstances (expanded : Expanded) (all : List LocatedContents) : Type 0 where
  pub in_order : (i j : ℕ) (x y : LocatedContents) → slice_get all i ≡ Some x → slice_get all j ≡ Some y → i < j → PathBefore x.path y.path
  pub each : (i : ℕ) (x : LocatedContents) → slice_get all i ≡ Some x → expanded x.path ≡ Some x.contents
  pub every : (path : List ℕ) (c : Contents) → expanded path ≡ Some c → (i : ℕ) × (x : LocatedContents) × (slice_get all i ≡ Some x) × (x.path ≡ path)

-- what an instance has at a place of one of its lists, with the number and the path of the instance
pub record ExpandedItem (X : Type 0) : Type 0 where
  pub instance : ℕ
  pub path : List ℕ
  pub place : ℕ
  pub item : X

-- all of one kind that an instance has
abbrev pub items_of_instance : {X : Type 0} → (Contents → List X) → ℕ × LocatedContents → List (ExpandedItem X)
items_of_instance kind (n, x) = map (λ d. record { instance = n; path = x.path; place = d.0; item = d.1 }) (enumerate_from 0 (kind x.contents))

-- all of one kind, by instance and then in order; each one's place here is its number
abbrev pub expanded_items : {X : Type 0} → (Contents → List X) → List LocatedContents → List (ExpandedItem X)
expanded_items kind all = flat_map (items_of_instance kind) (enumerate_from 0 all)

-- the same as things
abbrev pub expanded_things : {X : Type 0} → (X → List ℕ) → List (ExpandedItem X) → List Thing
expanded_things name ds = map (λ d. thing_at d.path (name d.item)) ds

-- the ports of all instances, each at its number
abbrev pub expanded_ports : List LocatedContents → List Thing
expanded_ports all = expanded_things (λ x. x.name) (expanded_items (λ c. c.ports) all)

-- the actions of all instances, each at its number
abbrev pub expanded_actions : List LocatedContents → List Thing
expanded_actions all = expanded_things (λ x. x.name) (expanded_items (λ c. c.actions) all)

-- the timers of all instances, each at its number
abbrev pub expanded_timers : List LocatedContents → List Thing
expanded_timers all = expanded_things (λ x. x.name) (expanded_items (λ c. c.timers) all)

-- ---- the flat program

-- the port or action of this number is the thing
abbrev pub NamesExpandedThing : List LocatedContents → Thing → Name → Type 0
NamesExpandedThing all t (PortName p) = slice_get (expanded_ports all) p ≡ Some t
NamesExpandedThing all t (ActionName a) = slice_get (expanded_actions all) a ≡ Some t

-- the trigger is the one that is written, by number
abbrev pub IsExpandedTrigger : List LocatedContents → Trigger → FlatTrigger → Type 0
IsExpandedTrigger all AtStartup t = t ≡ Startup
IsExpandedTrigger all AtShutdown t = t ≡ Shutdown
IsExpandedTrigger all (OnThing t) Startup = ⊥
IsExpandedTrigger all (OnThing t) Shutdown = ⊥
IsExpandedTrigger all (OnThing t) (TimerTrigger n) = slice_get (expanded_timers all) n ≡ Some t
IsExpandedTrigger all (OnThing t) (On n) = NamesExpandedThing all t n

-- some instance joins the one thing to the other, with this delay
abbrev pub JoinsThings : Expanded → Thing → Thing → Option ℕ → Type 0
JoinsThings expanded a b delay = (path : List ℕ) × (contents : Contents) × (place : ℕ) × (expanded path ≡ Some contents) × (slice_get contents.links place ≡ Some (record { from = a; to = b; delay = delay }))

-- what a connection joins to the port, or none where no connection leads into it
abbrev pub IsExpandedSource : Expanded → List Thing → Thing → Option Source → Type 0
IsExpandedSource expanded ports t None = (from : Thing) (delay : Option ℕ) → JoinsThings expanded from t delay → ⊥
IsExpandedSource expanded ports t (Some s) = (from : Thing) × (slice_get ports s.port ≡ Some from) × JoinsThings expanded from t s.delay

-- the port that an instance has
pub record IsExpandedPort (expanded : Expanded) (all : List LocatedContents) (d : ExpandedItem Port) (port : FlatPort) : Type 0 where
  pub instance : port.instance ≡ d.instance
  pub direction : port.is_input ≡ d.item.is_input
  pub source : IsExpandedSource expanded (expanded_ports all) (thing_at d.path d.item.name) port.source

-- the action that an instance has
pub record IsExpandedAction (d : ExpandedItem Action) (action : FlatAction) : Type 0 where
  pub instance : action.instance ≡ d.instance
  pub physical : action.physical ≡ d.item.is_physical
  pub min_delay : action.min_delay ≡ d.item.min_delay

-- the timer that an instance has
pub record IsExpandedTimer (d : ExpandedItem Timer) (timer : FlatTimer) : Type 0 where
  pub instance : timer.instance ≡ d.instance
  pub offset : timer.offset ≡ d.item.offset
  pub period : timer.period ≡ d.item.period

-- the reaction that an instance has, with its place among those of the instance
pub record IsExpandedReaction (all : List LocatedContents) (d : ExpandedItem Reaction) (reaction : FlatReaction) : Type 0 where
  pub instance : reaction.instance ≡ d.instance
  pub place : reaction.place ≡ d.place
  pub triggers : AllZip (IsExpandedTrigger all) d.item.triggers reaction.triggers
  pub uses : AllZip (NamesExpandedThing all) d.item.uses reaction.uses
  pub effects : AllZip (NamesExpandedThing all) d.item.effects reaction.effects

-- the name of the instance at this place of one, behind a dot
abbrev pub name_behind : Option Contents → ℕ → List ℕ
name_behind None k = []
name_behind (Some c) k = option_map_or (λ name. codes "." ++ name) (slice_get c.instances k) []

-- the names along the rest of a path
abbrev pub names_along : Expanded → List ℕ → List ℕ → List ℕ
names_along expanded front [] = []
names_along expanded front (k ∷ rest) = name_behind (expanded front) k ++ names_along expanded (front ++ k ∷ []) rest

-- the name of the instance at a path: `main`, `main.a`
abbrev pub expanded_path_name : Expanded → List ℕ → List ℕ
expanded_path_name expanded path = codes "main" ++ names_along expanded [] path

-- the name of a thing: `main.a.out`
abbrev pub expanded_thing_name : Expanded → Thing → List ℕ
expanded_thing_name expanded t = expanded_path_name expanded t.path ++ codes "." ++ t.name

-- the name of a reaction, counted from 1: `main.a#1`
abbrev pub expanded_reaction_name : Expanded → ExpandedItem Reaction → List ℕ
expanded_reaction_name expanded d = expanded_path_name expanded d.path ++ codes "#" ++ decimal (d.place + 1)

-- the names of all instances and of what they have
abbrev pub names_of : Expanded → List LocatedContents → ThingNames
names_of expanded all = record {
  instances = map (λ x. expanded_path_name expanded x.path) all;
  ports = map (expanded_thing_name expanded) (expanded_ports all);
  actions = map (expanded_thing_name expanded) (expanded_actions all);
  timers = map (expanded_thing_name expanded) (expanded_timers all);
  reactions = map (expanded_reaction_name expanded) (expanded_items (λ c. c.reactions) all);
}

-- The flat program: each instance has a number in pre-order, and what the instances have is numbered by instance and then in order.
pub record IsFlat (expanded : Expanded) (program : Parts) : Type 0 where
  pub all : List LocatedContents
  pub are_all : AreAllInstances expanded all
  pub ports : AllZip (IsExpandedPort expanded all) (expanded_items (λ c. c.ports) all) program.ports
  pub origins : KeepsOrigins program
  pub actions : AllZip IsExpandedAction (expanded_items (λ c. c.actions) all) program.actions
  pub timers : AllZip IsExpandedTimer (expanded_items (λ c. c.timers) all) program.timers
  pub reactions : AllZip (IsExpandedReaction all) (expanded_items (λ c. c.reactions) all) program.reactions
  pub names : program.names ≡ names_of expanded all
