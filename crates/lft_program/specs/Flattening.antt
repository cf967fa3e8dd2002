-- What the flat program of a tree is.
use Rattle.std.specs.Prelude.{◌≡◌, ℕ, ◌+◌, List, [], ◌∷◌, ◌++◌, Option, Some, None, map, slice_get, option_to_list, flat_map, codes}
use Rattle.std.specs.{List.AllZip, Fmt.decimal}
use Rattle.lft_tree.specs.Tree.{FileTree, ReactorTree, PortTree, ActionTree, TimerTree, ReactionTree, TimeTree, RefTree, TriggerTree, AtStartup, AtShutdown, OnRef, instances_of, ports_of, actions_of, timers_of, reactions_of}
use Rattle.lft_resolve.specs.{Causes.{NoneHolds, causes}, Instances.{Inside, time_in, entered, main_instance, Thing, thing_at, stands_for}}
use Rattle.lft_resolve.specs.Sheets.{without_timers}
use Rattle.lft_program.specs.{Links.IsSource, Located.{Located, AreLocated, Declared, declared, ports_in, actions_in, timers_in}}
use Rattle.lft_ir.specs.{Names.ThingNames, Parts.Parts, Sound.KeepsOrigins}
use Rattle.lft_ir.specs.declared.parts.{Port.Port as PortOf, Action.Action as ActionOf, Timer.Timer as TimerOf, Reaction.Reaction}
use Rattle.lft_ir.specs.declared.parts.{Name.{Name, TheVariants.{Port, Action}}, Trigger.{Trigger, TheVariants.{Startup, Shutdown, Timer, On}}}

-- ---- times and names in an instance

-- a time, read with the parameters of the instance; a left-out one is 0
abbrev pub time_or_zero : Inside → Option TimeTree → ℕ
time_or_zero x None = 0
time_or_zero x (Some t) = time_in x t

-- the port or action of this number is the thing
abbrev pub NamesThing : List Located → Thing → Name → Type 0
NamesThing all t (Port p) = slice_get (ports_in all) p ≡ Some t
NamesThing all t (Action a) = slice_get (actions_in all) a ≡ Some t

-- the port or action that a name in the instance stands for
abbrev pub IsFlatName : List Located → Located → RefTree → Name → Type 0
IsFlatName all at ref n = (t : Thing) × (stands_for at.inside.reactor at.path ref ≡ Some t) × NamesThing all t n

-- what a trigger in the instance stands for
abbrev pub IsTrigger : List Located → Located → TriggerTree → Trigger → Type 0
IsTrigger all at AtStartup t = t ≡ Startup
IsTrigger all at AtShutdown t = t ≡ Shutdown
IsTrigger all at (OnRef ref) Startup = ⊥
IsTrigger all at (OnRef ref) Shutdown = ⊥
IsTrigger all at (OnRef ref) (Timer n) = (t : Thing) × (stands_for at.inside.reactor at.path ref ≡ Some t) × (slice_get (timers_in all) n ≡ Some t)
IsTrigger all at (OnRef ref) (On n) = IsFlatName all at ref n

-- ---- parts

-- the port that an instance declares
pub record IsPort (tree : FileTree) (all : List Located) (d : Declared PortTree) (port : PortOf) : Type 0 where
  pub instance : port.instance ≡ d.instance
  pub direction : port.is_input ≡ d.item.is_input
  pub source : IsSource tree (ports_in all) (thing_at d.located.path d.item.name) port.source

-- the action that an instance declares
pub record IsAction (d : Declared ActionTree) (action : ActionOf) : Type 0 where
  pub instance : action.instance ≡ d.instance
  pub physical : action.physical ≡ d.item.is_physical
  pub min_delay : action.min_delay ≡ time_or_zero d.located.inside d.item.min_delay

-- the timer that an instance declares
pub record IsTimer (d : Declared TimerTree) (timer : TimerOf) : Type 0 where
  pub instance : timer.instance ≡ d.instance
  pub offset : timer.offset ≡ time_or_zero d.located.inside d.item.offset
  pub period : timer.period ≡ time_or_zero d.located.inside d.item.period

-- the reaction that an instance declares: what its names stand for, in order, without the timers among its uses
pub record IsReaction (all : List Located) (d : Declared ReactionTree) (reaction : Reaction) : Type 0 where
  pub instance : reaction.instance ≡ d.instance
  pub place : reaction.place ≡ d.place
  pub triggers : AllZip (IsTrigger all d.located) d.item.triggers reaction.triggers
  pub uses : AllZip (IsFlatName all d.located) (without_timers d.located.inside.reactor d.item.uses) reaction.uses
  pub effects : AllZip (IsFlatName all d.located) d.item.effects reaction.effects

-- ---- full names

-- the names of the instances along a path, each after a dot
abbrev pub name_under : FileTree → Inside → List ℕ → List ℕ
name_under tree x [] = []
name_under tree x (k ∷ path) = flat_map (λ i. codes "." ++ i.name) (option_to_list (slice_get (instances_of x.reactor) k)) ++ flat_map (λ y. name_under tree y path) (option_to_list (entered tree x k))

-- the main instance is `main`, whatever its reactor is called (ours: `main.a`)
abbrev pub name_of_path : FileTree → ReactorTree → List ℕ → List ℕ
name_of_path tree main path = codes "main" ++ name_under tree (main_instance main) path

-- the name of the instance, a dot and the thing's own (ours: `main.a.out`)
abbrev pub name_of_thing : FileTree → ReactorTree → Thing → List ℕ
name_of_thing tree main t = name_of_path tree main t.path ++ codes "." ++ t.name

-- the name of the instance, `#` and the reaction's place counted from 1 (ours: `main.a#1`)
abbrev pub name_of_reaction : FileTree → ReactorTree → Declared ReactionTree → List ℕ
name_of_reaction tree main d = name_of_path tree main d.located.path ++ codes "#" ++ decimal (d.place + 1)

-- the names of all things of the instances
abbrev pub names_of : FileTree → ReactorTree → List Located → ThingNames
names_of tree main all = record {
  instances = map (λ i. name_of_path tree main i.path) all;
  ports = map (name_of_thing tree main) (ports_in all);
  actions = map (name_of_thing tree main) (actions_in all);
  timers = map (name_of_thing tree main) (timers_in all);
  reactions = map (name_of_reaction tree main) (declared reactions_of all);
}

-- ---- the whole program

-- the parts are those of the tree: instances are the paths of `new` from the main reactor in pre-order, and each declares what its reactor does, read with its own parameters (handbook)
pub record Flat (tree : FileTree) (program : Parts) : Type 0 where
  pub instances : List Located
  pub are_located : AreLocated tree instances
  pub ports : AllZip (IsPort tree instances) (declared ports_of instances) program.ports
  pub origins : KeepsOrigins program
  pub actions : AllZip IsAction (declared actions_of instances) program.actions
  pub timers : AllZip IsTimer (declared timers_of instances) program.timers
  pub reactions : AllZip (IsReaction instances) (declared reactions_of instances) program.reactions
  pub names : program.names ≡ names_of tree are_located.main instances

-- the flat program of a tree of which no cause of refusal holds
pub record IsFlatOf (tree : FileTree) (program : Parts) : Type 0 where
  pub none : NoneHolds (causes tree)
  pub flat : Flat tree program
