-- The tree of a program text, as contracts see it: names are lists of bytes, opaque parts are ranges of tokens.
use Rattle.std.specs.Prelude.{ℕ, ◌*◌, Bool, List, Option, Some, None, filter_map}
use Rattle.lft_tree.specs.declared.tree.{Time.Time, TimeUnit.TimeUnit}
use Rattle.lft_tree.specs.declared.tree.TimeUnit.TheVariants as units

-- the tokens from the first number up to, without, the second
abbrev pub Range : Type 0
Range = ℕ × ℕ

-- a time as written, or the name of a parameter
pub data TimeTree : Type 0 where
  Written : Time → TimeTree
  Named : List ℕ → TimeTree

-- a name, or a port of a contained instance
pub record RefTree : Type 0 where
  pub head : List ℕ
  pub port : Option (List ℕ)

-- a parameter of a reactor with its default
pub record ParameterTree : Type 0 where
  pub name : List ℕ
  pub default : Time

-- an input or an output
pub record PortTree : Type 0 where
  pub name : List ℕ
  pub is_input : Bool

-- a timer; what is left out is None
pub record TimerTree : Type 0 where
  pub name : List ℕ
  pub offset : Option TimeTree
  pub period : Option TimeTree

-- a logical or physical action
pub record ActionTree : Type 0 where
  pub name : List ℕ
  pub is_physical : Bool
  pub min_delay : Option TimeTree

-- what a reaction is triggered by
pub data TriggerTree : Type 0 where
  AtStartup : TriggerTree
  AtShutdown : TriggerTree
  OnRef : RefTree → TriggerTree

-- a reaction; its own name and its code aren't kept
pub record ReactionTree : Type 0 where
  pub triggers : List TriggerTree
  pub uses : List RefTree
  pub effects : List RefTree

-- a value that `new` gives to a parameter
pub record AssignmentTree : Type 0 where
  pub name : List ℕ
  pub value : TimeTree

-- a contained instance
pub record InstanceTree : Type 0 where
  pub name : List ℕ
  pub reactor : List ℕ
  pub given : List AssignmentTree

-- sources and destinations, joined in order
pub record ConnectionTree : Type 0 where
  pub sources : List RefTree
  pub destinations : List RefTree
  pub delay : Option TimeTree

-- what a reactor declares
pub data MemberTree : Type 0 where
  PortMember : PortTree → MemberTree
  TimerMember : TimerTree → MemberTree
  ActionMember : ActionTree → MemberTree
  StateMember : Range → MemberTree
  PreambleMember : Range → MemberTree
  ReactionMember : ReactionTree → MemberTree
  InstanceMember : InstanceTree → MemberTree
  ConnectionMember : ConnectionTree → MemberTree

-- a reactor; only the main one may be without a name
pub record ReactorTree : Type 0 where
  pub is_main : Bool
  pub name : Option (List ℕ)
  pub parameters : List ParameterTree
  pub members : List MemberTree

-- what stands at the top of a file
pub data ItemTree : Type 0 where
  PreambleItem : Range → ItemTree
  ReactorItem : ReactorTree → ItemTree

-- the whole tree
pub record FileTree : Type 0 where
  pub target : Option Range
  pub items : List ItemTree

-- ---- times

-- how many nanoseconds a unit has; only 0 is written without one
abbrev pub unit_nanoseconds : Option TimeUnit → ℕ
unit_nanoseconds None = 1
unit_nanoseconds (Some units.Nanosecond) = 1
unit_nanoseconds (Some units.Microsecond) = 1000
unit_nanoseconds (Some units.Millisecond) = 1000000
unit_nanoseconds (Some units.Second) = 1000000000
unit_nanoseconds (Some units.Minute) = 60000000000
unit_nanoseconds (Some units.Hour) = 3600000000000
unit_nanoseconds (Some units.Day) = 86400000000000
unit_nanoseconds (Some units.Week) = 604800000000000

-- a written time in nanoseconds
abbrev pub nanoseconds : Time → ℕ
nanoseconds t = t.count * unit_nanoseconds t.unit

-- ---- what a file and a reactor declare, in order

-- the reactor that an item is, if it is one
abbrev pub reactor_in : ItemTree → Option ReactorTree
reactor_in (ReactorItem x) = Some x
reactor_in _ = None

-- the port that a member is, if it is one
abbrev pub port_in : MemberTree → Option PortTree
port_in (PortMember x) = Some x
port_in _ = None

-- the timer that a member is, if it is one
abbrev pub timer_in : MemberTree → Option TimerTree
timer_in (TimerMember x) = Some x
timer_in _ = None

-- the action that a member is, if it is one
abbrev pub action_in : MemberTree → Option ActionTree
action_in (ActionMember x) = Some x
action_in _ = None

-- the reaction that a member is, if it is one
abbrev pub reaction_in : MemberTree → Option ReactionTree
reaction_in (ReactionMember x) = Some x
reaction_in _ = None

-- the instance that a member is, if it is one
abbrev pub instance_in : MemberTree → Option InstanceTree
instance_in (InstanceMember x) = Some x
instance_in _ = None

-- the connection that a member is, if it is one
abbrev pub connection_in : MemberTree → Option ConnectionTree
connection_in (ConnectionMember x) = Some x
connection_in _ = None

-- the reactors of a file, in order
abbrev pub reactors_of : FileTree → List ReactorTree
reactors_of f = filter_map reactor_in f.items

-- the ports that a reactor declares, in order
abbrev pub ports_of : ReactorTree → List PortTree
ports_of r = filter_map port_in r.members

-- the timers that a reactor declares, in order
abbrev pub timers_of : ReactorTree → List TimerTree
timers_of r = filter_map timer_in r.members

-- the actions that a reactor declares, in order
abbrev pub actions_of : ReactorTree → List ActionTree
actions_of r = filter_map action_in r.members

-- the reactions that a reactor declares, in order
abbrev pub reactions_of : ReactorTree → List ReactionTree
reactions_of r = filter_map reaction_in r.members

-- the instances that a reactor contains, in order
abbrev pub instances_of : ReactorTree → List InstanceTree
instances_of r = filter_map instance_in r.members

-- the connections that a reactor makes, in order
abbrev pub connections_of : ReactorTree → List ConnectionTree
connections_of r = filter_map connection_in r.members
