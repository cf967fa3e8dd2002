-- A program written out: what each of its instances has, by names.
use Rattle.std.specs.Prelude.{ℕ, Bool, List, Option}
use Rattle.lft_resolve.specs.Instances.{Thing}

-- what triggers a reaction: the start, the end, or a port, an action or a timer
pub data Trigger : Type 0 where
  AtStartup : Trigger
  AtShutdown : Trigger
  OnThing : Thing → Trigger

-- a port
pub record Port : Type 0 where
  pub name : List ℕ
  pub is_input : Bool

-- an action, with its delay in nanoseconds
pub record Action : Type 0 where
  pub name : List ℕ
  pub is_physical : Bool
  pub min_delay : ℕ

-- a timer, with its times in nanoseconds
pub record Timer : Type 0 where
  pub name : List ℕ
  pub offset : ℕ
  pub period : ℕ

-- a reaction: what triggers it, the ports and actions that it uses besides, and what it may write
pub record Reaction : Type 0 where
  pub triggers : List Trigger
  pub uses : List Thing
  pub effects : List Thing

-- a connection of one port to one port, with its delay in nanoseconds
pub record Link : Type 0 where
  pub from : Thing
  pub to : Thing
  pub delay : Option ℕ

-- what an instance has, each in order of declaration; the instances in it by their names
pub record Contents : Type 0 where
  pub instances : List (List ℕ)
  pub ports : List Port
  pub actions : List Action
  pub timers : List Timer
  pub reactions : List Reaction
  pub links : List Link

-- A program written out: what the instance at a path has, if there is one. The path of the main instance has no step; each step is the place of an instance among those of the one around.
abbrev pub Expanded : Type 0
Expanded = List ℕ → Option Contents
