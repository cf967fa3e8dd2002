-- What contracts see of a program: its parts as lists, each part known by its place.
use Rattle.std.specs.Prelude.{List, ◌++◌, filter_map}
use Rattle.lft_ir.specs.declared.parts.{Port.Port as PortOf, Action.Action as ActionOf, Timer.Timer as TimerOf, Reaction.Reaction, Name.Name}
use Rattle.lft_ir.specs.{Names.ThingNames, Naming.named}

-- a flat program: what its instances declare, by instance and then by declaration, and the names
pub record Parts : Type 0 where
  pub ports : List PortOf
  pub actions : List ActionOf
  pub timers : List TimerOf
  pub reactions : List Reaction
  pub names : ThingNames

-- a reaction's inputs: the ports and actions among its triggers, then its uses (handbook)
abbrev pub inputs : Reaction → List Name
inputs x = filter_map named x.triggers ++ x.uses
