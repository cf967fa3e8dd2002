-- Lists of references to parts of a tree, as trees. Contracts of functions that are handed such lists need this file, here and in the crates above.
use Rattle.std.specs.Prelude.{List, map}
use Rattle.std.specs.Borrow.{Bor}
use Rattle.lft_tree.specs.Tree.{ReactorTree, RefTree, ConnectionTree, ReactionTree, InstanceTree, TimerTree, ActionTree, PortTree}
use Rattle.lft_tree.specs.View.{reactor_view, ref_view, connection_view, reaction_view, instance_view, timer_view, action_view, port_view}
use Rattle.lft_tree.specs.declared.tree.{Reactor.Reactor, Reference.Reference, Connection.Connection, Reaction.Reaction, Instance.Instance, Timer.Timer}
use Rattle.lft_tree.specs.declared.tree.{Action.Action, Port.Port}

-- the reactors behind the references, as trees
abbrev pub reactor_trees : List (Bor Reactor) → List ReactorTree
reactor_trees = map (λ r. reactor_view r.now)

-- the names behind the references, as trees
abbrev pub ref_trees : List (Bor Reference) → List RefTree
ref_trees = map (λ r. ref_view r.now)

-- the connections behind the references, as trees
abbrev pub connection_trees : List (Bor Connection) → List ConnectionTree
connection_trees = map (λ x. connection_view x.now)

-- the reactions behind the references, as trees
abbrev pub reaction_trees : List (Bor Reaction) → List ReactionTree
reaction_trees = map (λ x. reaction_view x.now)

-- the instances behind the references, as trees
abbrev pub instance_trees : List (Bor Instance) → List InstanceTree
instance_trees = map (λ x. instance_view x.now)

-- the timers behind the references, as trees
abbrev pub timer_trees : List (Bor Timer) → List TimerTree
timer_trees = map (λ x. timer_view x.now)

-- the actions behind the references, as trees
abbrev pub action_trees : List (Bor Action) → List ActionTree
action_trees = map (λ x. action_view x.now)

-- the ports behind the references, as trees
abbrev pub port_trees : List (Bor Port) → List PortTree
port_trees = map (λ x. port_view x.now)
