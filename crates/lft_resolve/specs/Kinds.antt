-- What the names of a reactor are, and where they may stand.
use Rattle.std.specs.Prelude.{ℕ, Bool, false, true, List, ◌++◌, Option, Some, None, map, filter_map, flat_map, find, option_map, option_and_then, option_to_list, bytes_eq}
use Rattle.lft_tree.specs.Tree.{ReactorTree, ReactionTree, ConnectionTree, TimerTree, TimeTree, RefTree, TriggerTree, AtStartup, AtShutdown, OnRef, ports_of, timers_of, actions_of, reactions_of, instances_of, connections_of}
use Rattle.lft_resolve.specs.Instances.{reactor_named}
use Rattle.lft_resolve.specs.declared.kinds.Kind.{Kind}
use Rattle.lft_resolve.specs.declared.kinds.Kind.TheVariants.{OwnParameter, OwnInput, OwnOutput, OwnTimer, OwnAction, OwnInstance, InnerInput, InnerOutput}
use Rattle.lft_resolve.specs.declared.kinds.Role.{Role, TheVariants.{Read, Effect, Source, Destination}}

-- an own port, by whether it is an input
abbrev pub own_port : Bool → Kind
own_port true = OwnInput
own_port false = OwnOutput

-- a port of a contained instance, by whether it is an input there
abbrev pub inner_port : Bool → Kind
inner_port true = InnerInput
inner_port false = InnerOutput

-- the first, if there is one, else the second
abbrev pub first_or_second : {X : Type 0} → Option X → Option X → Option X
first_or_second None y = y
first_or_second (Some x) y = Some x

-- what a plain name is in the reactor
abbrev pub own_kind : ReactorTree → List ℕ → Option Kind
own_kind r name =
    first_or_second (option_map (λ x. OwnParameter) (find (λ x. bytes_eq name x.name) r.parameters))
    (first_or_second (option_map (λ x. own_port x.is_input) (find (λ x. bytes_eq name x.name) (ports_of r)))
    (first_or_second (option_map (λ x. OwnTimer) (find (λ x. bytes_eq name x.name) (timers_of r)))
    (first_or_second (option_map (λ x. OwnAction) (find (λ x. bytes_eq name x.name) (actions_of r)))
    (option_map (λ x. OwnInstance) (find (λ x. bytes_eq name x.name) (instances_of r))))))

-- what `x.y` is: a port y of the reactor, among these, of the contained instance x
abbrev pub inner_kind : List ReactorTree → ReactorTree → List ℕ → List ℕ → Option Kind
inner_kind reactors r head name =
    option_and_then (λ i. option_and_then (λ inner. option_map (λ x. inner_port x.is_input) (find (λ x. bytes_eq name x.name) (ports_of inner))) (reactor_named reactors i.reactor)) (find (λ i. bytes_eq head i.name) (instances_of r))

-- what a plain name is, or a name with a port
abbrev pub kind_inside : List ReactorTree → ReactorTree → List ℕ → Option (List ℕ) → Option Kind
kind_inside reactors r head None = own_kind r head
kind_inside reactors r head (Some name) = inner_kind reactors r head name

-- what a name is in a reactor of the file that has these
abbrev pub kind_of : List ReactorTree → ReactorTree → RefTree → Option Kind
kind_of reactors r ref = kind_inside reactors r ref.head ref.port

-- the table of places: what may stand where
abbrev pub may_stand : Role → Kind → Bool
may_stand Read OwnInput = true
may_stand Read InnerOutput = true
may_stand Read OwnAction = true
may_stand Read OwnTimer = true
may_stand Effect OwnOutput = true
may_stand Effect InnerInput = true
may_stand Effect OwnAction = true
may_stand Source OwnInput = true
may_stand Source InnerOutput = true
may_stand Destination OwnOutput = true
may_stand Destination InnerInput = true
may_stand _ _ = false

-- the name of a trigger; `startup` and `shutdown` are none
abbrev pub ref_in : TriggerTree → Option RefTree
ref_in AtStartup = None
ref_in AtShutdown = None
ref_in (OnRef ref) = Some ref

-- the names among a reaction's triggers and uses
abbrev pub names_read : ReactionTree → List RefTree
names_read x = filter_map ref_in x.triggers ++ x.uses

-- a name with the role that it has
abbrev pub in_role : Role → List RefTree → List (Role × RefTree)
in_role role refs = map (λ ref. (role, ref)) refs

-- the names of a reaction and of a connection with their roles
abbrev pub reaction_refs : ReactionTree → List (Role × RefTree)
reaction_refs x = in_role Read (names_read x) ++ in_role Effect x.effects

abbrev pub connection_refs : ConnectionTree → List (Role × RefTree)
connection_refs c = in_role Source c.sources ++ in_role Destination c.destinations

-- the names of a reactor's reactions and connections with their roles
abbrev pub refs_in : ReactorTree → List (Role × RefTree)
refs_in r = flat_map reaction_refs (reactions_of r) ++ flat_map connection_refs (connections_of r)

-- the times of a timer
abbrev pub timer_times : TimerTree → List TimeTree
timer_times t = option_to_list t.offset ++ option_to_list t.period

-- the times of a reactor, but for the defaults of its parameters
abbrev pub times_in : ReactorTree → List TimeTree
times_in r = flat_map timer_times (timers_of r) ++ flat_map (λ a. option_to_list a.min_delay) (actions_of r) ++ flat_map (λ i. map (λ a. a.value) i.given) (instances_of r) ++ flat_map (λ c. option_to_list c.delay) (connections_of r)

-- the names that a reactor declares; those of state variables aren't kept
abbrev pub names_in : ReactorTree → List (List ℕ)
names_in r = map (λ x. x.name) r.parameters ++ map (λ x. x.name) (ports_of r) ++ map (λ x. x.name) (timers_of r) ++ map (λ x. x.name) (actions_of r) ++ map (λ x. x.name) (instances_of r)

-- the destinations of a reactor's connections
abbrev pub destinations_in : ReactorTree → List RefTree
destinations_in r = flat_map (λ c. c.destinations) (connections_of r)

-- the effects of a reactor's reactions
abbrev pub effects_in : ReactorTree → List RefTree
effects_in r = flat_map (λ x. x.effects) (reactions_of r)
