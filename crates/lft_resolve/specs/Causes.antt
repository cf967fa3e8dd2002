-- The causes for which a tree is refused, and their order. Each is looked for in every reactor of the file, but for the cycle, the sum of delays and the limits, which are of instances.
use Rattle.std.specs.Prelude.{◌≡◌, ◌≢◌, ℕ, ◌<◌, ◌⊎◌, false, List, [], ◌∷◌, ◌++◌, Some, None, map, filter, filter_map, flat_map, find, slice_get, length, sum, Any, Contains, bytes_eq}
use Rattle.lft_tree.specs.Tree.{FileTree, ReactorTree, ReactionTree, InstanceTree, AssignmentTree, TimeTree, Written, Named, RefTree, nanoseconds, reactors_of, instances_of, connections_of, ports_of, actions_of, timers_of, reactions_of}
use Rattle.lft_resolve.specs.{Expansion.Paths.IsMoreThan, Instances.{Inside, reactor_named, IsInside, Thing, Chain}}
use Rattle.lft_resolve.specs.declared.{causes.ProgramFault.ProgramFault, kinds.{Kind.{Kind, TheVariants.OwnParameter}, Role.Role}}
use Rattle.lft_resolve.specs.Kinds.{own_kind, kind_of, may_stand, names_read, refs_in, times_in, names_in, destinations_in, effects_in}
use Rattle.lft_resolve.specs.declared.causes.ProgramFault.TheVariants as faults

-- something stands twice in the list
abbrev pub IsTwice : {X : Type 0} → List X → Type 0
IsTwice {X} xs = (i : ℕ) × (j : ℕ) × (x : X) × (i < j) × (slice_get xs i ≡ Some x) × (slice_get xs j ≡ Some x)

-- ---- the main reactor: 1 none; 2 more than one

-- the main reactors
abbrev pub mains : List ReactorTree → List ReactorTree
mains reactors = filter (λ r. r.is_main) reactors

-- no reactor is the main one
unfoldable pub NoMain : List ReactorTree → Type 0
NoMain reactors = mains reactors ≡ []

-- more than one reactor is the main one
unfoldable pub TwoMains : List ReactorTree → Type 0
TwoMains reactors = 1 < length (mains reactors)

-- ---- 3: two reactors of one name; two things that a reactor declares of one name; one parameter given twice in one `new`

-- one `new` gives a parameter two values
abbrev pub GivesTwice : InstanceTree → Type 0
GivesTwice i = IsTwice (map (λ a. a.name) i.given)

-- some `new` in the reactor does so
abbrev pub SomeGivesTwice : ReactorTree → Type 0
SomeGivesTwice r = Any GivesTwice (instances_of r)

-- the reactor declares one name twice, or gives a parameter two values
abbrev pub DeclaresTwice : ReactorTree → Type 0
DeclaresTwice r = IsTwice (names_in r) ⊎ SomeGivesTwice r

-- two reactors have one name, or some reactor declares one twice
unfoldable pub DuplicateName : List ReactorTree → Type 0
DuplicateName reactors = IsTwice (filter_map (λ r. r.name) reactors) ⊎ Any DeclaresTwice reactors

-- ---- 4: `new` of a name that no reactor has

-- the reactor has an instance of a reactor that isn't among these
abbrev pub LacksReactor : List ReactorTree → ReactorTree → Type 0
LacksReactor reactors r = Any (λ i. reactor_named reactors i.reactor ≡ None) (instances_of r)

-- some reactor has an instance of a reactor that isn't there
unfoldable pub UnknownReactor : List ReactorTree → Type 0
UnknownReactor reactors = Any (LacksReactor reactors) reactors

-- ---- 5: a reactor that contains itself, at any depth

-- the outer reactor has an instance of the inner one
abbrev pub Holds : List ReactorTree → ReactorTree → ReactorTree → Type 0
Holds reactors outer inner = Any (λ i. reactor_named reactors i.reactor ≡ Some inner) (instances_of outer)

-- in one or more steps
pub data HoldsDeep (reactors : List ReactorTree) : ReactorTree → ReactorTree → Type 0 where
  directly : {a b : ReactorTree} → Holds reactors a b → HoldsDeep reactors a b
  through : {a b c : ReactorTree} → Holds reactors a b → HoldsDeep reactors b c → HoldsDeep reactors a c

-- some reactor contains itself
unfoldable pub RecursiveReactor : List ReactorTree → Type 0
RecursiveReactor reactors = Any (λ r. HoldsDeep reactors r r) reactors

-- ---- 6: a name that is nothing; a name before a value at `new` that isn't a parameter of the new reactor

-- the name of a time is nothing in the reactor
abbrev pub IsUnknownTime : ReactorTree → TimeTree → Type 0
IsUnknownTime r (Written t) = ⊥
IsUnknownTime r (Named name) = own_kind r name ≡ None

-- what isn't a parameter of the reactor has a value
abbrev pub LacksParameter : ReactorTree → AssignmentTree → Type 0
LacksParameter r a = find (λ p. bytes_eq a.name p.name) r.parameters ≡ None

-- `new` gives a value to what isn't a parameter of the new reactor
abbrev pub GivesUnknown : List ReactorTree → InstanceTree → Type 0
GivesUnknown reactors i = (inner : ReactorTree) × (reactor_named reactors i.reactor ≡ Some inner) × Any (LacksParameter inner) i.given

-- some `new` in the reactor does so
abbrev pub SomeGivesUnknown : List ReactorTree → ReactorTree → Type 0
SomeGivesUnknown reactors r = Any (GivesUnknown reactors) (instances_of r)

-- some name in the reactor is nothing
abbrev pub NamesNothing : List ReactorTree → ReactorTree → Type 0
NamesNothing reactors r =
    Any (λ n. kind_of reactors r n.1 ≡ None) (refs_in r)
    ⊎ Any (IsUnknownTime r) (times_in r)
    ⊎ SomeGivesUnknown reactors r

-- some name in some reactor is nothing
unfoldable pub UnknownName : List ReactorTree → Type 0
UnknownName reactors = Any (NamesNothing reactors) reactors

-- ---- 7: a name that may not stand in its place; a time that names no parameter

-- the name is something that may not have this role
abbrev pub IsMisplaced : List ReactorTree → ReactorTree → Role × RefTree → Type 0
IsMisplaced reactors r n = (kind : Kind) × (kind_of reactors r n.1 ≡ Some kind) × (may_stand n.0 kind ≡ false)

-- the time names something else than a parameter
abbrev pub IsMisplacedTime : ReactorTree → TimeTree → Type 0
IsMisplacedTime r (Written t) = ⊥
IsMisplacedTime r (Named name) = (kind : Kind) × (own_kind r name ≡ Some kind) × (kind ≢ OwnParameter)

-- some name in the reactor may not stand in its place
abbrev pub Misplaces : List ReactorTree → ReactorTree → Type 0
Misplaces reactors r = Any (IsMisplaced reactors r) (refs_in r) ⊎ Any (IsMisplacedTime r) (times_in r)

-- some name in some reactor may not stand in its place
unfoldable pub WrongPlace : List ReactorTree → Type 0
WrongPlace reactors = Any (Misplaces reactors) reactors

-- ---- 8: the main reactor declares a port

-- some main reactor declares a port
unfoldable pub MainHasPorts : List ReactorTree → Type 0
MainHasPorts reactors = Any (λ r. ports_of r ≢ []) (mains reactors)

-- ---- 9: a port that is a connection's destination twice, or a destination and an effect

-- whatever writes a port stands in one reactor, under one name, so each reactor is asked alone
abbrev pub WritesTwice : ReactorTree → Type 0
WritesTwice r = IsTwice (destinations_in r) ⊎ Any (λ ref. Contains (effects_in r) ref) (destinations_in r)

-- some reactor writes a port so
unfoldable pub TwoSources : List ReactorTree → Type 0
TwoSources reactors = Any WritesTwice reactors

-- ---- 10: connections alone that form a cycle, with any delays

-- a chain of connections comes back to where it began
unfoldable pub ConnectionCycle : FileTree → Type 0
ConnectionCycle tree = (t : Thing) × (delays : List ℕ) × Chain tree t t delays

-- ---- 11: a connection whose two lists differ in length

-- the reactor has a connection whose two lists differ in length
abbrev pub DiffersInWidth : ReactorTree → Type 0
DiffersInWidth r = Any (λ c. length c.sources ≢ length c.destinations) (connections_of r)

-- some reactor has one
unfoldable pub WidthMismatch : List ReactorTree → Type 0
WidthMismatch reactors = Any DiffersInWidth reactors

-- ---- 12: a reaction without a trigger

-- the reactor has a reaction without a trigger
abbrev pub LacksTrigger : ReactorTree → Type 0
LacksTrigger r = Any (λ x. x.triggers ≡ []) (reactions_of r)

-- some reactor has one
unfoldable pub NoTrigger : List ReactorTree → Type 0
NoTrigger reactors = Any LacksTrigger reactors

-- ---- 13: a name twice among a reaction's triggers and uses together, or twice among its effects

-- a name stands twice among the reaction's triggers and uses, or twice among its effects
abbrev pub NamesTwice : ReactionTree → Type 0
NamesTwice x = IsTwice (names_read x) ⊎ IsTwice x.effects

-- the reactor has such a reaction
abbrev pub RepeatsName : ReactorTree → Type 0
RepeatsName r = Any NamesTwice (reactions_of r)

-- some reactor has one
unfoldable pub DuplicateInput : List ReactorTree → Type 0
DuplicateInput reactors = Any RepeatsName reactors

-- ---- 14: a time in any reactor past 10^18 nanoseconds, or a chain whose delays sum to more

-- the greatest time
abbrev pub longest : ℕ
longest = 1000000000000000000

-- a time that is written is past the greatest
abbrev pub IsLongTime : TimeTree → Type 0
IsLongTime (Written t) = longest < nanoseconds t
IsLongTime (Named name) = ⊥

-- the reactor has a time past the greatest
abbrev pub HasLongTime : ReactorTree → Type 0
HasLongTime r = Any (λ p. longest < nanoseconds p.default) r.parameters ⊎ Any IsLongTime (times_in r)

-- the delays of a chain of connections sum to more than the greatest time
abbrev pub HasLongChain : FileTree → Type 0
HasLongChain tree = (a : Thing) × (b : Thing) × (delays : List ℕ) × Chain tree a b delays × (longest < sum delays)

-- a time, or a sum of delays, is past the greatest
unfoldable pub DelayTooLong : FileTree → Type 0
DelayTooLong tree = Any HasLongTime (reactors_of tree) ⊎ HasLongChain tree

-- ---- 15: a limit on the number of instances, reactions, ports, single connections, actions or timers is passed

-- the instance at the path declares something of this kind at this place
abbrev pub IsDeclaredAt : {X : Type 0} → FileTree → (ReactorTree → List X) → List ℕ × ℕ → Type 0
IsDeclaredAt {X} tree kind d = (x : Inside) × (item : X) × IsInside tree d.0 x × (slice_get (kind x.reactor) d.1 ≡ Some item)

-- the single connections of a reactor, by their sources
abbrev pub joins_of : ReactorTree → List RefTree
joins_of r = flat_map (λ c. c.sources) (connections_of r)

-- there are more than so many of some kind
unfoldable pub TooMany : FileTree → Type 0
TooMany tree =
    IsMoreThan (λ path. (x : Inside) × IsInside tree path x) 10000
    ⊎ IsMoreThan (IsDeclaredAt tree reactions_of) 10000
    ⊎ IsMoreThan (IsDeclaredAt tree ports_of) 100000
    ⊎ IsMoreThan (IsDeclaredAt tree joins_of) 100000
    ⊎ IsMoreThan (IsDeclaredAt tree actions_of) 100000
    ⊎ IsMoreThan (IsDeclaredAt tree timers_of) 100000

-- ---- their numbers and their order

-- the number of each cause; want of memory has 16
abbrev pub number_of : ProgramFault → ℕ
number_of faults.NoMain = 1
number_of faults.TwoMains = 2
number_of faults.DuplicateName = 3
number_of faults.UnknownReactor = 4
number_of faults.RecursiveReactor = 5
number_of faults.UnknownName = 6
number_of faults.WrongPlace = 7
number_of faults.MainHasPorts = 8
number_of faults.TwoSources = 9
number_of faults.ConnectionCycle = 10
number_of faults.WidthMismatch = 11
number_of faults.NoTrigger = 12
number_of faults.DuplicateInput = 13
number_of faults.DelayTooLong = 14
number_of faults.TooMany = 15
number_of faults.NoMemory = 16

-- the causes of the names of reactors and of what they declare, with their numbers, in the order in which they are answered
abbrev pub first_causes : List ReactorTree → List (ℕ × Type 0)
first_causes reactors = (1, NoMain reactors) ∷ (2, TwoMains reactors) ∷ (3, DuplicateName reactors) ∷ (4, UnknownReactor reactors) ∷ []

-- the causes of what stands in each reactor, which are answered after the fifth
abbrev pub later_causes : List ReactorTree → List (ℕ × Type 0)
later_causes reactors =
    (6, UnknownName reactors) ∷ (7, WrongPlace reactors) ∷ (8, MainHasPorts reactors) ∷ (9, TwoSources reactors) ∷ (11, WidthMismatch reactors)
    ∷ (12, NoTrigger reactors) ∷ (13, DuplicateInput reactors) ∷ []

-- all causes in the order in which they are answered: 1 to 9, 11, 12, 13, 15, 10, 14
abbrev pub causes : FileTree → List (ℕ × Type 0)
causes tree = first_causes (reactors_of tree) ++ (5, RecursiveReactor (reactors_of tree)) ∷ later_causes (reactors_of tree) ++ (15, TooMany tree) ∷ (10, ConnectionCycle tree) ∷ (14, DelayTooLong tree) ∷ []

-- the cause of this number holds, and none before it
abbrev pub IsFirst : List (ℕ × Type 0) → ℕ → Type 0
IsFirst [] n = ⊥
IsFirst ((k, C) ∷ rest) n = ((n ≡ k) × C) ⊎ (¬ C × IsFirst rest n)

-- no cause holds
abbrev pub NoneHolds : List (ℕ × Type 0) → Type 0
NoneHolds [] = Unit {0}
NoneHolds ((k, C) ∷ rest) = ¬ C × NoneHolds rest
