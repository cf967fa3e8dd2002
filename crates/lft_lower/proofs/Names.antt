-- The names that a core tree declares.
use Rattle.std.proofs.Common.{ℕ, Bool, List, [], ◌∷◌, Option, Some, None, filter_map, map, sym, subst}
use Rattle.std.specs.Prelude.{IfSome, option_map}
use Rattle.std.{specs.List.{All, cons_option}, proofs.lemmas.List.Elements.{All-append, All-cons, All-head, All-map, All-nil, All-tail, All-weaker}}
use Rattle.lft_tree.specs.Identifiers.{HasIdentifiers, IsIdentifier, IsName, declared_names}
use Rattle.lft_tree.specs.Tree.{AssignmentTree, ConnectionMember, FileTree, InstanceMember, ItemTree, MemberTree, PortMember, ReactorTree, RefTree, TimeTree, TriggerTree, action_in, instance_in, port_in, reactor_in, timer_in}
use Rattle.lft_tree.proofs.Names.{IsName-identifier}
use Rattle.lft_whole.specs.declared.tree.{Member.Member, Reaction.Reaction}
use Rattle.lft_classes.specs.declared.shapes.Inherited.{Inherited}
use Rattle.lft_elaborate.{specs.{declared.settings.Settings.Settings, Channels.Channels.below}, proofs.Spelling.IsName-spelled}
use Rattle.lft_lower.specs.inner.Meanings.{Meanings.{Here, named_in}, Places.{count_of, name_at, names_of}}
use Rattle.lft_lower.specs.inner.Lowered.{AreConnected, AreInstances, AreLowered, AreTriggers, IsAsleep, IsLowered, IsLoweredReaction, added, each_pair, instances, known, more_members, no_instances, no_members, ports, runs, sleeps, some_instances, whole}
use Rattle.lft_lower.specs.inner.Reactors.{AreReactors, more_reactors, no_reactors}
use Rattle.lft_whole.specs.declared.tree.Member.TheVariants as member

-- of each kind of thing that the member declares the name is one
abbrev pub IsNamed : MemberTree → Type 0
IsNamed m = IfSome (port_in m) (λ x. IsName x.name) × IfSome (timer_in m) (λ x. IsName x.name) × IfSome (action_in m) (λ x. IsName x.name) × IfSome (instance_in m) (λ x. IsName x.name)

-- so are those of the members of a reactor
abbrev pub AllNamed : ItemTree → Type 0
AllNamed item = IfSome (reactor_in item) (λ r. All IsNamed r.members)

-- ---- what is so of each

each : {X : Type 0} (P : X → Type 0) → ((x : X) → P x) → (xs : List X) → All P xs
each P so [] = All-nil P
each P so (x ∷ xs) = All-cons P x xs (so x) (each P so xs)

in_front : {X : Type 0} (P : X → Type 0) (o : Option X) (xs : List X) → IfSome o P → All P xs → All P (cons_option o xs)
in_front P None xs h rest = rest
in_front P (Some x) xs h rest = All-cons P x xs h rest

all_seen : {X Y : Type 0} (see : X → Option Y) (P : Y → Type 0) (xs : List X) → All (λ x. IfSome (see x) P) xs → All P (filter_map see xs)
all_seen see P [] h = All-nil P
all_seen see P (x ∷ xs) h = in_front P (see x) (filter_map see xs) (All-head (λ y. IfSome (see y) P) x xs h) (all_seen see P xs (All-tail (λ y. IfSome (see y) P) x xs h))

-- ---- members

names_are : (h : Here) (name : List ℕ) (n : ℕ) → IsIdentifier name → All IsName (names_of (named_in h name n))
names_are h name n is =
    let thing = named_in h name n in
    All-map IsName (name_at thing) (below (count_of thing)) (each (λ k. IsName (name_at thing k)) (λ k. IsName-spelled name (option_map (λ _. k) thing.width) is) (below (count_of thing)))

abbrev port : Bool → List ℕ → MemberTree
port input q = PortMember (record { name = q; is_input = input })

port_named : (input : Bool) (q : List ℕ) → IsName q → IsNamed (port input q)
port_named input q is = (is, tt, tt, tt)

ports_named : (h : Here) (name : List ℕ) (n : ℕ) (input : Bool) → IsIdentifier name → All IsNamed (ports (named_in h name n) input)
ports_named h name n input is =
    let names = names_of (named_in h name n) in
    All-map IsNamed (port input) names (All-weaker IsName (λ q. IsNamed (port input q)) (port_named input) names (names_are h name n is))

abbrev instance : List ℕ → List AssignmentTree → List ℕ → MemberTree
instance reactor given q = InstanceMember (record { name = q; reactor = reactor; given = given })

instance_named : (reactor : List ℕ) (given : List AssignmentTree) (q : List ℕ) → IsName q → IsNamed (instance reactor given q)
instance_named reactor given q is = (tt, tt, tt, is)

instances_named : (h : Here) (name : List ℕ) (n : ℕ) (reactor : List ℕ) (given : List AssignmentTree) → IsIdentifier name → All IsNamed (instances (named_in h name n) reactor given)
instances_named h name n reactor given is =
    let names = names_of (named_in h name n) in
    All-map IsNamed (instance reactor given) names (All-weaker IsName (λ q. IsNamed (instance reactor given q)) (instance_named reactor given) names (names_are h name n is))

one_named : (m : MemberTree) → IsNamed m → All IsNamed (m ∷ [])
one_named m h = All-cons IsNamed m [] h (All-nil IsNamed)

are_instances : (names : List (Option (List ℕ))) (h : Here) (n : ℕ) (name : List ℕ) (ms : List MemberTree) → IsIdentifier name → AreInstances names h n name ms → All IsNamed ms
are_instances names h n name _ is (no_instances none) = All-nil IsNamed
are_instances names h n name _ is (some_instances reactor given at gives) = instances_named h name n reactor given is

are_connected : {left right : List RefTree} {broadcast : Bool} {delay : Option TimeTree} (ms : List MemberTree) → AreConnected left right broadcast delay ms → All IsNamed ms
are_connected _ (each_pair ms (cs, joins, is)) = subst (All IsNamed) (sym is) (All-map IsNamed ConnectionMember cs (each (λ c. IsNamed (ConnectionMember c)) (λ c. (tt, tt, tt, tt)) cs))
are_connected _ (whole one many) = one_named _ (tt, tt, tt, tt)

is_asleep : (h : Here) (name : List ℕ) (before : Option (List ℕ)) (ms : List MemberTree) → IsAsleep h name before ms → All IsNamed ms
is_asleep h name _ _ known = All-nil IsNamed
is_asleep h name _ _ (added free is) = one_named _ (tt, tt, is, tt)

are_triggers : (h : Here) (r : Reaction) (before after : Option (List ℕ)) (ms : List MemberTree) (ts : List TriggerTree) → AreTriggers h r before ms after ts → All IsNamed ms
are_triggers h r _ _ _ _ (runs before some) = All-nil IsNamed
are_triggers h r _ _ _ _ (sleeps name before more some none asleep) = is_asleep h name before more asleep

is_reaction : (h : Here) (r : Reaction) (before after : Option (List ℕ)) (ms : List MemberTree) → IsLoweredReaction h r before ms after → All IsNamed ms
is_reaction h r before after ms (ts, more, are, is) = subst (All IsNamed) (sym is) (All-append IsNamed more _ (are_triggers h r before after more ts are) (one_named _ (tt, tt, tt, tt)))

is_lowered : (names : List (Option (List ℕ))) (h : Here) (n : ℕ) (before after : Option (List ℕ)) (ms : List MemberTree) (m : Member) → IsLowered names h n before ms after m → All IsNamed ms
is_lowered names h n before after ms (member.Port port) (same, is) = subst (All IsNamed) (sym is) (ports_named h _ n port.is_input port.name.free.0)
is_lowered names h n before after ms (member.Timer timer) (same, offset, period, is) = subst (All IsNamed) (sym is) (one_named _ (tt, IsName-identifier _ timer.name.free.0, tt, tt))
is_lowered names h n before after ms (member.Action action) (same, read, spaced, is) = subst (All IsNamed) (sym is) (one_named _ (tt, tt, IsName-identifier _ action.name.free.0, tt))
is_lowered names h n before after ms (member.Reaction reaction) (means, is) = is_reaction h reaction before after ms is
is_lowered names h n before after ms (member.Instance instance) (same, are) = are_instances names h n _ ms instance.name.free.0 are
is_lowered names h n before after ms (member.Connection c) (same, logical, mean, read, are) = are_connected ms are
is_lowered names h n before after ms (member.Foreign what at) none = absurd none

are_lowered : (names : List (Option (List ℕ))) (h : Here) (members : List Inherited) (ms : List MemberTree) (never : Option (List ℕ)) → AreLowered names h members ms never → All IsNamed ms
are_lowered names h _ _ _ no_members = All-nil IsNamed
are_lowered names h _ _ _ (more_members front m done new before after so_far measured one) = All-append IsNamed done new (are_lowered names h front done before so_far) (is_lowered names h _ before after new m.member.now one)

-- ---- reactors

are_reactors : (s : Settings) (names : List (Option (List ℕ))) (settings : List ℕ) (items : List ItemTree) → AreReactors s names settings items → All AllNamed items
are_reactors s names _ _ no_reactors = All-nil AllNamed
are_reactors s names _ _ (more_reactors front setting shape items r so_far there is) = All-append AllNamed items _ (are_reactors s names front items so_far) (All-cons AllNamed _ [] (are_lowered names _ shape.members.items r.members is.members.0 is.members.1) (All-nil AllNamed))

kind_named : {X : Type 0} (see : MemberTree → Option X) (name_of : X → List ℕ) → ((m : MemberTree) → IsNamed m → IfSome (see m) (λ x. IsName (name_of x))) → (ms : List MemberTree) → All IsNamed ms → All IsName (map name_of (filter_map see ms))
kind_named see name_of so ms h = All-map IsName name_of (filter_map see ms) (all_seen see (λ x. IsName (name_of x)) ms (All-weaker IsNamed _ so ms h))

reactor_named : (r : ReactorTree) → All IsNamed r.members → All IsName (declared_names r)
reactor_named r h =
    All-append IsName _ _ (All-append IsName _ _ (All-append IsName _ _
    (kind_named port_in (λ x. x.name) (λ m is. is.0) r.members h)
    (kind_named timer_in (λ x. x.name) (λ m is. is.1) r.members h))
    (kind_named action_in (λ x. x.name) (λ m is. is.2) r.members h))
    (kind_named instance_in (λ x. x.name) (λ m is. is.3) r.members h)

item_named : (item : ItemTree) → AllNamed item → IfSome (reactor_in item) (λ r. All IsName (declared_names r))
item_named item h = of (reactor_in item) h
  where
    of : (o : Option ReactorTree) → IfSome o (λ r. All IsNamed r.members) → IfSome o (λ r. All IsName (declared_names r))
    of None is = tt
    of (Some r) is = reactor_named r is

-- the names that the core reactors of settings declare are names
pub has_identifiers : (s : Settings) (names : List (Option (List ℕ))) (settings : List ℕ) (tree : FileTree) → AreReactors s names settings tree.items → HasIdentifiers tree
has_identifiers s names settings tree are = all_seen reactor_in (λ r. All IsName (declared_names r)) tree.items (All-weaker AllNamed _ item_named tree.items (are_reactors s names settings tree.items are))
