-- What each finding says of a member of a reactor.
use Rattle.std.specs.Prelude.{◌≡◌, ◌≢◌, ℕ, ◌<◌, List, length, Some, None, true, false, slice_get, map, Contains, string_bytes, []}
use Rattle.lft_tree.specs.{Tree.{ReactorTree, TimeTree, Named}, View.{assignment_view, ref_view, time_view}}
use Rattle.lft_tree.specs.declared.tree.{Assignment.Assignment, Instance.Instance, Member.Member, Reaction.Reaction, Reference.Reference}
use Rattle.lft_resolve.specs.{Instances.reactor_named, Kinds.{kind_of, own_kind, may_stand}, Causes.{IsUnknownTime, LacksParameter, IsLongTime}}
use Rattle.lft_resolve.specs.declared.{kinds.{Kind.{Kind, TheVariants.OwnParameter}, Role.Role}, causes.ProgramFault.ProgramFault}
use Rattle.lft_validate.specs.{Members.{names_of, times_of}, declared.{finding.Finding.Finding, placed.NameAt.NameAt}}
use Rattle.lft_tree.specs.declared.tree.Member.TheVariants as members
use Rattle.lft_resolve.specs.declared.causes.ProgramFault.TheVariants as faults
use Rattle.lft_validate.specs.declared.finding.Finding.TheVariants as finding

-- both stand in the list, the one before the other
abbrev pub IsBefore : {X : Type 0} → List X → X → X → Type 0
IsBefore {X} xs a b = (i : ℕ) × (j : ℕ) × (i < j) × (slice_get xs i ≡ Some a) × (slice_get xs j ≡ Some b)

-- both stand in the list, the one before the other, and they are called the same
abbrev pub StandsTwice : {X Y : Type 0} → (X → Y) → List X → X → X → Type 0
StandsTwice called xs a b = IsBefore xs a b × (called a ≡ called b)

-- a name and its token
abbrev pub name_at : NameAt → List ℕ × ℕ
name_at n = (n.name.now, n.at)

-- the instance is of a reactor that isn't among these
abbrev pub IsOfNone : List ReactorTree → Instance → Type 0
IsOfNone reactors i = reactor_named reactors (string_bytes i.reactor) ≡ None

-- the name is nothing in the reactor
abbrev pub IsNothing : List ReactorTree → ReactorTree → Reference → Type 0
IsNothing reactors r x = kind_of reactors r (ref_view x) ≡ None

-- the value is for what isn't a parameter of the new reactor
abbrev pub IsForNone : List ReactorTree → Instance → Assignment → Type 0
IsForNone reactors i a = (inner : ReactorTree) × (reactor_named reactors (string_bytes i.reactor) ≡ Some inner) × LacksParameter inner (assignment_view a)

-- the name is something of this kind, which may not have the role
abbrev pub IsWrongKind : List ReactorTree → ReactorTree → Role → Kind → Reference → Type 0
IsWrongKind reactors r role kind x = (kind_of reactors r (ref_view x) ≡ Some kind) × (may_stand role kind ≡ false)

-- the time names something of this kind, which is no parameter
abbrev pub IsWrongTime : ReactorTree → Kind → TimeTree → Type 0
IsWrongTime r kind (Named name) = (own_kind r name ≡ Some kind) × (kind ≢ OwnParameter)
IsWrongTime r kind _ = ⊥

-- what the finding says of a member of the reactor, in a file with these reactors
abbrev pub IsFinding : List ReactorTree → ReactorTree → Member → Finding → Type 0
IsFinding reactors r m (finding.GivenTwice i first second) = (m ≡ members.Instance i.now) × StandsTwice (λ p. p.0) (map (λ a. (string_bytes a.name, a.at)) i.now.given.items) (name_at first) (name_at second)
IsFinding reactors r m (finding.UnknownReactor i) = (m ≡ members.Instance i.now) × IsOfNone reactors i.now
IsFinding reactors r m (finding.UnknownName x) = (role : Role) × Contains (names_of role m) x.now × IsNothing reactors r x.now
IsFinding reactors r m (finding.UnknownTime t) = Contains (times_of m) t.now × IsUnknownTime r (time_view t.now)
IsFinding reactors r m (finding.UnknownParameter i a) = (m ≡ members.Instance i.now) × Contains i.now.given.items a.now × IsForNone reactors i.now a.now
IsFinding reactors r m (finding.WrongPlace role x kind) = Contains (names_of role m) x.now × IsWrongKind reactors r role kind x.now
IsFinding reactors r m (finding.WrongTime t kind) = Contains (times_of m) t.now × IsWrongTime r kind (time_view t.now)
IsFinding reactors r m (finding.MainHasPort p) = (m ≡ members.Port p.now) × (r.is_main ≡ true)
IsFinding reactors r m (finding.WidthMismatch c) = (m ≡ members.Connection c.now) × (length c.now.sources.items ≢ length c.now.destinations.items)
IsFinding reactors r m (finding.NoTrigger x) = (m ≡ members.Reaction x.now) × (x.now.triggers.items ≡ [])
IsFinding reactors r m (finding.NamedTwice role first second) = (x : Reaction) × (m ≡ members.Reaction x) × StandsTwice ref_view (names_of role m) first.now second.now
IsFinding reactors r m (finding.LongTime t) = Contains (times_of m) t.now × IsLongTime (time_view t.now)

-- the cause that a finding shows
abbrev pub fault_found : Finding → ProgramFault
fault_found (finding.GivenTwice i first second) = faults.DuplicateName
fault_found (finding.UnknownReactor i) = faults.UnknownReactor
fault_found (finding.UnknownName x) = faults.UnknownName
fault_found (finding.UnknownTime t) = faults.UnknownName
fault_found (finding.UnknownParameter i a) = faults.UnknownName
fault_found (finding.WrongPlace role x kind) = faults.WrongPlace
fault_found (finding.WrongTime t kind) = faults.WrongPlace
fault_found (finding.MainHasPort p) = faults.MainHasPorts
fault_found (finding.WidthMismatch c) = faults.WidthMismatch
fault_found (finding.NoTrigger x) = faults.NoTrigger
fault_found (finding.NamedTwice role first second) = faults.DuplicateInput
fault_found (finding.LongTime t) = faults.DelayTooLong
