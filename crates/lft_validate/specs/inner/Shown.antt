-- What one member of a reactor shows of a cause.
use Rattle.std.specs.Prelude.{◌≡◌, ◌≢◌, ◌⊎◌, List, None, Any, IsSome, IsSomeAnd, length, map, true, []}
use Rattle.lft_tree.specs.{Tree.{ReactorTree, RefTree, connection_in, instance_in, port_in, reaction_in}, View.{member_view, reactor_view, ref_view, time_view}}
use Rattle.lft_tree.specs.declared.tree.{Member.Member, Reactor.Reactor}
use Rattle.lft_resolve.specs.{Instances.reactor_named, Kinds.kind_of}
use Rattle.lft_resolve.specs.Causes.{GivesTwice, GivesUnknown, IsLongTime, IsUnknownTime, IsMisplaced, IsMisplacedTime, NamesTwice}
use Rattle.lft_resolve.specs.declared.{causes.ProgramFault.ProgramFault, kinds.Role.Role}
use Rattle.lft_validate.specs.Members.{names_of, times_of}
use Rattle.lft_resolve.specs.declared.causes.ProgramFault.TheVariants as faults

-- some name of the member has this, with its role
abbrev pub SomeName : (Role × RefTree → Type 0) → Member → Type 0
SomeName P m = (role : Role) × Any (λ x. P (role, ref_view x)) (names_of role m)

-- some name, time or value of the member is for what isn't there
abbrev pub ShowsUnknown : List ReactorTree → ReactorTree → Member → Type 0
ShowsUnknown reactors r m = SomeName (λ n. kind_of reactors r n.1 ≡ None) m ⊎ Any (λ t. IsUnknownTime r (time_view t)) (times_of m) ⊎ IsSomeAnd (instance_in (member_view m)) (GivesUnknown reactors)

-- some name or time of the member may not stand where it does
abbrev pub ShowsMisplaced : List ReactorTree → ReactorTree → Member → Type 0
ShowsMisplaced reactors r m = SomeName (IsMisplaced reactors r) m ⊎ Any (λ t. IsMisplacedTime r (time_view t)) (times_of m)

-- the member of the reactor alone has what the cause says
abbrev pub ShowsCause : List ReactorTree → ReactorTree → Member → ProgramFault → Type 0
ShowsCause reactors r m faults.DuplicateName = IsSomeAnd (instance_in (member_view m)) GivesTwice
ShowsCause reactors r m faults.UnknownReactor = IsSomeAnd (instance_in (member_view m)) (λ i. reactor_named reactors i.reactor ≡ None)
ShowsCause reactors r m faults.UnknownName = ShowsUnknown reactors r m
ShowsCause reactors r m faults.WrongPlace = ShowsMisplaced reactors r m
ShowsCause reactors r m faults.MainHasPorts = (r.is_main ≡ true) × IsSome (port_in (member_view m))
ShowsCause reactors r m faults.WidthMismatch = IsSomeAnd (connection_in (member_view m)) (λ c. length c.sources ≢ length c.destinations)
ShowsCause reactors r m faults.NoTrigger = IsSomeAnd (reaction_in (member_view m)) (λ x. x.triggers ≡ [])
ShowsCause reactors r m faults.DuplicateInput = IsSomeAnd (reaction_in (member_view m)) NamesTwice
ShowsCause reactors r m faults.DelayTooLong = Any (λ t. IsLongTime (time_view t)) (times_of m)
ShowsCause reactors r m _ = ⊥

-- some member of some reactor does
abbrev pub SomeShows : List Reactor → ProgramFault → Type 0
SomeShows reactors cause = Any (λ r. Any (λ m. ShowsCause (map reactor_view reactors) (reactor_view r) m cause) r.members.items) reactors
