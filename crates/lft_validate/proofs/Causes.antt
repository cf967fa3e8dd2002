-- Where a cause of refusal holds, some member of some reactor shows it, and it holds where one does.
use Rattle.std.proofs.Common.{◌≡◌, ◌≢◌, ◌<◌, ℕ, true, List, [], map, Option, Some, None, Any, IsSome, IsSomeAnd, ◌⊎◌, inl, inr, ⊎_elim, length, string_bytes, refl, sym, ap, subst, ◌∙◌}
use Rattle.std.proofs.lemmas.{List.length-map, Simd.map-map}
use Rattle.lft_tree.specs.Tree.{ReactorTree, ConnectionTree, ReactionTree, TimeTree, Written, Named, PortTree, nanoseconds, port_in, reaction_in, instance_in, connection_in, ports_of}
use Rattle.lft_tree.specs.View.{assignment_view, member_view, reactor_view, ref_view, time_view, trigger_view}
use Rattle.lft_tree.specs.declared.tree.{Assignment.Assignment, Member.Member, Reaction.Reaction, Reactor.Reactor, Reference.Reference}
use Rattle.lft_resolve.specs.{Instances.reactor_named, Kinds.{kind_of, times_in}}
use Rattle.lft_resolve.specs.Causes.{IsTwice, GivesTwice, GivesUnknown, LacksReactor, LacksParameter, IsUnknownTime, IsMisplaced, IsMisplacedTime, NamesTwice, NamesNothing, Misplaces, DeclaresTwice, DuplicateName, IsLongTime, HasLongTime, UnknownReactor, UnknownName, WrongPlace, MainHasPorts, WidthMismatch, NoTrigger, DuplicateInput, DiffersInWidth, LacksTrigger, RepeatsName, SomeGivesTwice, longest}
use Rattle.lft_resolve.specs.declared.{causes.ProgramFault.ProgramFault, kinds.{Kind.Kind, Role.{Role, TheVariants.{Read, Effect, Source, Destination}}}}
use Rattle.lft_resolve.proofs.{Somes.{Any-weaker, kept, unkept, something, some_of}, Lacking.{Any-either, Any-map}}
use Rattle.lft_validate.specs.{Members.{names_of, times_of}, Findings.{IsFinding, IsWrongTime, StandsTwice, fault_found}}
use Rattle.lft_validate.specs.inner.{Shown.{SomeName, SomeShows, ShowsCause, ShowsUnknown, ShowsMisplaced}, Witnesses.CauseSays}
use Rattle.lft_validate.specs.declared.finding.Finding.{Finding}
use Rattle.lft_validate.proofs.{InMembers.{HasTime, reading, some_name, its_name, some_time, its_time}, Listing.{of_kind, some_in, to_kind, twice_of, unmapped}}
use Rattle.lft_resolve.specs.declared.causes.ProgramFault.TheVariants as faults
use Rattle.lft_validate.specs.declared.finding.Finding.TheVariants as finding
use Rattle.lft_tree.specs.declared.tree.Member.TheVariants as members

-- ---- what one member shows, in the words of the cause

-- the parameters to which values are given
pub given_names : (values : List Assignment) → map (λ (p : List ℕ × ℕ). p.0) (map (λ a. (string_bytes a.name, a.at)) values) ≡ map (λ a. a.name) (map assignment_view values)
given_names values = map-map (λ (p : List ℕ × ℕ). p.0) (λ (a : Assignment). (string_bytes a.name, a.at)) values ∙ sym (map-map (λ a. a.name) assignment_view values)

no_two : (a b : Reference) → StandsTwice ref_view [] a b → ⊥
no_two a b ((i, j, lt, first, second), same) = absurd (cc)

names_twice : (role : Role) (x : Reaction) (a b : Reference) → StandsTwice ref_view (names_of role (members.Reaction x)) a b → IsSomeAnd (reaction_in (member_view (members.Reaction x))) NamesTwice
names_twice Read x a b two = inl (subst IsTwice (sym (reading x)) (twice_of ref_view (names_of Read (members.Reaction x)) a b two))
names_twice Effect x a b two = inr (twice_of ref_view x.effects.items a b two)
names_twice Source x a b two = absurd (no_two a b two)
names_twice Destination x a b two = absurd (no_two a b two)

misplaced : (r : ReactorTree) (kind : Kind) (t : TimeTree) → IsWrongTime r kind t → IsMisplacedTime r t
misplaced r kind (Written t) w = absurd w
misplaced r kind (Named name) w = (kind, w.0, w.1)

abbrev DiffersAt : ConnectionTree → Type 0
DiffersAt c = length c.sources ≢ length c.destinations

abbrev HasNone : ReactionTree → Type 0
HasNone x = x.triggers ≡ []

module _ (rs : List ReactorTree) (r : ReactorTree) (m : Member) where
  abbrev IsOfUnknown : Member → Type 0
  IsOfUnknown m = IsSomeAnd (instance_in (member_view m)) (λ i. reactor_named rs i.reactor ≡ None)

  in_words : (f : Finding) → IsFinding rs r m f → ShowsCause rs r m (fault_found f)
  in_words (finding.GivenTwice i a b) (is, two) = subst (λ m. IsSomeAnd (instance_in (member_view m)) GivesTwice) (sym is) (subst IsTwice (given_names i.now.given.items) (twice_of (λ (p : List ℕ × ℕ). p.0) (map (λ a. (string_bytes a.name, a.at)) i.now.given.items) _ _ two))
  in_words (finding.UnknownReactor i) (is, none) = subst IsOfUnknown (sym is) none
  in_words (finding.UnknownName x) (role, stands, none) = inl (role, some_in (λ x. kind_of rs r (ref_view x) ≡ None) (names_of role m) x.now stands none)
  in_words (finding.UnknownTime t) (stands, u) = inr (inl (some_in (λ t. IsUnknownTime r (time_view t)) (times_of m) t.now stands u))
  in_words (finding.UnknownParameter i a) (is, stands, (inner, named, lacks)) = inr (inr (subst (λ m. IsSomeAnd (instance_in (member_view m)) (GivesUnknown rs)) (sym is) (inner, named, Any-map (LacksParameter inner) assignment_view i.now.given.items (some_in (λ a. LacksParameter inner (assignment_view a)) i.now.given.items a.now stands lacks))))
  in_words (finding.WrongPlace role x kind) (stands, wrong) = inl (role, some_in (λ x. IsMisplaced rs r (role, ref_view x)) (names_of role m) x.now stands (kind, wrong.0, wrong.1))
  in_words (finding.WrongTime t kind) (stands, w) = inr (some_in (λ t. IsMisplacedTime r (time_view t)) (times_of m) t.now stands (misplaced r kind (time_view t.now) w))
  in_words (finding.MainHasPort p) (is, main) = (main, subst (λ m. IsSome (port_in (member_view m))) (sym is) refl)
  in_words (finding.WidthMismatch c) (is, differ) = subst (λ m. IsSomeAnd (connection_in (member_view m)) DiffersAt) (sym is) (λ same. differ (sym (length-map c.now.sources.items ref_view) ∙ same ∙ length-map c.now.destinations.items ref_view))
  in_words (finding.NoTrigger x) (is, none) = subst (λ m. IsSomeAnd (reaction_in (member_view m)) HasNone) (sym is) (ap (map trigger_view) none)
  in_words (finding.NamedTwice role a b) (x, is, two) = subst (λ m. IsSomeAnd (reaction_in (member_view m)) NamesTwice) (sym is) (names_twice role x a.now b.now (subst (λ m. StandsTwice ref_view (names_of role m) a.now b.now) is two))
  in_words (finding.LongTime t) (stands, long) = some_in (λ t. IsLongTime (time_view t)) (times_of m) t.now stands long

  -- a member alone shows no other cause
  pub no_other : (c : ProgramFault) → c ≢ faults.DuplicateName → c ≢ faults.UnknownReactor → c ≢ faults.UnknownName → c ≢ faults.WrongPlace → c ≢ faults.MainHasPorts → c ≢ faults.WidthMismatch → c ≢ faults.NoTrigger → c ≢ faults.DuplicateInput → c ≢ faults.DelayTooLong → ShowsCause rs r m c → ⊥
  no_other faults.DuplicateName n _ _ _ _ _ _ _ _ w = n refl
  no_other faults.UnknownReactor _ n _ _ _ _ _ _ _ w = n refl
  no_other faults.UnknownName _ _ n _ _ _ _ _ _ w = n refl
  no_other faults.WrongPlace _ _ _ n _ _ _ _ _ w = n refl
  no_other faults.MainHasPorts _ _ _ _ n _ _ _ _ w = n refl
  no_other faults.WidthMismatch _ _ _ _ _ n _ _ _ w = n refl
  no_other faults.NoTrigger _ _ _ _ _ _ n _ _ w = n refl
  no_other faults.DuplicateInput _ _ _ _ _ _ _ n _ w = n refl
  no_other faults.DelayTooLong _ _ _ _ _ _ _ _ n w = n refl
  no_other _ _ _ _ _ _ _ _ _ _ w = w

-- ---- what the reactors show

module _ (reactors : List Reactor) where
  abbrev rs : List ReactorTree
  rs = map reactor_view reactors

  -- some member of the reactor has what the cause says
  abbrev Within : ProgramFault → Reactor → Type 0
  Within c r = Any (λ m. ShowsCause rs (reactor_view r) m c) r.members.items

  -- what is so of each reactor is so of some
  to : (c : ProgramFault) (P : ReactorTree → Type 0) → ((r : Reactor) → P (reactor_view r) → Within c r) → Any P rs → SomeShows reactors c
  to c P follows a = Any-weaker (λ r. P (reactor_view r)) (Within c) follows reactors (unmapped P reactor_view reactors a)

  from : (c : ProgramFault) (P : ReactorTree → Type 0) → ((r : Reactor) → Within c r → P (reactor_view r)) → SomeShows reactors c → Any P rs
  from c P follows a = Any-map P reactor_view reactors (Any-weaker (Within c) (λ r. P (reactor_view r)) follows reactors a)

  module _ (r : Reactor) where
    abbrev tree : ReactorTree
    tree = reactor_view r

    abbrev ms : List Member
    ms = r.members.items

    nothing : NamesNothing rs tree → Any (ShowsUnknown rs tree) ms
    nothing a = ⊎_elim
        (λ n. Any-weaker (SomeName (λ n. kind_of rs tree n.1 ≡ None)) (ShowsUnknown rs tree) (λ m h. inl h) ms (some_name (λ n. kind_of rs tree n.1 ≡ None) r n))
        (λ b. ⊎_elim
        (λ t. Any-weaker (HasTime (IsUnknownTime tree)) (ShowsUnknown rs tree) (λ m h. inr (inl h)) ms (some_time (IsUnknownTime tree) r t))
        (λ g. Any-weaker (λ m. IsSomeAnd (instance_in (member_view m)) (GivesUnknown rs)) (ShowsUnknown rs tree) (λ m h. inr (inr h)) ms (of_kind instance_in (GivesUnknown rs) ms g))
        b)
        a

    names_nothing : Any (ShowsUnknown rs tree) ms → NamesNothing rs tree
    names_nothing a = ⊎_elim
        (λ n. inl (its_name (λ n. kind_of rs tree n.1 ≡ None) r n))
        (λ b. ⊎_elim
        (λ t. inr (inl (its_time (IsUnknownTime tree) r t)))
        (λ g. inr (inr (to_kind instance_in (GivesUnknown rs) ms g)))
        (Any-either (HasTime (IsUnknownTime tree)) (λ m. IsSomeAnd (instance_in (member_view m)) (GivesUnknown rs)) ms b))
        (Any-either (SomeName (λ n. kind_of rs tree n.1 ≡ None)) (λ m. HasTime (IsUnknownTime tree) m ⊎ IsSomeAnd (instance_in (member_view m)) (GivesUnknown rs)) ms a)

    misplaces : Misplaces rs tree → Any (ShowsMisplaced rs tree) ms
    misplaces a = ⊎_elim
        (λ n. Any-weaker (SomeName (IsMisplaced rs tree)) (ShowsMisplaced rs tree) (λ m h. inl h) ms (some_name (IsMisplaced rs tree) r n))
        (λ t. Any-weaker (HasTime (IsMisplacedTime tree)) (ShowsMisplaced rs tree) (λ m h. inr h) ms (some_time (IsMisplacedTime tree) r t))
        a

    misplaces_some : Any (ShowsMisplaced rs tree) ms → Misplaces rs tree
    misplaces_some a = ⊎_elim (λ n. inl (its_name (IsMisplaced rs tree) r n)) (λ t. inr (its_time (IsMisplacedTime tree) r t)) (Any-either (SomeName (IsMisplaced rs tree)) (HasTime (IsMisplacedTime tree)) ms a)

  is_some : (o : Option PortTree) → IsSomeAnd o (λ _. Unit {0}) → IsSome o
  is_some None a = absurd a
  is_some (Some x) a = refl

  port_there : (o : Option PortTree) → IsSome o → IsSomeAnd o (λ _. Unit {0})
  port_there None is = absurd (cc)
  port_there (Some x) is = tt

  abbrev IsPort : Member → Type 0
  IsPort m = IsSomeAnd (port_in (member_view m)) (λ _. Unit {0})

  abbrev IsMainWithPorts : ReactorTree → Type 0
  IsMainWithPorts r = (r.is_main ≡ true) × (ports_of r ≢ [])

  has_port : (r : Reactor) → IsMainWithPorts (reactor_view r) → Within faults.MainHasPorts r
  has_port r (main, some) = Any-weaker IsPort (λ m. ShowsCause rs (reactor_view r) m faults.MainHasPorts) (λ m h. (main, is_some (port_in (member_view m)) h)) r.members.items (of_kind port_in (λ _. Unit {0}) r.members.items (some_of (ports_of (reactor_view r)) some))

  some_port : (r : Reactor) → Within faults.MainHasPorts r → IsMainWithPorts (reactor_view r)
  some_port r a = (a.4.0, something (ports_of (reactor_view r)) (to_kind port_in (λ _. Unit {0}) r.members.items (Any-weaker (λ m. ShowsCause rs (reactor_view r) m faults.MainHasPorts) IsPort (λ m h. port_there (port_in (member_view m)) h.1) r.members.items a)))

  -- where a cause that is looked for in members holds, some member has what it says
  pub by_member : (c : ProgramFault) → c ≢ faults.NoMain → c ≢ faults.TwoMains → c ≢ faults.DuplicateName → c ≢ faults.TwoSources → c ≢ faults.DelayTooLong → CauseSays rs c → SomeShows reactors c
  unfolding UnknownReactor UnknownName WrongPlace MainHasPorts WidthMismatch NoTrigger DuplicateInput
  by_member faults.NoMain n _ _ _ _ a = absurd (n refl)
  by_member faults.TwoMains _ n _ _ _ a = absurd (n refl)
  by_member faults.DuplicateName _ _ n _ _ a = absurd (n refl)
  by_member faults.TwoSources _ _ _ n _ a = absurd (n refl)
  by_member faults.DelayTooLong _ _ _ _ n a = absurd (n refl)
  by_member faults.UnknownReactor _ _ _ _ _ a = to faults.UnknownReactor (LacksReactor rs) (λ r. of_kind instance_in (λ i. reactor_named rs i.reactor ≡ None) r.members.items) a
  by_member faults.UnknownName _ _ _ _ _ a = to faults.UnknownName (NamesNothing rs) nothing a
  by_member faults.WrongPlace _ _ _ _ _ a = to faults.WrongPlace (Misplaces rs) misplaces a
  by_member faults.MainHasPorts _ _ _ _ _ a = to faults.MainHasPorts IsMainWithPorts has_port (unkept (λ r. r.is_main) (λ r. ports_of r ≢ []) rs a)
  by_member faults.WidthMismatch _ _ _ _ _ a = to faults.WidthMismatch DiffersInWidth (λ r. of_kind connection_in DiffersAt r.members.items) a
  by_member faults.NoTrigger _ _ _ _ _ a = to faults.NoTrigger LacksTrigger (λ r. of_kind reaction_in HasNone r.members.items) a
  by_member faults.DuplicateInput _ _ _ _ _ a = to faults.DuplicateInput RepeatsName (λ r. of_kind reaction_in NamesTwice r.members.items) a
  by_member _ _ _ _ _ _ a = absurd a

  -- where some member has what a cause says, it holds
  holds : (c : ProgramFault) → SomeShows reactors c → CauseSays rs c
  unfolding DuplicateName UnknownReactor UnknownName WrongPlace MainHasPorts WidthMismatch NoTrigger DuplicateInput
  holds faults.DuplicateName a = inr (from faults.DuplicateName DeclaresTwice (λ r b. inr (to_kind instance_in GivesTwice r.members.items b)) a)
  holds faults.UnknownReactor a = from faults.UnknownReactor (LacksReactor rs) (λ r. to_kind instance_in (λ i. reactor_named rs i.reactor ≡ None) r.members.items) a
  holds faults.UnknownName a = from faults.UnknownName (NamesNothing rs) names_nothing a
  holds faults.WrongPlace a = from faults.WrongPlace (Misplaces rs) misplaces_some a
  holds faults.MainHasPorts a = kept (λ r. r.is_main) (λ r. ports_of r ≢ []) rs (from faults.MainHasPorts IsMainWithPorts some_port a)
  holds faults.WidthMismatch a = from faults.WidthMismatch DiffersInWidth (λ r. to_kind connection_in DiffersAt r.members.items) a
  holds faults.NoTrigger a = from faults.NoTrigger LacksTrigger (λ r. to_kind reaction_in HasNone r.members.items) a
  holds faults.DuplicateInput a = from faults.DuplicateInput RepeatsName (λ r. to_kind reaction_in NamesTwice r.members.items) a
  holds faults.DelayTooLong a = from faults.DelayTooLong HasLongTime (λ r b. inr (its_time IsLongTime r b)) a
  holds _ a = absurd (a.4.4)

  pub shows_given_twice : Any SomeGivesTwice rs → SomeShows reactors faults.DuplicateName
  shows_given_twice a = to faults.DuplicateName SomeGivesTwice (λ r. of_kind instance_in GivesTwice r.members.items) a

  abbrev HasLongDefault : ReactorTree → Type 0
  HasLongDefault r = Any (λ p. longest < nanoseconds p.default) r.parameters

  pub long : Any HasLongTime rs → Any HasLongDefault rs ⊎ SomeShows reactors faults.DelayTooLong
  long a = ⊎_elim (λ d. inl d) (λ t. inr (to faults.DelayTooLong (λ r. Any IsLongTime (times_in r)) (λ r. some_time IsLongTime r) t)) (Any-either HasLongDefault (λ r. Any IsLongTime (times_in r)) rs a)

  -- the cause of a finding holds
  pub found : (f : Finding) → Any (λ r. Any (λ m. IsFinding rs (reactor_view r) m f) r.members.items) reactors → CauseSays rs (fault_found f)
  found f a = holds (fault_found f) (Any-weaker (λ r. Any (λ m. IsFinding rs (reactor_view r) m f) r.members.items) (Within (fault_found f)) (λ r. Any-weaker (λ m. IsFinding rs (reactor_view r) m f) (λ m. ShowsCause rs (reactor_view r) m (fault_found f)) (λ m. in_words rs (reactor_view r) m f) r.members.items) reactors a)
