-- A witness gives its cause.
use Rattle.std.proofs.Common.{◌≡◌, ℕ, zero, suc, ◌<◌, true, List, [], ◌∷◌, ◌++◌, map, flat_map, filter_map, string_bytes, take, get_or, length, Option, Some, None, option_map, Any, Contains, IsSomeAnd, inl, inr, refl, sym, ap, subst, ◌∙◌, arith}
use Rattle.std.{specs.{Prelude.slice_get, List.cons_option}, proofs.lemmas.List.map-append}
use Rattle.lft_tree.specs.{Tree.{ReactorTree, nanoseconds, connection_in, reaction_in}, View.{member_view, parameter_view, reactor_view, ref_view}}
use Rattle.lft_tree.specs.declared.tree.{Member.Member, Reactor.Reactor, Reference.Reference}
use Rattle.lft_resolve.specs.Kinds.{destinations_in, effects_in}
use Rattle.lft_resolve.specs.Causes.{IsTwice, DeclaresTwice, DuplicateName, TwoSources, WritesTwice, HasLongTime, longest, IsFirst, NoneHolds, number_of}
use Rattle.lft_resolve.specs.declared.{causes.ProgramFault.ProgramFault, kinds.Role.TheVariants.{Effect, Destination}}
use Rattle.lft_resolve.proofs.{Somes.{Any-head, Any-tail, Any-Contains}, Lacking.Any-map}
use Rattle.lft_validate.specs.{Members.{all_names, declarations, names_of, own_name}, Findings.{IsFinding, StandsTwice}}
use Rattle.lft_validate.specs.{inner.{Members.IsMainAt, Witnesses.{IsFirstShown, CauseSays, causes_in_order}}, Witnesses.{Shows, fault_shown}}
use Rattle.lft_validate.specs.declared.witness.Witness.{Witness}
use Rattle.lft_validate.proofs.{Causes.found, DeclaredNames.named_twice, Listing.{some_in, twice_of}, TwoMains.both_main}
use Rattle.lft_tree.specs.declared.tree.Member.TheVariants as members
use Rattle.lft_validate.specs.declared.witness.Witness.TheVariants as witness

-- ---- ports that are written at two places

joined_in : (ms : List Member) → map ref_view (flat_map (names_of Destination) ms) ≡ flat_map (λ c. c.destinations) (filter_map connection_in (map member_view ms))
joined_in [] = refl
joined_in (members.Connection x ∷ ms) = map-append ref_view x.destinations.items (flat_map (names_of Destination) ms) ∙ ap (λ l. map ref_view x.destinations.items ++ l) (joined_in ms)
joined_in (members.Port x ∷ ms) = joined_in ms
joined_in (members.Timer x ∷ ms) = joined_in ms
joined_in (members.Action x ∷ ms) = joined_in ms
joined_in (members.State x ∷ ms) = joined_in ms
joined_in (members.Preamble x ∷ ms) = joined_in ms
joined_in (members.Reaction x ∷ ms) = joined_in ms
joined_in (members.Instance x ∷ ms) = joined_in ms

written_in : (ms : List Member) → map ref_view (flat_map (names_of Effect) ms) ≡ flat_map (λ x. x.effects) (filter_map reaction_in (map member_view ms))
written_in [] = refl
written_in (members.Reaction x ∷ ms) = map-append ref_view x.effects.items (flat_map (names_of Effect) ms) ∙ ap (λ l. map ref_view x.effects.items ++ l) (written_in ms)
written_in (members.Port x ∷ ms) = written_in ms
written_in (members.Timer x ∷ ms) = written_in ms
written_in (members.Action x ∷ ms) = written_in ms
written_in (members.State x ∷ ms) = written_in ms
written_in (members.Preamble x ∷ ms) = written_in ms
written_in (members.Connection x ∷ ms) = written_in ms
written_in (members.Instance x ∷ ms) = written_in ms

pub all_destinations : (r : Reactor) → map ref_view (all_names Destination r) ≡ destinations_in (reactor_view r)
all_destinations r = joined_in r.members.items

pub all_effects : (r : Reactor) → map ref_view (all_names Effect r) ≡ effects_in (reactor_view r)
all_effects r = written_in r.members.items

joined_and_written : (r : Reactor) (a b : Reference) → Contains (all_names Destination r) a → Contains (all_names Effect r) b → ref_view a ≡ ref_view b → WritesTwice (reactor_view r)
joined_and_written r a b is_joined is_written same =
    let effects = effects_in (reactor_view r) in
    let there : Contains (map ref_view (all_names Effect r)) (ref_view b) = Any-Contains (map ref_view (all_names Effect r)) (ref_view b) (Any-map (λ y. y ≡ ref_view b) ref_view (all_names Effect r) (some_in (λ x. ref_view x ≡ ref_view b) (all_names Effect r) b is_written refl)) in
    let here : Contains effects (ref_view a) = subst (Contains effects) (sym same) (subst (λ l. Contains l (ref_view b)) (all_effects r) there) in
    inr (subst (Any (λ ref. Contains effects ref)) (all_destinations r) (Any-map (λ ref. Contains effects ref) ref_view (all_names Destination r) (some_in (λ x. Contains effects (ref_view x)) (all_names Destination r) a is_joined here)))

-- the names of the reactors that have one
pub reactor_names : (rs : List Reactor) → map (λ p. p.0) (filter_map own_name rs) ≡ filter_map (λ r. r.name) (map reactor_view rs)
reactor_names [] = refl
reactor_names (r ∷ rs) = by string_bytes r.at r.name _ _ (reactor_names rs)
  where
    by : {X : Type 0} (f : X → List ℕ) (at : ℕ) (o : Option X) (xs : List (List ℕ × ℕ)) (ys : List (List ℕ)) → map (λ p. p.0) xs ≡ ys → map (λ p. p.0) (cons_option (option_map (λ name. (f name, at)) o) xs) ≡ cons_option (option_map f o) ys
    by f at None xs ys e = e
    by f at (Some x) xs ys e = ap (λ l. f x ∷ l) e

module _ (reactors : List Reactor) where
  abbrev rs : List ReactorTree
  rs = map reactor_view reactors

  -- what is so of a reactor of the file is so of some
  some_tree : (P : ReactorTree → Type 0) (r : Reactor) → Contains reactors r → P (reactor_view r) → Any P rs
  some_tree P r stands p = Any-map P reactor_view reactors (some_in (λ r. P (reactor_view r)) reactors r stands p)

  main_at : (i : ℕ) (r : Reactor) → slice_get reactors i ≡ Some r → r.is_main ≡ true → IsMainAt reactors i
  main_at i r at main = subst (λ o. IsSomeAnd o (λ r. r.is_main ≡ true)) (sym at) main

  same_reactors : (a b : List ℕ × ℕ) → StandsTwice (λ p. p.0) (filter_map own_name reactors) a b → DuplicateName rs
  unfolding DuplicateName
  same_reactors a b two = inl (subst IsTwice (reactor_names reactors) (twice_of (λ p. p.0) (filter_map own_name reactors) a b two))

  declared_twice : (r : Reactor) (a b : List ℕ × ℕ) → Contains reactors r → StandsTwice (λ p. p.0) (declarations r) a b → DuplicateName rs
  unfolding DuplicateName
  declared_twice r a b stands two = inr (some_tree DeclaresTwice r stands (inl (named_twice r (twice_of (λ p. p.0) (declarations r) a b two))))

  two_sources : (r : Reactor) → Contains reactors r → WritesTwice (reactor_view r) → TwoSources rs
  unfolding TwoSources
  two_sources r stands twice = some_tree WritesTwice r stands twice

  -- the cause holds that a witness shows
  pub held : (w : Witness) → Shows reactors w → CauseSays rs (fault_shown w)
  held witness.NoMain a = a
  held (witness.TwoMains a b) ((i, j, lt, first, second), one, other) = both_main reactors i j lt (main_at i a.now first one) (main_at j b.now second other)
  held (witness.SameReactors a b) two = same_reactors _ _ two
  held (witness.DeclaredTwice r a b) (stands, two) = declared_twice r.now _ _ stands two
  held (witness.Member r f) (stands, is) = found reactors f (some_in (λ r. Any (λ m. IsFinding rs (reactor_view r) m f) r.members.items) reactors r.now stands is)
  held (witness.JoinedTwice r a b) (stands, two) = two_sources r.now stands (inl (subst IsTwice (all_destinations r.now) (twice_of ref_view (all_names Destination r.now) a.now b.now two)))
  held (witness.JoinedAndWritten r a b) (stands, is_joined, is_written, same) = two_sources r.now stands (joined_and_written r.now a.now b.now is_joined is_written same)
  held (witness.LongDefault r p) (stands, is, long) = some_tree HasLongTime r.now stands (inl (Any-map (λ p. longest < nanoseconds p.default) parameter_view r.now.parameters.items (some_in (λ p. longest < nanoseconds p.default) r.now.parameters.items p.now is long)))

  -- none of the causes before the place is so, and the one there is: it is the first
  pub first_there : (cs : List ProgramFault) (i : ℕ) (c : ProgramFault) → i < length cs → get_or cs i c ≡ c → (Any (CauseSays rs) (map (λ c. c) (take i cs)) → ⊥) → CauseSays rs c → IsFirst (causes_in_order rs cs) (number_of c)
  first_there [] i c within is none says = absurd (omega arith)
  first_there (d ∷ cs) zero c within is none says = inl (subst (λ x. (number_of c ≡ number_of x) × CauseSays rs x) (sym is) (refl, says))
  first_there (d ∷ cs) (suc i) c within is none says = inr ((λ s. none (Any-head (CauseSays rs) d (map (λ c. c) (take i cs)) s)), first_there cs i c (omega arith) is (λ a. none (Any-tail (CauseSays rs) d (map (λ c. c) (take i cs)) a)) says)

  pub none_says : (cs : List ProgramFault) → (Any (CauseSays rs) (map (λ c. c) cs) → ⊥) → NoneHolds (causes_in_order rs cs)
  none_says [] none = tt
  none_says (c ∷ cs) none = ((λ s. none (Any-head (CauseSays rs) c (map (λ c. c) cs) s)), none_says cs (λ a. none (Any-tail (CauseSays rs) c (map (λ c. c) cs) a)))

-- ---- answers

pub first_shown : (rs : List Reactor) (causes : List (ℕ × Type 0)) (o : Option Witness) (w : Witness) → IsFirstShown rs causes o → o ≡ Some w → Shows rs w × IsFirst causes (number_of (fault_shown w))
first_shown rs causes None w is at = absurd (cc)
first_shown rs causes (Some v) w is at = let e : v ≡ w = cc in subst (λ v. Shows rs v × IsFirst causes (number_of (fault_shown v))) e is

pub none_shown : (rs : List Reactor) (causes : List (ℕ × Type 0)) (o : Option Witness) → IsFirstShown rs causes o → o ≡ None → NoneHolds causes
none_shown rs causes None is at = is
none_shown rs causes (Some v) is at = absurd (cc)
