-- What holds in each reactor of a lawful file: no name is declared twice, none stands twice in a reaction, and each port that is an effect may be one.
use Rattle.std.proofs.Common.{◌≡◌, ℕ, zero, suc, ◌<◌, inl, inr, ⊎_elim, Bool, true, false, cond, List, [], ◌∷◌, ◌++◌, map, flat_map, find, slice_get, Option, Some, None, option_map, Any, bytes_eq, refl, sym, ap, subst, ◌∙◌, arith}
use Rattle.std.{specs.Option.option_and_then, proofs.lemmas.{Bool.cases_lt, Slice.Eq.bytes_eq-Decides}}
use Rattle.lft_lists.proofs.Mapped.{mapped}
use Rattle.lft_tree.specs.Tree.{ReactorTree, ReactionTree, InstanceTree, ParameterTree, RefTree, PortTree, ports_of, timers_of, actions_of, instances_of, reactions_of, connections_of}
use Rattle.lft_resolve.specs.Causes.{IsTwice, NoneHolds, DuplicateName, DeclaresTwice, WrongPlace, Misplaces, IsMisplaced, DuplicateInput, RepeatsName, NamesTwice, first_causes, later_causes}
use Rattle.lft_resolve.specs.Instances.{reactor_named}
use Rattle.lft_resolve.specs.Kinds.{kind_of, kind_inside, inner_kind, own_port, inner_port, first_or_second, may_stand, refs_in, names_in, names_read, reaction_refs, connection_refs, in_role}
use Rattle.lft_resolve.specs.declared.kinds.{Kind.{Kind, TheVariants.{OwnParameter, OwnTimer, OwnAction, OwnInstance}}, Role.{Role, TheVariants.{Read, Effect}}}
use Rattle.lft_resolve.proofs.{Somes.{Any-left, Any-right}, Twice.{Any-at, twice_left}}

-- what one of a list gives is among what all give
pub Any-flat : {X Y : Type 0} (P : Y → Type 0) (f : X → List Y) (xs : List X) (k : ℕ) (x : X) → slice_get xs k ≡ Some x → Any P (f x) → Any P (flat_map f xs)
Any-flat P f [] k x at a = absurd (cc)
Any-flat P f (y ∷ xs) zero x at a = let e : x ≡ y = cc in Any-left P (f y) (flat_map f xs) (subst (λ z. Any P (f z)) e a)
Any-flat P f (y ∷ xs) (suc k) x at a = Any-right P (f y) (flat_map f xs) (Any-flat P f xs k x at a)

-- the only element that passes is what is found
find_only : {X : Type 0} (p : X → Bool) (xs : List X) (k : ℕ) (x : X) → slice_get xs k ≡ Some x → p x ≡ true → ((j : ℕ) (y : X) → slice_get xs j ≡ Some y → p y ≡ true → y ≡ x) → find p xs ≡ Some x
find_only p [] k x at is only = absurd (cc)
find_only {X} p (y ∷ xs) k x at is only = by (p y) refl k at (λ j there. find_only p xs j x there is (λ i z. only (suc i) z))
  where
    by : (b : Bool) → p y ≡ b → (j : ℕ) → slice_get (y ∷ xs) j ≡ Some x → ((i : ℕ) → slice_get xs i ≡ Some x → find p xs ≡ Some x) → cond b (Some y) (find p xs) ≡ Some x
    by true f j there go = ap Some (only 0 y refl f)
    by false f zero there go = let e : y ≡ x = (cc) in let g : p y ≡ true = subst (λ z. p z ≡ true) (sym e) is in absurd (cc)
    by false f (suc j) there go = go j there

twice_right : {X : Type 0} (xs ys : List X) → IsTwice ys → IsTwice (xs ++ ys)
twice_right [] ys two = two
twice_right (x ∷ xs) ys two = let r = twice_right xs ys two in let low : r.0 < r.1 = r.3 in (suc r.0, suc r.1, r.2, omega arith, r.4, r.5)

ports_twice : (r : ReactorTree) → IsTwice (map (λ x. x.name) (ports_of r)) → IsTwice (names_in r)
ports_twice r two =
    let P = map (λ x. x.name) r.parameters in
    let Q = map (λ x. x.name) (ports_of r) in
    let T = map (λ x. x.name) (timers_of r) in
    let A = map (λ x. x.name) (actions_of r) in
    let I = map (λ x. x.name) (instances_of r) in
    twice_left (((P ++ Q) ++ T) ++ A) I (twice_left ((P ++ Q) ++ T) A (twice_left (P ++ Q) T (twice_right P Q two)))

-- what a plain name is that is no parameter and no port
abbrev others_of : ReactorTree → List ℕ → Option Kind
others_of r name = first_or_second (option_map (λ x. OwnTimer) (find (λ x. bytes_eq name x.name) (timers_of r))) (first_or_second (option_map (λ x. OwnAction) (find (λ x. bytes_eq name x.name) (actions_of r))) (option_map (λ x. OwnInstance) (find (λ x. bytes_eq name x.name) (instances_of r))))

-- what it is by the parameter, or else the port, that it finds
abbrev kind_by : Option Kind → Option ParameterTree → Option PortTree → Option Kind
kind_by others o p = first_or_second (option_map (λ x. OwnParameter) o) (first_or_second (option_map (λ x. own_port x.is_input) p) others)

may_be_own : (b : Bool) → may_stand Effect (own_port b) ≡ true → b ≡ false
may_be_own true e = absurd (cc)
may_be_own false e = refl

may_be_inner : (b : Bool) → may_stand Effect (inner_port b) ≡ true → b ≡ true
may_be_inner true e = refl
may_be_inner false e = absurd (cc)

pub no_duplicate : (rs : List ReactorTree) → NoneHolds (first_causes rs) → DuplicateName rs → ⊥
no_duplicate rs (none, (two, (duplicate, rest))) = duplicate

no_misplaced : (rs : List ReactorTree) → NoneHolds (later_causes rs) → WrongPlace rs → ⊥
no_misplaced rs (unknown, (misplaced, rest)) = misplaced

no_repeated : (rs : List ReactorTree) → NoneHolds (later_causes rs) → DuplicateInput rs → ⊥
no_repeated rs (unknown, (misplaced, (ports, (sources, (width, (trigger, (repeated, rest))))))) = repeated

module _ (rs : List ReactorTree) (n : ℕ) (r : ReactorTree) (there : slice_get rs n ≡ Some r) where
  pub names_once : NoneHolds (first_causes rs) → IsTwice (names_in r) → ⊥
  unfolding DuplicateName
  names_once lawful two = no_duplicate rs lawful (inr (Any-at DeclaresTwice rs n r there (inl two)))

  -- a port is what its name finds
  pub port_found : NoneHolds (first_causes rs) → (k : ℕ) (q : PortTree) → slice_get (ports_of r) k ≡ Some q → find (λ x. bytes_eq q.name x.name) (ports_of r) ≡ Some q
  port_found lawful k q at = find_only (λ x. bytes_eq q.name x.name) (ports_of r) k q at ((bytes_eq-Decides q.name q.name).1 refl) only
    where
      name_at : (i : ℕ) (x : PortTree) → slice_get (ports_of r) i ≡ Some x → slice_get (map (λ x. x.name) (ports_of r)) i ≡ Some x.name
      name_at i x a = mapped (λ x. x.name) (ports_of r) i x a

      only : (j : ℕ) (y : PortTree) → slice_get (ports_of r) j ≡ Some y → bytes_eq q.name y.name ≡ true → y ≡ q
      only j y a is =
          let same : q.name ≡ y.name = (bytes_eq-Decides q.name y.name).0 is in
          let named : slice_get (map (λ x. x.name) (ports_of r)) j ≡ Some q.name = name_at j y a ∙ ap Some (sym same) in
          ⊎_elim
          (λ low. absurd (names_once lawful (ports_twice r (j, k, q.name, low, named, name_at k q at))))
          (λ high. ⊎_elim
          (λ low. absurd (names_once lawful (ports_twice r (k, j, q.name, low, name_at k q at, named))))
          (λ more. (let e : j ≡ k = omega arith in let f : Some y ≡ Some q = sym a ∙ ap (slice_get (ports_of r)) e ∙ at in cc))
          (cases_lt k j))
          (cases_lt j k)

  module _ (lawful : NoneHolds (later_causes rs)) (k : ℕ) (x : ReactionTree) (at : slice_get (reactions_of r) k ≡ Some x) where
    repeats : NamesTwice x → ⊥
    unfolding DuplicateInput
    repeats two = no_repeated rs lawful (Any-at RepeatsName rs n r there (Any-at NamesTwice (reactions_of r) k x at two))

    pub reads_once : IsTwice (names_read x) → ⊥
    reads_once two = repeats (inl two)

    pub effects_once : IsTwice x.effects → ⊥
    effects_once two = repeats (inr two)

    module _ (j : ℕ) (ref : RefTree) (among : slice_get x.effects j ≡ Some ref) where
      some_ref : (P : Role × RefTree → Type 0) → P (Effect, ref) → Any P (refs_in r)
      some_ref P p =
          Any-left P (flat_map reaction_refs (reactions_of r)) (flat_map connection_refs (connections_of r))
          (Any-flat P reaction_refs (reactions_of r) k x at
          (Any-right P (in_role Read (names_read x)) (in_role Effect x.effects)
          (Any-at P (in_role Effect x.effects) j (Effect, ref) (mapped (λ s. (Effect, s)) x.effects j ref among) p)))

      is_placed : IsMisplaced rs r (Effect, ref) → ⊥
      unfolding WrongPlace
      is_placed bad = no_misplaced rs lawful (Any-at (Misplaces rs) rs n r there (inl (some_ref (IsMisplaced rs r) bad)))

      may_be : (kind : Kind) → kind_of rs r ref ≡ Some kind → may_stand Effect kind ≡ true
      may_be kind is = by (may_stand Effect kind) refl
        where
          by : (b : Bool) → may_stand Effect kind ≡ b → b ≡ true
          by true e = refl
          by false e = absurd (is_placed (kind, is, e))

      -- an own port that is an effect is an output
      pub own_effect : (q : PortTree) → ref.port ≡ None → find (λ x. bytes_eq ref.head x.name) (ports_of r) ≡ Some q → q.is_input ≡ false
      own_effect q plain found = by (find (λ x. bytes_eq ref.head x.name) r.parameters) refl
        where
          is_own : kind_of rs r ref ≡ kind_by (others_of r ref.head) (find (λ x. bytes_eq ref.head x.name) r.parameters) (find (λ x. bytes_eq ref.head x.name) (ports_of r))
          is_own = ap (kind_inside rs r ref.head) plain

          by : (o : Option ParameterTree) → find (λ x. bytes_eq ref.head x.name) r.parameters ≡ o → q.is_input ≡ false
          by None e = may_be_own q.is_input (may_be (own_port q.is_input) (is_own ∙ ap (λ o. kind_by (others_of r ref.head) o (find (λ x. bytes_eq ref.head x.name) (ports_of r))) e ∙ ap (kind_by (others_of r ref.head) None) found))
          by (Some p) e = let m : may_stand Effect OwnParameter ≡ true = may_be OwnParameter (is_own ∙ ap (λ o. kind_by (others_of r ref.head) o (find (λ x. bytes_eq ref.head x.name) (ports_of r))) e) in absurd (cc)

      -- a port of a contained instance that is an effect is an input there
      pub inner_effect : (name : List ℕ) (i : InstanceTree) (inner : ReactorTree) (q : PortTree) → ref.port ≡ Some name → find (λ i. bytes_eq ref.head i.name) (instances_of r) ≡ Some i → reactor_named rs i.reactor ≡ Some inner → find (λ x. bytes_eq name x.name) (ports_of inner) ≡ Some q → q.is_input ≡ true
      inner_effect name i inner q dotted instance reactor found =
          let port_kind : ReactorTree → Option Kind = λ s. option_map (λ x. inner_port x.is_input) (find (λ x. bytes_eq name x.name) (ports_of s)) in
          let a : kind_of rs r ref ≡ inner_kind rs r ref.head name = ap (kind_inside rs r ref.head) dotted in
          let b : inner_kind rs r ref.head name ≡ option_and_then port_kind (reactor_named rs i.reactor) = ap (option_and_then (λ j. option_and_then port_kind (reactor_named rs j.reactor))) instance in
          let c : option_and_then port_kind (reactor_named rs i.reactor) ≡ port_kind inner = ap (option_and_then port_kind) reactor in
          let d : port_kind inner ≡ Some (inner_port q.is_input) = ap (option_map (λ x. inner_port x.is_input)) found in
          may_be_inner q.is_input (may_be (inner_port q.is_input) (a ∙ b ∙ c ∙ d))
