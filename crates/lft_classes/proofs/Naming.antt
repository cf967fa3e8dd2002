-- The names of parameters and members.
use Rattle.std.proofs.Common.{◌≡◌, ℕ, zero, suc, ◌≤◌, inl, inr, Bool, true, false, List, [], ◌∷◌, ◌++◌, map, Option, Some, bytes_eq, option_map, length, slice_get, string_bytes, refl, sym, ap, subst, ◌∙◌, arith}
use Rattle.std.specs.Prelude.{if◌then◌else◌, unwrap_or}
use Rattle.std.{specs.Option.option_and_then, proofs.lemmas.{Option.option_and_then_some, Slice.Eq.bytes_eq-Decides}}
use Rattle.lft_lists.proofs.{Mapped.option_map_some, Places.{get_last, get_push, get_push_cases, Some_same}}
use Rattle.lft_resolve.specs.{inner.Places.{IsIndexOf, place, place_in}, declared.index.Index.Index}
use Rattle.lft_whole.specs.declared.tree.Name.{Name}
use Rattle.lft_classes.specs.declared.shapes.{Inherited.Inherited, InheritedParameter.InheritedParameter, Named.Named, OwnThing.OwnThing}
use Rattle.lft_classes.specs.{inner.{Built.HasName, Naming.{EachNamed, HasNamed}}, Shapes.name_of}
use Rattle.lft_classes.specs.declared.shapes.OwnThing.TheVariants as thing

module _ {X : Type 0} (name : X → List ℕ) (q : List ℕ) where
  place_step : (y : X) (ys : List X) (k : ℕ) (x : X) (b : Bool) → bytes_eq q (name y) ≡ b → (if b then Some 0 else option_map suc (place q (map name ys))) ≡ Some k → slice_get (y ∷ ys) k ≡ Some x → ((j : ℕ) → place q (map name ys) ≡ Some j → slice_get ys j ≡ Some x → q ≡ name x) → q ≡ name x
  place_step y ys k x true same at there rest =
      let here : 0 ≡ k = Some_same 0 k at in
      let found : slice_get (y ∷ ys) 0 ≡ Some x = subst (λ n. slice_get (y ∷ ys) n ≡ Some x) (sym here) there in
      (bytes_eq-Decides q (name y)).0 same ∙ ap name (Some_same y x found)
  place_step y ys k x false other at there rest =
      let m = option_map_some suc (place q (map name ys)) k at in
      rest m.0 m.1 (subst (λ n. slice_get (y ∷ ys) n ≡ Some x) (sym m.2) there)

  -- at the place of a name stands one of that name
  pub place_is : (xs : List X) (k : ℕ) (x : X) → place q (map name xs) ≡ Some k → slice_get xs k ≡ Some x → q ≡ name x
  place_is [] k x at there = absurd (cc)
  place_is (y ∷ ys) k x at there = place_step y ys k x (bytes_eq q (name y)) refl at there (λ j. place_is ys j x)

module _ {X : Type 0} (name : X → List ℕ) (q : List ℕ) where
  least_step : (y : X) (ys : List X) (b : Bool) → bytes_eq q (name y) ≡ b → (k : ℕ) (x : X) → slice_get (y ∷ ys) (suc k) ≡ Some x → (j : ℕ) × (place q (map name ys) ≡ Some j) × (j ≤ k) × ((z : X) × (slice_get ys j ≡ Some z) × (q ≡ name z)) → (j : ℕ) × ((if b then Some 0 else option_map suc (place q (map name ys))) ≡ Some j) × (j ≤ suc k) × ((z : X) × (slice_get (y ∷ ys) j ≡ Some z) × (q ≡ name z))
  least_step y ys true same k x at rest = (0, refl, omega arith, (y, refl, (bytes_eq-Decides q (name y)).0 same))
  least_step y ys false other k x at rest = (suc rest.0, ap (option_map suc) rest.1, (let l = rest.2 in omega (arith, l)), (rest.3.0, rest.3.1, rest.3.2))

  here_step : (y : X) (ys : List X) (b : Bool) → bytes_eq q (name y) ≡ b → q ≡ name y → (j : ℕ) × ((if b then Some 0 else option_map suc (place q (map name ys))) ≡ Some j) × (j ≤ 0) × ((z : X) × (slice_get (y ∷ ys) j ≡ Some z) × (q ≡ name z))
  here_step y ys true same e = (0, refl, omega arith, (y, refl, e))
  here_step y ys false other e = absurd (let is = (bytes_eq-Decides q (name y)).1 e in let f : false ≡ true = sym other ∙ is in cc)

  -- where one of the name stands, the first one of it stands there or before
  pub place_least : (xs : List X) (k : ℕ) (x : X) → slice_get xs k ≡ Some x → q ≡ name x → (j : ℕ) × (place q (map name xs) ≡ Some j) × (j ≤ k) × ((z : X) × (slice_get xs j ≡ Some z) × (q ≡ name z))
  place_least [] k x at e = absurd (cc)
  place_least (y ∷ ys) zero x at e = here_step y ys (bytes_eq q (name y)) refl (let same : y ≡ x = Some_same y x at in e ∙ ap name (sym same))
  place_least (y ∷ ys) (suc k) x at e = least_step y ys (bytes_eq q (name y)) refl k x at (place_least ys k x at e)

-- one more that is noted
pub named_push : (ps : List InheritedParameter) (ms : List Inherited) (ns : List Named) (n : Named) → EachNamed ps ms ns → HasName ps ms n.name.now n.thing → EachNamed ps ms (ns ++ n ∷ [])
named_push ps ms ns n all is i m at = elim (get_push_cases ns n i m at) [ inl old ↦ all i m old | inr last ↦ subst (λ (x : Named). HasName ps ms x.name.now x.thing) last.1 is ]

pub has_named_push : (ns : List Named) (n : Named) (q : List ℕ) (t : OwnThing) → HasNamed ns q t → HasNamed (ns ++ n ∷ []) q t
has_named_push ns n q t has = (has.0, (has.1.0, get_push ns n has.0 has.1.0 has.1.1, has.1.2))

pub has_named_last : (ns : List Named) (n : Named) → HasNamed (ns ++ n ∷ []) n.name.now n.thing
has_named_last ns n = (length ns, (n, get_last ns n, (refl, refl)))

-- each parameter and each member that has a name is noted
pub all_noted : (ps : List InheritedParameter) (ms : List Inherited) (ns : List Named) → ((j : ℕ) (p : InheritedParameter) → slice_get ps j ≡ Some p → HasNamed ns (string_bytes p.parameter.now.name.text) (thing.Parameter j)) → ((j : ℕ) (m : Inherited) → slice_get ms j ≡ Some m → (q : List ℕ) → option_map (λ (n : Name). string_bytes n.text) (name_of m.member.now) ≡ Some q → HasNamed ns q (thing.Member j)) → (q : List ℕ) (t : OwnThing) → HasName ps ms q t → HasNamed ns q t
all_noted ps ms ns one two q (thing.Parameter j) is = subst (λ r. HasNamed ns r (thing.Parameter j)) is.2 (one j is.0 is.1)
all_noted ps ms ns one two q (thing.Member j) is = two j is.0 is.1 q is.2

-- a name that stands once has its place
pub once : {X : Type 0} (name : X → List ℕ) (xs : List X) (o : Option ℕ) (k : ℕ) (x : X) → slice_get xs k ≡ Some x → o ≡ place (name x) (map name xs) → unwrap_or o k ≡ k → o ≡ Some k
once name xs o k x at is e =
    let least = place_least name (name x) xs k x at refl in
    let same : o ≡ Some least.0 = is ∙ least.1 in
    let there : least.0 ≡ k = sym (ap (λ p. unwrap_or p k) same) ∙ e in
    same ∙ ap Some there

-- what a name is in a shape is what has it
pub thing_of : (ps : List InheritedParameter) (ms : List Inherited) (ns : List Named) (index : Index) → IsIndexOf index (map (λ (n : Named). n.name.now) ns) → EachNamed ps ms ns → (q : List ℕ) (t : OwnThing) → option_map (λ (n : Named). n.thing) (option_and_then (slice_get ns) (place_in index q)) ≡ Some t → HasName ps ms q t
thing_of ps ms ns index is each q t e =
    let n = option_map_some (λ (n : Named). n.thing) (option_and_then (slice_get ns) (place_in index q)) t e in
    option_and_then_some (slice_get ns) (place_in index q) n.0 n.1 (λ k at there.
    let same : q ≡ n.0.name.now = place_is (λ (m : Named). m.name.now) q ns k n.0 (sym (is q) ∙ at) there in
    subst (λ r. HasName ps ms r t) (sym same) (subst (HasName ps ms n.0.name.now) n.2 (each k n.0 there)))

pub is_thing : (ns : List Named) (index : Index) → ((k : ℕ) (n : Named) → slice_get ns k ≡ Some n → place_in index n.name.now ≡ Some k) → (q : List ℕ) (t : OwnThing) → HasNamed ns q t → option_map (λ (n : Named). n.thing) (option_and_then (slice_get ns) (place_in index q)) ≡ Some t
is_thing ns index once q t has =
    let n = has.1.0 in
    let thing : Named → OwnThing = λ m. m.thing in
    let at : place_in index q ≡ Some has.0 = ap (place_in index) (sym has.1.2.0) ∙ once has.0 n has.1.1 in
    ap (λ o. option_map thing (option_and_then (slice_get ns) o)) at ∙ ap (option_map thing) has.1.1 ∙ ap Some has.1.2.1
