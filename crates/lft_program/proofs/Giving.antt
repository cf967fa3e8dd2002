-- What parameters are given, by name in the tree and by place in the tables.
use Rattle.std.proofs.Common.{◌≡◌, ℕ, zero, suc, ◌+◌, ◌<◌, ◌⊎◌, inl, inr, Bool, true, false, cond, eqb, List, [], ◌∷◌, ◌++◌, Any, refl, sym, ap, ◌∙◌, subst, arith, Some, slice_get, find, map, flat_map, option_map, option_to_list, bytes_eq}
use Rattle.std.{specs.{List.{AllZip, enumerate_from}, Option.option_map_or}, proofs.lemmas.{Bool.Decides.eqb_tells, Slice.Eq.bytes_eq-Decides}}
use Rattle.lft_program.proofs.{Delays.{kept_is, clock_is}, Counting.flat_at, OneThing.once_at}
use Rattle.lft_lists.proofs.Mapped.{mapped, option_map_some}
use Rattle.lft_tree.specs.Tree.{ReactorTree, ParameterTree, AssignmentTree, InstanceTree, TimeTree, nanoseconds, instances_of, ports_of, timers_of, actions_of, connections_of}
use Rattle.lft_resolve.specs.inner.{Expansion.Values.{clock_in, value_in, values_in}, Places.place, Sheets.{IsGiven, kept}}
use Rattle.lft_resolve.specs.declared.expansion.settings.Given.{Given}
use Rattle.lft_resolve.specs.Causes.{DeclaresTwice, DuplicateName, HasLongTime, IsLongTime, IsTwice, NoneHolds, first_causes, longest}
use Rattle.lft_resolve.specs.{Instances.{Inside, given_in, given_or_default}, Kinds.timer_times}
use Rattle.lft_resolve.proofs.{Somes.{Any-head, Any-left, Any-right, Any-tail}, Twice.{Any-at, twice_left}}

-- ---- places of names that stand once

pub place_is : (q : List ℕ) (xs : List (List ℕ)) (k : ℕ) → place q xs ≡ Some k → slice_get xs k ≡ Some q
place_is q [] k e = absurd (cc)
place_is q (t ∷ ts) k e = by (bytes_eq q t) refl (λ j f. place_is q ts j f) e
  where
    by : (b : Bool) → bytes_eq q t ≡ b → ((j : ℕ) → place q ts ≡ Some j → slice_get ts j ≡ Some q) → cond b (Some 0) (option_map suc (place q ts)) ≡ Some k → slice_get (t ∷ ts) k ≡ Some q
    by true f go e = let same : q ≡ t = (bytes_eq-Decides q t).0 f in let z : 0 ≡ k = cc in subst (λ k. slice_get (t ∷ ts) k ≡ Some q) z (ap Some (sym same))
    by false f go e = let m = option_map_some suc (place q ts) k e in subst (λ k. slice_get (t ∷ ts) k ≡ Some q) m.2 (go m.0 m.1)

place_there : (q : List ℕ) (xs : List (List ℕ)) (k : ℕ) → slice_get xs k ≡ Some q → (j : ℕ) × (place q xs ≡ Some j)
place_there q [] k e = absurd (cc)
place_there q (t ∷ ts) zero e = let same : q ≡ t = cc in (0, ap (λ b. cond b (Some 0) (option_map suc (place q ts))) ((bytes_eq-Decides q t).1 same))
place_there q (t ∷ ts) (suc k) e = by (bytes_eq q t) (place_there q ts k e)
  where
    by : (b : Bool) → (j : ℕ) × (place q ts ≡ Some j) → (j : ℕ) × (cond b (Some 0) (option_map suc (place q ts)) ≡ Some j)
    by true r = (0, refl)
    by false r = (suc r.0, ap (option_map suc) r.1)

pub place_once : (q : List ℕ) (xs : List (List ℕ)) (n : ℕ) → (IsTwice xs → ⊥) → slice_get xs n ≡ Some q → place q xs ≡ Some n
place_once q xs n once e = let j = place_there q xs n e in j.1 ∙ ap Some (once_at xs q j.0 n once (place_is q xs j.0 j.1) e)

-- no parameter is declared twice where none of the first causes holds
pub parameters_once : (rs : List ReactorTree) (n : ℕ) (r : ReactorTree) → NoneHolds (first_causes rs) → slice_get rs n ≡ Some r → IsTwice (map (λ p. p.name) r.parameters) → ⊥
unfolding DuplicateName
parameters_once rs n r none at two =
    let parameters = map (λ p. p.name) r.parameters in
    let ports = map (λ p. p.name) (ports_of r) in
    let timers = map (λ t. t.name) (timers_of r) in
    let actions = map (λ a. a.name) (actions_of r) in
    let instances = map (λ i. i.name) (instances_of r) in
    let all = twice_left (parameters ++ ports ++ timers ++ actions) instances (twice_left (parameters ++ ports ++ timers) actions (twice_left (parameters ++ ports) timers (twice_left parameters ports two))) in
    none.1.1.0 (inr (Any-at DeclaresTwice rs n r at (inl all)))

-- ---- times that aren't too long

pub defaults_short : (ps : List ParameterTree) → (Any (λ p. longest < nanoseconds p.default) ps → ⊥) → map (λ p. kept (nanoseconds p.default)) ps ≡ map (λ p. nanoseconds p.default) ps
defaults_short [] short = refl
defaults_short (p ∷ ps) short =
    let P : ParameterTree → Type 0 = λ p. longest < nanoseconds p.default in
    let a : kept (nanoseconds p.default) ≡ nanoseconds p.default = kept_is (nanoseconds p.default) (λ l. short (Any-head P p ps l)) in
    let b = defaults_short ps (λ l. short (Any-tail P p ps l)) in
    ap (λ n. n ∷ map (λ p. kept (nanoseconds p.default)) ps) a ∙ ap (λ l. nanoseconds p.default ∷ l) b

pub given_short : (r : ReactorTree) (k j : ℕ) (i : InstanceTree) (a : AssignmentTree) → (HasLongTime r → ⊥) → slice_get (instances_of r) k ≡ Some i → slice_get i.given j ≡ Some a → IsLongTime a.value → ⊥
given_short r k j i a short e f long =
    let times : InstanceTree → List TimeTree = λ i. map (λ a. a.value) i.given in
    let at = flat_at times (instances_of r) k j i a.value e (mapped (λ a. a.value) i.given j a f) in
    let offsets = flat_map timer_times (timers_of r) in
    let delays = flat_map (λ a. option_to_list a.min_delay) (actions_of r) in
    let given = flat_map times (instances_of r) in
    let rest = flat_map (λ c. option_to_list c.delay) (connections_of r) in
    let here : Any IsLongTime given = Any-at IsLongTime given _ a.value at long in
    short (inr (Any-left IsLongTime (offsets ++ delays ++ given) rest (Any-right IsLongTime (offsets ++ delays) given here)))

-- ---- what one instance is given

module _ (x : Inside) (r : ReactorTree) (once : IsTwice (map (λ p. p.name) r.parameters) → ⊥) where
  name_or_place : (n : ℕ) (p : ParameterTree) (a : AssignmentTree) (g : Given) → slice_get r.parameters n ≡ Some p → IsGiven x.reactor r a g → bytes_eq p.name a.name ≡ eqb g.place n
  name_or_place n p a g at is = by (bytes_eq p.name a.name) refl (eqb_tells g.place n)
    where
      names : List (List ℕ)
      names = map (λ p. p.name) r.parameters

      here : slice_get names n ≡ Some p.name
      here = mapped (λ p. p.name) r.parameters n p at

      by : (b : Bool) → bytes_eq p.name a.name ≡ b → ((eqb g.place n ≡ true) × (g.place ≡ n)) ⊎ ((eqb g.place n ≡ false) × (g.place ≡ n → ⊥)) → b ≡ eqb g.place n
      by true f (inl t) = sym t.0
      by false f (inr t) = sym t.0
      by true f (inr t) =
          let same : p.name ≡ a.name = (bytes_eq-Decides p.name a.name).0 f in
          let e : Some g.place ≡ Some n = sym is.place ∙ ap (λ q. place q names) (sym same) ∙ place_once p.name names n once here in
          absurd (t.1 (cc))
      by false f (inl t) =
          let e : Some p.name ≡ Some a.name = sym here ∙ ap (slice_get names) (sym t.1) ∙ place_is a.name names g.place is.place in
          let same : p.name ≡ a.name = cc in
          let g : bytes_eq p.name a.name ≡ true = (bytes_eq-Decides p.name a.name).1 same in
          absurd (cc)

  value_given : (n : ℕ) (p : ParameterTree) → slice_get r.parameters n ≡ Some p → (assigned : List AssignmentTree) (gs : List Given) → ((j : ℕ) (a : AssignmentTree) → slice_get assigned j ≡ Some a → IsLongTime a.value → ⊥) → AllZip (IsGiven x.reactor r) assigned gs → value_in x.values gs n (nanoseconds p.default) ≡ given_in x assigned p
  value_given n p at [] [] short all = refl
  value_given n p at [] (g ∷ gs) short all = absurd all
  value_given n p at (a ∷ assigned) [] short all = absurd all
  value_given n p at (a ∷ assigned) (g ∷ gs) short all =
      let rest = value_given n p at assigned gs (λ j b e. short (suc j) b e) all.1 in
      ap (λ b. option_map_or (λ g. clock_in x.values g.clock) (cond b (Some g) (find (λ g. eqb g.place n) gs)) (nanoseconds p.default)) (sym (name_or_place n p a g at all.0))
      ∙ by (bytes_eq p.name a.name) rest
    where
      by : (b : Bool) → value_in x.values gs n (nanoseconds p.default) ≡ given_in x assigned p → option_map_or (λ g. clock_in x.values g.clock) (cond b (Some g) (find (λ g. eqb g.place n) gs)) (nanoseconds p.default) ≡ given_or_default x p (cond b (Some a) (find (λ a. bytes_eq p.name a.name) assigned))
      by true rest = clock_is x a.value g.clock all.0.clock (short 0 a refl)
      by false rest = rest

  module _ (assigned : List AssignmentTree) (gs : List Given) (short : (j : ℕ) (a : AssignmentTree) → slice_get assigned j ≡ Some a → IsLongTime a.value → ⊥) (all : AllZip (IsGiven x.reactor r) assigned gs) where
    each : (i : ℕ) (ps : List ParameterTree) → ((j : ℕ) (p : ParameterTree) → slice_get ps j ≡ Some p → slice_get r.parameters (i + j) ≡ Some p) → map (λ d. value_in x.values gs d.0 d.1) (enumerate_from i (map (λ p. nanoseconds p.default) ps)) ≡ map (given_in x assigned) ps
    each i [] at = refl
    each i (p ∷ ps) at =
        let z : i + 0 ≡ i = omega arith in
        let a : value_in x.values gs i (nanoseconds p.default) ≡ given_in x assigned p = value_given i p (subst (λ n. slice_get r.parameters n ≡ Some p) z (at 0 p refl)) assigned gs short all in
        let b = each (i + 1) ps (λ j q e. let m : i + suc j ≡ (i + 1) + j = omega arith in subst (λ n. slice_get r.parameters n ≡ Some q) m (at (suc j) q e)) in
        ap (λ v. v ∷ map (λ d. value_in x.values gs d.0 d.1) (enumerate_from (i + 1) (map (λ p. nanoseconds p.default) ps))) a ∙ ap (λ l. given_in x assigned p ∷ l) b

    pub values_given : values_in x.values gs (map (λ p. nanoseconds p.default) r.parameters) ≡ map (given_in x assigned) r.parameters
    values_given = each 0 r.parameters (λ j p e. let z : j ≡ 0 + j = omega arith in subst (λ n. slice_get r.parameters n ≡ Some p) z e)
