-- Times that an instance has to give and doesn't.
use Rattle.std.proofs.Common.{◌≡◌, ◌≢◌, inl, inr, ℕ, zero, suc, ◌+◌, ◌<◌, ◌≤◌, ◌&&◌, Bool, true, false, cond, leb, List, [], ◌∷◌, Option, Some, None, length, slice_get, refl, subst, sym, ap, ◌∙◌, arith}
use Rattle.std.specs.Prelude.{count_by, if◌then◌else◌, option_map, unwrap_or}
use Rattle.std.{specs.List.range_with_len, proofs.lemmas.{Bool.Decides.{eqb_tells, leb_tells}, List.Sums.sum_by-cons, Option.slice_get_within}}
use Rattle.lft_classes.specs.declared.shapes.{Child.Child, GivenValue.GivenValue, InheritedParameter.InheritedParameter, Shape.Shape}
use Rattle.lft_elaborate.specs.inner.Values.{given_to}
use Rattle.lft_lower.specs.inner.Needed.{GivesNeeded, GivesEachOnce, is_bare, is_needed, is_timed, needed_given, needed_in}

-- one, if it is so
abbrev tick : Bool → ℕ
tick b = cond b 1 0

-- so many values are given to such parameters, from this number on
abbrev from_on : (ℕ → Bool) → ℕ → List GivenValue → ℕ
from_on f s gs = count_by (λ g. f g.parameter && leb s g.parameter) gs

counted : (f : ℕ → Bool) (s : ℕ) (g : GivenValue) (gs : List GivenValue) → from_on f s (g ∷ gs) ≡ tick (f g.parameter && leb s g.parameter) + from_on f s gs
counted f s g gs = sum_by-cons (λ g. tick (f g.parameter && leb s g.parameter)) g gs

later : (b : Bool) (s p : ℕ) → tick (b && leb (s + 1) p) ≤ tick (b && leb s p)
later false s p = omega arith
later true s p = elim (leb_tells (s + 1) p) [
  | inl met ↦ elim (leb_tells s p) [
    | inl here ↦ let a : tick (leb (s + 1) p) ≡ 1 = ap tick met.0 in let b : tick (leb s p) ≡ 1 = ap tick here.0 in omega (arith, a, b)
    | inr before ↦ absurd (omega (arith, met.1, before.1))
  ]
  | inr unmet ↦ let a : tick (leb (s + 1) p) ≡ 0 = ap tick unmet.0 in omega (arith, a)
]

from_first : (b : Bool) (p : ℕ) → tick (b && leb 0 p) ≡ tick b
from_first false p = refl
from_first true p = elim (leb_tells 0 p) [
  | inl met ↦ ap tick met.0
  | inr unmet ↦ absurd (omega (arith, unmet.1))
]

all_from : (f : ℕ → Bool) (gs : List GivenValue) → from_on f 0 gs ≡ count_by (λ g. f g.parameter) gs
all_from f [] = refl
all_from f (g ∷ gs) = counted f 0 g gs ∙ ap (λ n. n + from_on f 0 gs) (from_first (f g.parameter) g.parameter) ∙ ap (λ n. tick (f g.parameter) + n) (all_from f gs) ∙ sym (sum_by-cons (λ g. tick (f g.parameter)) g gs)

-- ---- where as many are given as are needed

elsewhere : (b : Bool) (s p : ℕ) → p ≢ s → tick (b && leb s p) ≤ tick (b && leb (s + 1) p)
elsewhere false s p apart = omega arith
elsewhere true s p apart = elim (leb_tells s p) [
  | inl met ↦ elim (leb_tells (s + 1) p) [
    | inl more ↦ let a : tick (leb (s + 1) p) ≡ 1 = ap tick more.0 in let b : tick (leb s p) ≡ 1 = ap tick met.0 in omega (arith, a, b)
    | inr less ↦ let same : p ≡ s = omega (arith, met.1, less.1) in absurd (apart same)
  ]
  | inr unmet ↦ let a : tick (leb s p) ≡ 0 = ap tick unmet.0 in omega (arith, a)
]

none_here : (f : ℕ → Bool) (s : ℕ) (gs : List GivenValue) → given_to gs s ≡ None → from_on f s gs ≤ from_on f (s + 1) gs
none_here f s [] none = omega arith
none_here f s (g ∷ gs) none = elim (eqb_tells g.parameter s) [
  | inl same ↦ let e : Some g.value.now.value ≡ None = sym (ap (λ b. if b then Some g.value.now.value else given_to gs s) same.0) ∙ none in absurd (cc)
  | inr other ↦
      let rest : given_to gs s ≡ None = sym (ap (λ b. if b then Some g.value.now.value else given_to gs s) other.0) ∙ none in
      omega (arith, counted f (s + 1) g gs, counted f s g gs, elsewhere (f g.parameter) s g.parameter other.1, none_here f s gs rest)
]

no_more : (b c : Bool) → tick (b && c) ≤ tick b
no_more false c = omega arith
no_more true false = omega arith
no_more true true = omega arith

at_most_one : (f : ℕ → Bool) (s : ℕ) (gs : List GivenValue) → GivesEachOnce gs → from_on f s gs ≤ tick (f s) + from_on f (s + 1) gs
at_most_one f s [] once = omega arith
at_most_one f s (g ∷ gs) (first, once) = elim (eqb_tells g.parameter s) [
  | inl same ↦
      let none : given_to gs s ≡ None = subst (λ p. given_to gs p ≡ None) same.1 first in
      let was : tick (f g.parameter && leb s g.parameter) ≤ tick (f s) = subst (λ p. tick (f p && leb s p) ≤ tick (f s)) (sym same.1) (no_more (f s) (leb s s)) in
      omega (arith, counted f (s + 1) g gs, counted f s g gs, was, none_here f s gs none)
  | inr other ↦ omega (arith, counted f (s + 1) g gs, counted f s g gs, elsewhere (f g.parameter) s g.parameter other.1, at_most_one f s gs once)
]

before : (b : Bool) (s p : ℕ) → (b ≡ true → p < s) → tick (b && leb s p) ≤ 0
before false s p low = omega arith
before true s p low = elim (leb_tells s p) [
  | inl met ↦ absurd (omega (arith, met.1, low refl))
  | inr unmet ↦ let a : tick (leb s p) ≡ 0 = ap tick unmet.0 in omega (arith, a)
]

all_before : (f : ℕ → Bool) (s : ℕ) (gs : List GivenValue) → ((p : ℕ) → f p ≡ true → p < s) → from_on f s gs ≤ 0
all_before f s [] low = omega arith
all_before f s (g ∷ gs) low = omega (arith, counted f s g gs, before (f g.parameter) s g.parameter (low g.parameter), all_before f s gs low)

not_more : (f : ℕ → Bool) (gs : List GivenValue) → GivesEachOnce gs → (n s : ℕ) → ((p : ℕ) → f p ≡ true → p < s + n) → from_on f s gs ≤ count_by f (range_with_len s n)
not_more f gs once zero s low = omega (arith, all_before f s gs (λ p is. let l = low p is in omega (arith, l)))
not_more f gs once (suc n) s low =
    let rest = not_more f gs once n (s + 1) (λ p is. let l = low p is in omega (arith, l)) in
    omega (arith, sum_by-cons (λ p. tick (f p)) s (range_with_len (s + 1) n), at_most_one f s gs once, rest)

one_fewer : (f : ℕ → Bool) (gs : List GivenValue) → GivesEachOnce gs → (p : ℕ) → f p ≡ true → given_to gs p ≡ None → (n s : ℕ) → ((q : ℕ) → f q ≡ true → q < s + n) → s ≤ p → from_on f s gs < count_by f (range_with_len s n)
one_fewer f gs once p need none zero s low from = let l = low p need in absurd (omega (arith, l, from))
one_fewer f gs once p need none (suc n) s low from =
    let low_on : (q : ℕ) → f q ≡ true → q < s + 1 + n = λ q is. let l = low q is in omega (arith, l) in
    elim (eqb_tells p s) [
      | inl same ↦
          let one : tick (f s) ≡ 1 = ap tick (subst (λ q. f q ≡ true) same.1 need) in
          let lacks : given_to gs s ≡ None = subst (λ q. given_to gs q ≡ None) same.1 none in
          omega (arith, sum_by-cons (λ q. tick (f q)) s (range_with_len (s + 1) n), one, none_here f s gs lacks, not_more f gs once n (s + 1) low_on)
      | inr other ↦
          let later : s + 1 ≤ p = omega (arith, from, other.1) in
          omega (arith, sum_by-cons (λ q. tick (f q)) s (range_with_len (s + 1) n), at_most_one f s gs once, one_fewer f gs once p need none n (s + 1) low_on later)
    ]

is_there : (inner : Shape) (p : ℕ) (o : Option InheritedParameter) → slice_get inner.parameters.items p ≡ o → unwrap_or (option_map is_bare o) false && is_timed inner p ≡ true → p < 0 + length inner.parameters.items
is_there inner p None at need = absurd (cc)
is_there inner p (Some x) at need = let within = slice_get_within inner.parameters.items p x at in omega (arith, within)

-- none is lacking, if none is given twice
pub none_lacks : (inner : Shape) (child : Child) → needed_in inner ≤ needed_given inner child → GivesNeeded inner child
none_lacks inner child enough once (p, need, none) =
    let gs = child.given.items in
    let few = one_fewer (is_needed inner) gs once p need none (length inner.parameters.items) 0 (λ q is. is_there inner q (slice_get inner.parameters.items q) refl is) (omega arith) in
    absurd (omega (arith, enough, few, all_from (is_needed inner) gs))
