-- Searches for a place, and runs of bytes.
use Rattle.std.proofs.Common.{◌≡◌, ℕ, zero, suc, ◌+◌, ◌-◌, ◌<◌, ◌≤◌, Bool, true, false, List, length, Option, Some, None, inl, inr, if◌then◌else◌, refl, sym, ap, subst, ◌∙◌, arith}
use Rattle.std.specs.Prelude.{slice_get, slice_index, not}
use Rattle.std.{specs.Option.option_map, proofs.lemmas.{Bool.cases_lt, Option.{slice_get-get_or, slice_get_past}}}
use Rattle.lft_syntax.specs.Lexes.{Run}
use Rattle.lft_whole.specs.Pieces.{is_of, sees, first, first_in, place_or, run_end, past}

-- no place from i up to j passes the test
abbrev pub NonePass : (ℕ → Bool) → ℕ → ℕ → Type 0
NonePass test i j = (k : ℕ) → i ≤ k → k < j → test k ≡ false

-- one more place that doesn't pass
pub none_more : (test : ℕ → Bool) (i j : ℕ) → NonePass test i j → test j ≡ false → NonePass test i (j + 1)
none_more test i j h here k a b = elim (cases_lt k j) [ inl lt ↦ h k a lt | inr ge ↦ let same : k ≡ j = omega arith in ap test same ∙ here ]

pub first_none : (test : ℕ → Bool) (n i : ℕ) → NonePass test i (i + n) → first test n i ≡ None
unfolding first
first_none test zero i h = refl
first_none test (suc n) i h = rw (h i (omega arith) (omega arith)) (first_none test n (i + 1) (λ k a b. h k (omega arith) (omega arith)))

pub first_found : (test : ℕ → Bool) (n i j : ℕ) → i ≤ j → j < i + n → test j ≡ true → NonePass test i j → first test n i ≡ Some j
unfolding first
first_found test zero i j a b there h = absurd (omega arith)
first_found test (suc n) i j a b there h = elim (cases_lt i j) [
  | inl lt ↦ rw (h i (omega arith) lt) (first_found test n (i + 1) j (omega arith) (omega arith) there (λ k c d. h k (omega arith) d))
  | inr ge ↦ let same : i ≡ j = omega arith in rw (same, there) refl
]

-- where nothing is found, nothing passes
none_step : (test : ℕ → Bool) (n i : ℕ) (b : Bool) → test i ≡ b → (if b then Some i else first test n (i + 1)) ≡ None → (first test n (i + 1) ≡ None → NonePass test (i + 1) (i + 1 + n)) → NonePass test i (i + suc n)
none_step test n i true e h ih = absurd cc
none_step test n i false e h ih = λ k a b. elim (cases_lt i k) [ inl lt ↦ ih h k (omega arith) (omega arith) | inr ge ↦ let same : k ≡ i = omega arith in ap test same ∙ e ]

pub none_says : (test : ℕ → Bool) (n i : ℕ) → first test n i ≡ None → NonePass test i (i + n)
unfolding first
none_says test zero i h = λ k a b. absurd (omega arith)
none_says test (suc n) i h = none_step test n i (test i) refl h (none_says test n (i + 1))

-- what is found passes, and is the first
abbrev pub IsFirst : (ℕ → Bool) → ℕ → ℕ → ℕ → Type 0
IsFirst test n i j = (i ≤ j) × (j < i + n) × (test j ≡ true) × NonePass test i j

found_step : (test : ℕ → Bool) (n i j : ℕ) (b : Bool) → test i ≡ b → (if b then Some i else first test n (i + 1)) ≡ Some j → (first test n (i + 1) ≡ Some j → IsFirst test n (i + 1) j) → IsFirst test (suc n) i j
found_step test n i j true e h ih = let same : i ≡ j = cc in (omega arith, omega arith, ap test (sym same) ∙ e, λ k a b. absurd (omega arith))
found_step test n i j false e h ih =
    let s = ih h in
    (omega (arith, s.0), omega (arith, s.1), s.2, λ k a b. elim (cases_lt i k) [ inl lt ↦ s.3 k (omega arith) b | inr ge ↦ let same : k ≡ i = omega arith in ap test same ∙ e ])

pub found_says : (test : ℕ → Bool) (n i j : ℕ) → first test n i ≡ Some j → IsFirst test n i j
unfolding first
found_says test zero i j h = absurd cc
found_says test (suc n) i j h = found_step test n i j (test i) refl h (found_says test n (i + 1) j)

-- ---- in a text

pub none_in : (t : List ℕ) (test : ℕ → Bool) (i : ℕ) → NonePass test i (length t) → first_in t test i ≡ None
none_in t test i h = first_none test (length t - i) i (λ k a b. h k a (omega arith))

pub found_in : (t : List ℕ) (test : ℕ → Bool) (i j : ℕ) → i ≤ j → j < length t → test j ≡ true → NonePass test i j → first_in t test i ≡ Some j
found_in t test i j a b there h = first_found test (length t - i) i j a (omega arith) there h

-- the closing bytes that are found end there
abbrev further : ℕ → Option ℕ → Option ℕ
further n o = option_map (λ j. j + n) o

pub found_past : (t : List ℕ) (test : ℕ → Bool) (n i j e : ℕ) → i ≤ j → j < length t → test j ≡ true → NonePass test i j → e ≡ j + n → Some e ≡ option_map (λ k. k + n) (first_in t test i)
found_past t test n i j e a b there h s = rw s (sym (ap (further n) (found_in t test i j a b there h)))

pub none_past : (t : List ℕ) (test : ℕ → Bool) (n i : ℕ) → NonePass test i (length t) → None ≡ option_map (λ k. k + n) (first_in t test i)
none_past t test n i h = sym (ap (further n) (none_in t test i h))

-- the byte that stands at a place
pub there : (t : List ℕ) (i : ℕ) → i < length t → slice_get t i ≡ Some (slice_index t i)
there t i lt = slice_get-get_or t i 0 lt

pub sees_there : (class : ℕ → Bool) (t : List ℕ) (i : ℕ) → i < length t → sees class t i ≡ class (slice_index t i)
sees_there class t i lt = ap (is_of class) (there t i lt)

-- a run ends where the definition says
pub run_is : (class : ℕ → Bool) (t : List ℕ) (i j : ℕ) → Run class t i j → run_end class t i ≡ j
unfolding run_end
run_is class t i j run =
    let order = run.order in
    let within = run.within in
    let each : NonePass (λ k. not (sees class t k)) i j = λ k a b. ap not (sees_there class t k (omega arith) ∙ run.each k a b) in
    elim (cases_lt j (length t)) [
      | inl lt ↦ ap (place_or (length t)) (found_in t (λ k. not (sees class t k)) i j order lt (ap not (sees_there class t j lt ∙ run.stops lt)) each)
      | inr ge ↦ let same : length t ≡ j = omega arith in ap (place_or (length t)) (none_in t (λ k. not (sees class t k)) i (λ k a b. each k a (omega arith))) ∙ same
    ]

-- a run that begins with a byte of its class goes further
pub run_more : (class : ℕ → Bool) (t : List ℕ) (i j : ℕ) → sees class t i ≡ true → Run class t i j → i < j
run_more class t i j seen run = elim (cases_lt i j) [
  | inl lt ↦ lt
  | inr ge ↦
      let same : j ≡ i = omega (arith, run.order, ge) in
      elim (cases_lt i (length t)) [
        | inl lt ↦ let stop : class (slice_index t i) ≡ false = subst (λ (n : ℕ). class (slice_index t n) ≡ false) same (run.stops (omega arith)) in absurd (let is = sees_there class t i lt in cc)
        | inr past ↦ let none : sees class t i ≡ false = ap (is_of class) (slice_get_past t i past) in absurd cc
      ]
]
