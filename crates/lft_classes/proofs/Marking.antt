-- What is marked in lists.
use Rattle.std.proofs.Common.{◌≡◌, ◌↔◌, ◌⊎◌, ◌<◌, ◌≤◌, ◌+◌, ℕ, Bool, true, inl, inr, List, Some, length, slice_get, slice_set, refl, sym, subst, ◌∙◌, arith}
use Rattle.std.proofs.lemmas.{Bool.cases_eq, Option.slice_get_within}
use Rattle.lft_lists.proofs.Places.{get_there, get_unwritten, get_write_cases, get_written, length_written, same_at}
use Rattle.lft_classes.specs.inner.Needs.{Marks}

-- nothing
pub marks_none : (P : ℕ → Type 0) (list : List Bool) → ((n : ℕ) → P n → ⊥) → Marks P list list
marks_none P list none = record {
  count = refl;
  each = λ n at. inl at;
  kept = λ n at. at;
  all = λ n was at is. absurd (none n is);
}

-- by other words
pub marks_as : (P Q : ℕ → Type 0) (old new : List Bool) → Marks P old new → ((n : ℕ) → P n ↔ Q n) → Marks Q old new
marks_as P Q old new a same = record {
  count = a.count;
  each = λ n at. (elim (a.each n at) [ inl was ↦ inl was | inr is ↦ inr ((same n).0 is) ]);
  kept = a.kept;
  all = λ n was at is. a.all n was at ((same n).1 is);
}

-- in two steps
pub marks_on : (P Q R : ℕ → Type 0) (old now new : List Bool) → Marks P old now → Marks Q now new → ((n : ℕ) → (P n ⊎ Q n) ↔ R n) → Marks R old new
marks_on P Q R old now new a b same = record {
  count = b.count ∙ a.count;
  each = λ n at. (elim (b.each n at) [
    | inl on ↦ (elim (a.each n on) [ inl was ↦ inl was | inr is ↦ inr ((same n).0 (inl is)) ])
    | inr is ↦ inr ((same n).0 (inr is))
  ]);
  kept = λ n at. b.kept n (a.kept n at);
  all = λ n was at is. (elim ((same n).1 is) [
    | inl one ↦ b.kept n (a.all n was at one)
    | inr other ↦ (
        let within = slice_get_within old n was at in
        let there = get_there now n (omega (arith, within, a.count)) in
        b.all n there.0 there.1 other
        )
  ]);
}

-- one item that is written
pub marks_one : (list : List Bool) (i : ℕ) → i < length list → Marks (λ n. n ≡ i) list (slice_set list i true)
marks_one list i within = record {
  count = length_written list i true;
  each = λ n at. (elim (get_write_cases list i n true true within at) [ inl this ↦ inr this.0 | inr other ↦ inl other.1 ]);
  kept = λ n at. kept n at (cases_eq n i);
  all = λ n was at is. subst (λ k. slice_get (slice_set list i true) k ≡ Some true) (sym is) (get_written list i true within);
}
  where
    kept : (n : ℕ) → slice_get list n ≡ Some true → (n ≡ i) ⊎ (n ≡ i → ⊥) → slice_get (slice_set list i true) n ≡ Some true
    kept n at (inl e) = subst (λ k. slice_get (slice_set list i true) k ≡ Some true) (sym e) (get_written list i true within)
    kept n at (inr apart) = get_unwritten list i n true apart ∙ at

-- where there is no such item
pub marks_out : (list : List Bool) (i : ℕ) → (i < length list → ⊥) → Marks (λ n. n ≡ i) list list
marks_out list i out = record {
  count = refl;
  each = λ n at. inl at;
  kept = λ n at. at;
  all = λ n was at is. absurd (out (subst (λ k. k < length list) is (slice_get_within list n was at)));
}

-- one of the items below a place marks the number
abbrev pub AnyBelow : {X : Type 0} → (ℕ → X → ℕ → Type 0) → List X → ℕ → ℕ → Type 0
AnyBelow {X = X} Q xs bound n = (i : ℕ) × ((x : X) × (i < bound) × (slice_get xs i ≡ Some x) × Q i x n)

-- one item more
pub below_more : {X : Type 0} (Q : ℕ → X → ℕ → Type 0) (xs : List X) (i : ℕ) (x : X) (old now new : List Bool) → slice_get xs i ≡ Some x → Marks (AnyBelow Q xs i) old now → Marks (Q i x) now new → Marks (AnyBelow Q xs (i + 1)) old new
below_more {X = X} Q xs i x old now new at a b = marks_on (AnyBelow Q xs i) (Q i x) (AnyBelow Q xs (i + 1)) old now new a b (λ n. (there n, back n))
  where
    there : (n : ℕ) → AnyBelow Q xs i n ⊎ Q i x n → AnyBelow Q xs (i + 1) n
    there n (inl before) = (before.0, (before.1.0, (let lt = before.1.1 in omega (arith, lt)), before.1.2, before.1.3))
    there n (inr this) = (i, (x, omega arith, at, this))

    cases : (n : ℕ) (h : AnyBelow Q xs (i + 1) n) → (h.0 ≡ i) ⊎ (h.0 ≡ i → ⊥) → AnyBelow Q xs i n ⊎ Q i x n
    cases n h (inl e) = inr (subst (λ k. Q k x n) e (subst (λ y. Q h.0 y n) (same_at xs h.0 i h.1.0 x h.1.2 at e) h.1.3))
    cases n h (inr apart) = inl (h.0, (h.1.0, (let lt = h.1.1 in omega (arith, lt, apart)), h.1.2, h.1.3))

    back : (n : ℕ) → AnyBelow Q xs (i + 1) n → AnyBelow Q xs i n ⊎ Q i x n
    back n h = cases n h (cases_eq h.0 i)

-- all of them
pub below_all : {X : Type 0} (Q : ℕ → X → ℕ → Type 0) (xs : List X) (bound : ℕ) (P : ℕ → Type 0) (old new : List Bool) → length xs ≤ bound → Marks (AnyBelow Q xs bound) old new → ((n : ℕ) → ((i : ℕ) × ((x : X) × (slice_get xs i ≡ Some x) × Q i x n)) ↔ P n) → Marks P old new
below_all {X = X} Q xs bound P old new all a same = marks_as (AnyBelow Q xs bound) P old new a (λ n. (there n, back n))
  where
    there : (n : ℕ) → AnyBelow Q xs bound n → P n
    there n h = (same n).0 (h.0, (h.1.0, h.1.2, h.1.3))

    back : (n : ℕ) → P n → AnyBelow Q xs bound n
    back n is =
        let h = (same n).1 is in
        let within = slice_get_within xs h.0 h.1.0 h.1.1 in
        (h.0, (h.1.0, omega (arith, within, all), h.1.1, h.1.2))
