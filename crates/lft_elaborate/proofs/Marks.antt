-- Numbers that are put into a list once.
use Rattle.std.proofs.Common.{◌≡◌, ◌≢◌, ℕ, zero, suc, ◌<◌, ◌⊎◌, inl, inr, Bool, true, false, List, [], ◌∷◌, ◌++◌, length, Option, Some, slice_get, slice_set, unwrap_or, refl, sym, ap, subst, ◌∙◌}
use Rattle.std.proofs.lemmas.Bool.{cases_eq}
use Rattle.lft_lists.proofs.Places.{get_last, get_push, get_push_cases, get_unwritten, get_written}
use Rattle.lft_classes.specs.inner.Walks.{Has}
use Rattle.lft_elaborate.specs.inner.Used.{AreMarked, Stay, is_marked}

-- a mark that isn't set changes nothing
pub unmarked_more : (marks : List Bool) (k : ℕ) → is_marked (marks ++ false ∷ []) k ≡ is_marked marks k
unmarked_more [] zero = refl
unmarked_more [] (suc k) = refl
unmarked_more (b ∷ marks) zero = refl
unmarked_more (b ∷ marks) (suc k) = unmarked_more marks k

pub marks_more : (used : List ℕ) (marks : List Bool) → AreMarked used marks → AreMarked used (marks ++ false ∷ [])
marks_more used marks a = record {
  listed = λ k e. a.listed k (sym (unmarked_more marks k) ∙ e);
  marked = λ k h. unmarked_more marks k ∙ a.marked k h;
  once = a.once;
}

pub stay_push : (used : List ℕ) (n : ℕ) → Stay used (used ++ n ∷ [])
stay_push used n i k e = get_push used n i k e

pub only_push : (used : List ℕ) (n k : ℕ) → Has (used ++ n ∷ []) k → Has used k ⊎ (k ≡ n)
only_push used n k h = elim (get_push_cases used n h.0 k h.1) [ inl w ↦ inl (h.0, w) | inr w ↦ inr (sym w.1) ]

pub last_has : (used : List ℕ) (n : ℕ) → Has (used ++ n ∷ []) n
last_has used n = (length used, get_last used n)

-- a number that has no mark yet
module _ (used : List ℕ) (marks : List Bool) (n : ℕ) (a : AreMarked used marks) (within : n < length marks) (free : is_marked marks n ≡ false) where
  same_mark : (k : ℕ) → k ≢ n → is_marked (slice_set marks n true) k ≡ is_marked marks k
  same_mark k apart = ap (λ (o : Option Bool). unwrap_or o false) (get_unwritten marks n k true apart)

  own_mark : is_marked (slice_set marks n true) n ≡ true
  own_mark = ap (λ (o : Option Bool). unwrap_or o false) (get_written marks n true within)

  not_there : Has used n → ⊥
  not_there h = let e : is_marked marks n ≡ true = a.marked n h in cc

  listed_more : (k : ℕ) → is_marked (slice_set marks n true) k ≡ true → Has (used ++ n ∷ []) k
  listed_more k e = elim (cases_eq k n) [
    | inl same ↦ subst (Has (used ++ n ∷ [])) (sym same) (last_has used n)
    | inr apart ↦ let h = a.listed k (sym (same_mark k apart) ∙ e) in (h.0, get_push used n h.0 k h.1)
  ]

  marked_more : (k : ℕ) → Has (used ++ n ∷ []) k → is_marked (slice_set marks n true) k ≡ true
  marked_more k h = elim (cases_eq k n) [
    | inl same ↦ subst (λ i. is_marked (slice_set marks n true) i ≡ true) (sym same) own_mark
    | inr apart ↦ same_mark k apart ∙ elim (only_push used n k h) [ inl was ↦ a.marked k was | inr same ↦ absurd (apart same) ]
  ]

  once_more : (i j k : ℕ) → slice_get (used ++ n ∷ []) i ≡ Some k → slice_get (used ++ n ∷ []) j ≡ Some k → i ≡ j
  once_more i j k e f = go (get_push_cases used n i k e) (get_push_cases used n j k f)
    where
      go : (slice_get used i ≡ Some k) ⊎ ((i ≡ length used) × (n ≡ k)) → (slice_get used j ≡ Some k) ⊎ ((j ≡ length used) × (n ≡ k)) → i ≡ j
      go (inl p) (inl q) = a.once i j k p q
      go (inl p) (inr q) = absurd (not_there (subst (Has used) (sym q.1) (i, p)))
      go (inr p) (inl q) = absurd (not_there (subst (Has used) (sym p.1) (j, q)))
      go (inr p) (inr q) = p.0 ∙ sym q.0

  pub marks_put : AreMarked (used ++ n ∷ []) (slice_set marks n true)
  marks_put = record { listed = listed_more; marked = marked_more; once = once_more }
