-- What stands twice in a list, and loops that note each element and stop at one that was met.
use Rattle.std.proofs.Common.{◌≡◌, ℕ, ◌+◌, ◌<◌, ◌≤◌, zero, suc, List, [], ◌∷◌, ◌++◌, map, take, length, get_or, slice_get, Some, Any, ◌⊎◌, inl, inr, ⊎_elim, refl, sym, ap, subst, ◌∙◌, arith}
use Rattle.std.proofs.lemmas.{Grind.common_steps, List.map-append, Option.{slice_get_within, get_or_from_slice_get, slice_get-get_or}}
use Rattle.lft_lists.proofs.Places.{get_left}
use Rattle.lft_resolve.specs.Causes.{IsTwice}

module _ {X : Type 0} where
  -- an element of a list with one more at its end
  pub pushed_at : (xs : List X) (y x : X) (i : ℕ) → slice_get (xs ++ y ∷ []) i ≡ Some x → (slice_get xs i ≡ Some x) ⊎ ((i ≡ length xs) × (x ≡ y))
  pushed_at [] y x zero at = inr (refl, (cc))
  pushed_at [] y x (suc i) at = absurd (cc)
  pushed_at (z ∷ xs) y x zero at = inl at
  pushed_at (z ∷ xs) y x (suc i) at = ⊎_elim (λ h. inl h) (λ h. inr (ap suc h.0, h.1)) (pushed_at xs y x i at)

  pub slice_get-middle : (xs rest : List X) (x : X) → slice_get (xs ++ x ∷ rest) (length xs) ≡ Some x
  slice_get-middle [] rest x = refl
  slice_get-middle (y ∷ xs) rest x = slice_get-middle xs rest x

  pub Any-at : (P : X → Type 0) (xs : List X) (k : ℕ) (x : X) → slice_get xs k ≡ Some x → P x → Any P xs
  Any-at P xs k x at p = (k, x, slice_get_within xs k x at, get_or_from_slice_get xs k x x at, p)

  pub at-Any : (P : X → Type 0) (xs : List X) → Any P xs → (k : ℕ) × (x : X) × (slice_get xs k ≡ Some x) × P x
  at-Any P xs (k, x, within, is, p) = (k, x, subst (λ y. slice_get xs k ≡ Some y) is (slice_get-get_or xs k x within), p)

  pub once_none : IsTwice {X = X} [] → ⊥
  once_none (i, j, x, lt, first, second) = absurd (cc)

  pub twice_left : (xs ys : List X) → IsTwice xs → IsTwice (xs ++ ys)
  twice_left xs ys (i, j, x, lt, first, second) = (i, j, x, lt, get_left xs ys i x first, get_left xs ys j x second)

  -- one more element stands twice only if it was met
  pub once_pushed : (xs : List X) (y : X) → (IsTwice xs → ⊥) → (Any (λ z. z ≡ y) xs → ⊥) → IsTwice (xs ++ y ∷ []) → ⊥
  once_pushed xs y once new (i, j, x, lt, first, second) = ⊎_elim
      (λ s. ⊎_elim (λ f. once (i, j, x, lt, f, s)) (λ f. let low = slice_get_within xs j x s in let e : i ≡ length xs = f.0 in absurd (omega arith)) (pushed_at xs y x i first))
      (λ s. ⊎_elim (λ f. new (Any-at (λ z. z ≡ y) xs i x f s.1)) (λ f. let e : i ≡ length xs = f.0 in let g : j ≡ length xs = s.0 in absurd (omega arith)) (pushed_at xs y x i first))
      (pushed_at xs y x j second)

-- an element that is there is the same whatever stands for those that aren't
pub get_or-itself : {X : Type 0} (xs : List X) (i : ℕ) (d : X) → i < length xs → get_or xs i (get_or xs i d) ≡ get_or xs i d
get_or-itself [] i d within = absurd (omega arith)
get_or-itself (x ∷ xs) zero d within = refl
get_or-itself (x ∷ xs) (suc i) d within = get_or-itself xs i d (omega arith)

-- one turn of a loop over a list, seen by v
module _ {A C : Type 0} (v : C → A) (xs : List C) (i : ℕ) where
  module _ (x : C) (lt : i < length xs) (is : get_or xs i x ≡ x) where
    pub map_last : map v (take (i + 1) xs) ≡ map v (take i xs) ++ v x ∷ []
    map_last = (let e : take (i + 1) xs ≡ take i xs ++ x ∷ [] = grind (arith, common_steps) in ap (map v) e) ∙ map-append v (take i xs) (x ∷ [])

    pub once_more : (IsTwice (map v (take i xs)) → ⊥) → (Any (λ z. z ≡ v x) (map v (take i xs)) → ⊥) → IsTwice (map v (take (i + 1) xs)) → ⊥
    once_more once new two = once_pushed (map v (take i xs)) (v x) once new (subst IsTwice map_last two)

  pub once_done : length xs ≤ i → (IsTwice (map v (take i xs)) → ⊥) → IsTwice (map v xs) → ⊥
  once_done past once two = let whole : take i xs ≡ xs = grind (arith, common_steps) in once (subst (λ l. IsTwice (map v l)) (sym whole) two)
