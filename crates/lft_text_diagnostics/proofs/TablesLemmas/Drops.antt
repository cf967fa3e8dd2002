-- The first of the items that are left.
use Rattle.std.proofs.Common.{◌≡◌, ℕ, zero, suc, ◌+◌, ◌≤◌, arith, List, [], ◌∷◌, drop, add-one, ap, ◌∙◌, Some, slice_get}

-- it stands where the rest begins
pub first_left : {X : Type 0} (xs ys : List X) (n : ℕ) (y : X) → drop n xs ≡ y ∷ ys → slice_get xs n ≡ Some y
first_left [] ys zero y e = absurd (cc)
first_left [] ys (suc n) y e = absurd (cc)
first_left (x ∷ xs) ys zero y e = cc
first_left (x ∷ xs) ys (suc n) y e = first_left xs ys n y e

-- behind it are the others
pub others_left : {X : Type 0} (xs ys : List X) (n : ℕ) (y : X) → drop n xs ≡ y ∷ ys → drop (suc n) xs ≡ ys
others_left [] ys zero y e = absurd (cc)
others_left [] ys (suc n) y e = absurd (cc)
others_left (x ∷ xs) ys zero y e = cc
others_left (x ∷ xs) ys (suc n) y e = others_left xs ys n y e

-- the same, where a loop counts
pub left_more : {X : Type 0} (xs ys : List X) (n : ℕ) (y : X) → drop n xs ≡ y ∷ ys → drop (n + 1) xs ≡ ys
left_more xs ys n y e = ap (λ m. drop m xs) (add-one n) ∙ others_left xs ys n y e

-- where nothing is left, no item stands
pub none_left : {X : Type 0} (xs : List X) (n k : ℕ) (x : X) → drop n xs ≡ [] → n ≤ k → slice_get xs k ≡ Some x → ⊥
none_left [] n k x e order at = absurd (cc)
none_left (y ∷ xs) zero k x e order at = absurd (cc)
none_left (y ∷ xs) (suc n) zero x e order at = absurd (omega arith)
none_left (y ∷ xs) (suc n) (suc k) x e order at = none_left xs n k x e (omega arith) at
