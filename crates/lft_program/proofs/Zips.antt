-- Loops that make one item of each element of a list.
use Rattle.std.proofs.Common.{◌≡◌, ℕ, ◌+◌, ◌<◌, List, [], ◌∷◌, ◌++◌, map, take, drop, length, get_or, refl, ap, ◌∙◌, arith}
use Rattle.std.{specs.List.AllZip, proofs.lemmas.{Grind.common_steps, List.map-append}}

module _ {A B : Type 0} (R : A → B → Type 0) where
  -- where one item at most goes with each element, one list at most goes with all
  pub AllZip-one : ((x : A) (y z : B) → R x y → R x z → y ≡ z) → (xs : List A) (ys zs : List B) → AllZip R xs ys → AllZip R xs zs → ys ≡ zs
  AllZip-one one [] [] [] a b = refl
  AllZip-one one [] [] (z ∷ zs) a b = absurd b
  AllZip-one one [] (y ∷ ys) zs a b = absurd a
  AllZip-one one (x ∷ xs) [] zs a b = absurd a
  AllZip-one one (x ∷ xs) (y ∷ ys) [] a b = absurd b
  AllZip-one one (x ∷ xs) (y ∷ ys) (z ∷ zs) a b = let h = one x y z a.0 b.0 in let t = AllZip-one one xs ys zs a.1 b.1 in cc

-- a list around one of its elements
pub around : {X : Type 0} (xs : List X) (i : ℕ) (x : X) → i < length xs → get_or xs i x ≡ x → xs ≡ take i xs ++ x ∷ drop (i + 1) xs
around xs i x lt is = grind (arith, common_steps)

module _ {A C : Type 0} (v : C → A) (xs : List C) (i : ℕ) (x : C) (lt : i < length xs) (is : get_or xs i x ≡ x) where
  pub map_around : map v xs ≡ map v (take i xs) ++ v x ∷ map v (drop (i + 1) xs)
  map_around = ap (map v) (around xs i x lt is) ∙ map-append v (take i xs) (x ∷ drop (i + 1) xs)
