-- What mapped and numbered lists have at their places.
use Rattle.std.proofs.Common.{◌≡◌, ℕ, zero, suc, ◌+◌, ◌<◌, List, [], ◌∷◌, map, Option, Some, None, option_map, slice_get, get_or, length, refl, ap, ◌∙◌, arith, inl, inr, sym}
use Rattle.std.specs.List.{enumerate_from, zip}
use Rattle.lft_lists.proofs.Members.{Mem}

pub mapped : {X Y : Type 0} (f : X → Y) (xs : List X) (k : ℕ) (x : X) → slice_get xs k ≡ Some x → slice_get (map f xs) k ≡ Some (f x)
mapped f [] k x e = absurd (cc)
mapped f (z ∷ xs) zero x e = let q : z ≡ x = cc in ap (λ w. Some (f w)) q
mapped f (z ∷ xs) (suc k) x e = mapped f xs k x e

-- the item at an index, seen by f
pub mapped_at : {X Y : Type 0} (f : X → Y) (xs : List X) (i : ℕ) (x : X) → i < length xs → get_or xs i x ≡ x → slice_get (map f xs) i ≡ Some (f x)
mapped_at f [] i x within is = absurd (omega arith)
mapped_at f (y ∷ xs) zero x within is = ap (λ z. Some (f z)) is
mapped_at f (y ∷ xs) (suc i) x within is = mapped_at f xs i x (omega arith) is

-- and from what
pub mapped_from : {X Y : Type 0} (f : X → Y) (xs : List X) (i : ℕ) (y : Y) → slice_get (map f xs) i ≡ Some y → (x : X) × (slice_get xs i ≡ Some x) × (f x ≡ y)
mapped_from f [] i y at = absurd (cc)
mapped_from f (x ∷ xs) zero y at = (x, refl, (cc))
mapped_from f (x ∷ xs) (suc i) y at = mapped_from f xs i y at

pub enumerate_at : {X : Type 0} (i : ℕ) (xs : List X) (n : ℕ) (x : X) → slice_get xs n ≡ Some x → slice_get (enumerate_from i xs) n ≡ Some (i + n, x)
enumerate_at i [] n x e = absurd (cc)
enumerate_at i (z ∷ xs) zero x e = let q : z ≡ x = cc in let j : i ≡ i + 0 = omega arith in ap (λ w. Some (i, w)) q ∙ ap (λ w. Some (w, x)) j
enumerate_at i (z ∷ xs) (suc n) x e = let j : (i + 1) + n ≡ i + suc n = omega arith in enumerate_at (i + 1) xs n x e ∙ ap (λ w. Some (w, x)) j

-- what a mapped option comes from
pub option_map_some : {X Y : Type 0} (f : X → Y) (o : Option X) (y : Y) → option_map f o ≡ Some y → (x : X) × (o ≡ Some x) × (f x ≡ y)
option_map_some f None y e = absurd (cc)
option_map_some f (Some x) y e = (x, refl, (cc))

-- maps that give one list agree on its members
pub map_same : {X Y : Type 0} (f h : X → Y) (xs : List X) (x : X) → map f xs ≡ map h xs → Mem x xs → f x ≡ h x
map_same f h [] x e m = absurd m
map_same f h (y ∷ ys) x e (inl q) = let a : f y ≡ h y = cc in ap f (sym q) ∙ a ∙ ap h q
map_same f h (y ∷ ys) x e (inr m) = let a : map f ys ≡ map h ys = cc in map_same f h ys x a m

-- items at one place of two lists stand beside one another
pub pair_at : {X Y : Type 0} (xs : List X) (ys : List Y) (k : ℕ) (x : X) (y : Y) → slice_get xs k ≡ Some x → slice_get ys k ≡ Some y → slice_get (zip xs ys) k ≡ Some (x, y)
pair_at [] ys k x y e f = absurd (cc)
pair_at (z ∷ xs) [] k x y e f = absurd (cc)
pair_at (z ∷ xs) (w ∷ ys) zero x y e f = let a : z ≡ x = cc in let b : w ≡ y = cc in ap (λ v. Some (v, w)) a ∙ ap (λ v. Some (x, v)) b
pair_at (z ∷ xs) (w ∷ ys) (suc k) x y e f = pair_at xs ys k x y e f
