-- Two lists place by place, and lists of what is there.
use Rattle.std.proofs.Common.{◌≡◌, ℕ, suc, List, [], ◌∷◌, map, length, refl, arith, Option, Some, None, slice_get}
use Rattle.std.specs.{List.AllZip, Option.option_and_then}

module _ {A B : Type 0} (R : A → B → Type 0) where
  -- lists of one length whose elements go together at each place
  pub zip_of : (xs : List A) (ys : List B) → length xs ≡ length ys → ((k : ℕ) (x : A) (y : B) → slice_get xs k ≡ Some x → slice_get ys k ≡ Some y → R x y) → AllZip R xs ys
  zip_of [] [] long each = tt
  zip_of [] (y ∷ ys) long each = absurd (omega arith)
  zip_of (x ∷ xs) [] long each = absurd (omega arith)
  zip_of (x ∷ xs) (y ∷ ys) long each = (each 0 x y refl refl, zip_of xs ys (omega arith) (λ k u v a b. each (suc k) u v a b))

-- values that are those of the elements
pub same_values : {X Y : Type 0} (f : X → Y) (ys : List Y) (xs : List X) → AllZip (λ y x. y ≡ f x) ys xs → ys ≡ map f xs
same_values f [] [] all = refl
same_values f [] (x ∷ xs) all = absurd all
same_values f (y ∷ ys) [] all = absurd all
same_values f (y ∷ ys) (x ∷ xs) all = let a : y ≡ f x = all.0 in let b : ys ≡ map f xs = same_values f ys xs all.1 in cc

-- what a step that led somewhere came by
pub then_some : {X Y : Type 0} (f : X → Option Y) (o : Option X) (y : Y) → option_and_then f o ≡ Some y → (x : X) × (o ≡ Some x) × (f x ≡ Some y)
then_some f None y e = absurd (cc)
then_some f (Some x) y e = (x, refl, e)
