-- What is in the instances of shapes.
use Rattle.std.proofs.Common.{◌≡◌, ◌<◌, inl, inr, ℕ, zero, suc, List, [], ◌∷◌, length, get_or, map, Some, slice_get, slice_set, refl, sym, ap, ◌∙◌}
use Rattle.std.proofs.lemmas.Option.{slice_get_read}
use Rattle.lft_lists.proofs.Members.{Mem}

-- maps that are the same for each of the items
pub map_alike : {X Y : Type 0} (f g : X → Y) (xs : List X) → ((x : X) → Mem x xs → f x ≡ g x) → map f xs ≡ map g xs
map_alike f g [] same = refl
map_alike {X} {Y} f g (x ∷ xs) same = ap (λ (y : Y). y ∷ map f xs) (same x (inl refl)) ∙ ap (λ (l : List Y). g x ∷ l) (map_alike f g xs (λ z m. same z (inr m)))

-- an item that is written over by one of the same image
pub map_written : {X Y : Type 0} (f : X → Y) (xs : List X) (i : ℕ) (x y : X) → slice_get xs i ≡ Some x → f y ≡ f x → map f (slice_set xs i y) ≡ map f xs
map_written f [] i x y at e = absurd (cc)
map_written f (z ∷ zs) zero x y at e = let same : z ≡ x = cc in ap (λ w. w ∷ map f zs) (e ∙ ap f (sym same))
map_written f (z ∷ zs) (suc i) x y at e = ap (λ ws. f z ∷ ws) (map_written f zs i x y at e)

-- the same, where the code has read the item
pub map_set : {X Y : Type 0} (f : X → Y) (xs : List X) (i : ℕ) (x y : X) → i < length xs → x ≡ get_or xs i x → f y ≡ f x → map f (slice_set xs i y) ≡ map f xs
map_set f xs i x y within is e = map_written f xs i x y (slice_get_read xs (length xs) i x refl within is) e
