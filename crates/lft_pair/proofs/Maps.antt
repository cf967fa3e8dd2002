-- Two maps of one list that are the same so far.
use Rattle.std.proofs.Common.{◌≡◌, ℕ, zero, suc, List, [], ◌∷◌, map, sym, ap, ◌∙◌, Some, slice_get}

-- equal maps of equal lengths have equal items
pub map_get : {X Y : Type 0} (f h : X → Y) (xs : List X) (i : ℕ) (x : X) → map f xs ≡ map h xs → slice_get xs i ≡ Some x → f x ≡ h x
map_get f h [] i x e q = absurd (cc)
map_get f h (y ∷ ys) zero x e q = let a : f y ≡ h y = cc in let b : y ≡ x = cc in ap f (sym b) ∙ a ∙ ap h b
map_get f h (y ∷ ys) (suc i) x e q = let a : map f ys ≡ map h ys = cc in map_get f h ys i x a q
