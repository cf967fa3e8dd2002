-- Lines of things, one behind another.
use Rattle.std.proofs.Common.{◌≡◌, ◌∙◌, ℕ, ◌+◌, List, [], ◌∷◌, ◌++◌, Some, take, flat_map, slice_get, ap, add-one, append-nil}
use Rattle.std.proofs.lemmas.Grind.{flat_map-append}
use Rattle.lft_lists.proofs.Picked.{take_next}

-- those of one thing more
pub lines_more : {X : Type 0} (f : X → List ℕ) (xs : List X) (k : ℕ) (x : X) → slice_get xs k ≡ Some x → flat_map f (take (k + 1) xs) ≡ flat_map f (take k xs) ++ f x
lines_more f xs k x e = ap (λ n. flat_map f (take n xs)) (add-one k) ∙ ap (λ ys. flat_map f ys) (take_next xs k x e) ∙ flat_map-append f (take k xs) (x ∷ []) ∙ ap (λ ys. flat_map f (take k xs) ++ ys) (append-nil (f x))
