-- Lists that are made one item after another.
use Rattle.std.proofs.Common.{◌≡◌, ℕ, ◌+◌, ◌<◌, List, [], ◌∷◌, ◌++◌, length, take, map, get_or, append-nil, append_assoc, Some, inl, inr, slice_get, sym, ap, subst, ◌∙◌, arith}
use Rattle.std.specs.Prelude.{flat_map}
use Rattle.std.proofs.lemmas.{Bool.cases_lt, List.{take_more, map-append}, Grind.flat_map-append}
use Rattle.lft_lists.proofs.Places.{same_at}

-- an item more behind others, of which the image is that of the next one
pub pushed : {X Y Z : Type 0} (f : X → Z) (g : Y → Z) (before : List Z) (xs : List X) (ys : List Y) (i : ℕ) (x : X) (y : Y) → i < length ys → get_or ys i y ≡ y → f x ≡ g y → map f xs ≡ before ++ map g (take i ys) → map f (xs ++ x ∷ []) ≡ before ++ map g (take (i + 1) ys)
pushed f g before xs ys i x y within at same sofar =
    let more : take (i + 1) ys ≡ take i ys ++ y ∷ [] = take_more ys i y within ∙ ap (λ z. take i ys ++ z ∷ []) at in
    let right : map g (take (i + 1) ys) ≡ map g (take i ys) ++ g y ∷ [] = ap (map g) more ∙ map-append g (take i ys) (y ∷ []) in
    map-append f xs (x ∷ []) ∙ ap (λ l. l ++ f x ∷ []) sofar ∙ ap (λ z. (before ++ map g (take i ys)) ++ z ∷ []) same ∙ append_assoc before (map g (take i ys)) (g y ∷ []) ∙ ap (λ l. before ++ l) (sym right)

-- one part more
pub flat_more : {X Z : Type 0} (f : X → List Z) (xs : List X) (i : ℕ) (x : X) → i < length xs → get_or xs i x ≡ x → flat_map f (take (i + 1) xs) ≡ flat_map f (take i xs) ++ f x
flat_more f xs i x within at =
    let more : take (i + 1) xs ≡ take i xs ++ x ∷ [] = take_more xs i x within ∙ ap (λ z. take i xs ++ z ∷ []) at in
    ap (flat_map f) more ∙ flat_map-append f (take i xs) (x ∷ []) ∙ ap (λ l. flat_map f (take i xs) ++ l) (append-nil (f x))

-- what holds of each item before one holds of that one too
pub below_one : {X : Type 0} (P : ℕ → X → Type 0) (xs : List X) (k : ℕ) (x : X) → slice_get xs k ≡ Some x → ((j : ℕ) (y : X) → j < k → slice_get xs j ≡ Some y → P j y) → P k x → (j : ℕ) (y : X) → j < k + 1 → slice_get xs j ≡ Some y → P j y
below_one P xs k x at before is j y lt there = elim (cases_lt j k) [
  | inl l ↦ before j y l there
  | inr g ↦ (let e : k ≡ j = omega (arith, lt, g) in subst (P j) (same_at xs k j x y at there e) (subst (λ n. P n x) e is))
]
