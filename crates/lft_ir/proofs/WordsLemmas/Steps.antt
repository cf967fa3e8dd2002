-- One more item of a list, as loops take it.
use Rattle.std.proofs.Common.{◌≡◌, ℕ, zero, suc, ◌+◌, ◌≤◌, ◌∷◌, [], List, ◌++◌, length, take, take_all, drop, add-one, append-nil, append_assoc, sym, ap, ◌∙◌, Some, slice_get, flat_map, fold}

-- what is left from a place on begins with the item there
pub drop_next : {X : Type 0} (xs : List X) (i : ℕ) (x : X) → slice_get xs i ≡ Some x → drop i xs ≡ x ∷ drop (suc i) xs
drop_next [] i x e = absurd (cc)
drop_next (y ∷ ys) zero x e = let q : y ≡ x = cc in ap (λ z. z ∷ ys) q
drop_next (y ∷ ys) (suc i) x e = drop_next ys i x e

-- a text of one more item
pub flat_next : {X Y : Type 0} (f : X → List Y) (xs : List X) (i : ℕ) (x : X) → slice_get xs i ≡ Some x → flat_map f (take (suc i) xs) ≡ flat_map f (take i xs) ++ f x
flat_next f [] i x e = absurd (cc)
flat_next f (y ∷ ys) zero x e = let q : y ≡ x = cc in append-nil (f y) ∙ ap f q
flat_next f (y ∷ ys) (suc i) x e = ap (λ zs. f y ++ zs) (flat_next f ys i x e) ∙ sym (append_assoc (f y) (flat_map f (take i ys)) (f x))

-- a fold over one more item
pub fold_next : {X Y : Type 0} (f : Y → X → Y) (a : Y) (xs : List X) (i : ℕ) (x : X) → slice_get xs i ≡ Some x → fold f a (take (suc i) xs) ≡ f (fold f a (take i xs)) x
fold_next f a [] i x e = absurd (cc)
fold_next f a (y ∷ ys) zero x e = let q : y ≡ x = cc in ap (f a) q
fold_next f a (y ∷ ys) (suc i) x e = fold_next f (f a y) ys i x e

-- one more piece behind a text
pub also : (s0 s1 s2 a b : List ℕ) → s1 ≡ s0 ++ a → s2 ≡ s1 ++ b → s2 ≡ s0 ++ (a ++ b)
also s0 s1 s2 a b e f = f ∙ ap (λ s. s ++ b) e ∙ append_assoc s0 a b

-- what is put behind a list for each item of another: one more, and all
pub said_more : {X Y : Type 0} (f : X → List Y) (xs : List X) (i : ℕ) (x : X) (s old new : List Y) → slice_get xs i ≡ Some x → old ≡ s ++ flat_map f (take i xs) → new ≡ old ++ f x → new ≡ s ++ flat_map f (take (i + 1) xs)
said_more f xs i x s old new e so_far is =
    is ∙ ap (λ zs. zs ++ f x) so_far
    ∙ append_assoc s (flat_map f (take i xs)) (f x)
    ∙ ap (λ zs. s ++ zs) (sym (flat_next f xs i x e))
    ∙ ap (λ n. s ++ flat_map f (take n xs)) (sym (add-one i))

pub said_all : {X Y : Type 0} (f : X → List Y) (xs : List X) (i : ℕ) (s all : List Y) → length xs ≤ i → all ≡ s ++ flat_map f (take i xs) → all ≡ s ++ flat_map f xs
said_all f xs i s all l so_far = so_far ∙ ap (λ zs. s ++ flat_map f zs) (take_all i xs l)

-- a fold of one more item, where a loop counts
pub fold_more : {X Y : Type 0} (f : Y → X → Y) (a : Y) (xs : List X) (i : ℕ) (x : X) (old new : Y) → slice_get xs i ≡ Some x → old ≡ fold f a (take i xs) → new ≡ f old x → new ≡ fold f a (take (i + 1) xs)
fold_more f a xs i x old new e so_far is = is ∙ ap (λ b. f b x) so_far ∙ sym (fold_next f a xs i x e) ∙ ap (λ n. fold f a (take n xs)) (sym (add-one i))
