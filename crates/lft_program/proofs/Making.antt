-- Loops that make one item of each thing by number.
use Rattle.std.proofs.Common.{◌≡◌, ℕ, suc, List, [], ◌∷◌, ◌++◌, ⊎_elim, length, slice_get, Some, refl, sym, ap, subst, ◌∙◌}
use Rattle.std.specs.List.{AllZip}
use Rattle.lft_lists.proofs.Places.{get_push_cases}

-- each item made so far goes with the thing of its number
abbrev pub Made : {B C : Type 0} → (ℕ → B → C → Type 0) → List B → List C → Type 0
Made {B} {C} S ys zs = (k : ℕ) (y : B) (z : C) → slice_get ys k ≡ Some y → slice_get zs k ≡ Some z → S k y z

pub made_more : {B C : Type 0} (S : ℕ → B → C → Type 0) (ys : List B) (zs : List C) (i : ℕ) (y : B) (z : C) → length zs ≡ i → Made S ys zs → slice_get ys i ≡ Some y → S i y z → Made S ys (zs ++ z ∷ [])
made_more S ys zs i y z long made at one k u v atu atv = ⊎_elim (λ old. made k u v atu old) last (get_push_cases zs z k v atv)
  where
    last : (k ≡ length zs) × (z ≡ v) → S k u v
    last (here, same) =
        let n : k ≡ i = here ∙ long in
        let there : slice_get ys k ≡ Some y = ap (slice_get ys) n ∙ at in
        let item : y ≡ u = cc in
        subst (λ w. S k u w) same (subst (λ w. S k w z) item (subst (λ w. S w y z) (sym n) one))

-- where things go with elements, and items with things, items go with elements
pub made_zip : {A B C : Type 0} (R : A → B → Type 0) (S : ℕ → B → C → Type 0) (T : A → C → Type 0) (xs : List A) (ys : List B) (zs : List C) → AllZip R xs ys → length zs ≡ length ys → Made S ys zs → ((k : ℕ) (x : A) (y : B) (z : C) → slice_get xs k ≡ Some x → R x y → S k y z → T x z) → AllZip T xs zs
made_zip R S T [] [] [] all long made then = tt
made_zip R S T [] [] (z ∷ zs) all long made then = absurd (cc)
made_zip R S T [] (y ∷ ys) zs all long made then = absurd all
made_zip R S T (x ∷ xs) [] zs all long made then = absurd all
made_zip R S T (x ∷ xs) (y ∷ ys) [] all long made then = absurd (cc)
made_zip R S T (x ∷ xs) (y ∷ ys) (z ∷ zs) all long made then =
    let same : length zs ≡ length ys = cc in
    (then 0 x y z refl all.0 (made 0 y z refl refl), made_zip R (λ k. S (suc k)) T xs ys zs all.1 same (λ k u v a b. made (suc k) u v a b) (λ k u v w a r s. then (suc k) u v w a r s))

pub made_all : {B C : Type 0} (S : B → C → Type 0) (ys : List B) (zs : List C) → length zs ≡ length ys → Made (λ _. S) ys zs → AllZip S ys zs
made_all S [] [] long made = tt
made_all S [] (z ∷ zs) long made = absurd (cc)
made_all S (y ∷ ys) [] long made = absurd (cc)
made_all S (y ∷ ys) (z ∷ zs) long made = let same : length zs ≡ length ys = cc in (made 0 y z refl refl, made_all S ys zs same (λ k u v a b. made (suc k) u v a b))
