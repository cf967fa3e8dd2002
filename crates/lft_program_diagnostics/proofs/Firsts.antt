-- The first item that passes a test, as a loop looks for it.
use Rattle.std.proofs.Common.{◌≡◌, ℕ, suc, ◌+◌, ◌≤◌, Bool, true, false, cond, List, length, drop, find, add-one, sym, ap, ◌∙◌, Some, None, slice_get}
use Rattle.std.proofs.lemmas.List.{drop_all}
use Rattle.lft_ir.proofs.WordsLemmas.Steps.{drop_next}

-- what is looked at at one place
looked : {X : Type 0} (p : X → Bool) (xs : List X) (n : ℕ) (x : X) (b : Bool) → slice_get xs n ≡ Some x → p x ≡ b → find p (drop n xs) ≡ cond b (Some x) (find p (drop (suc n) xs))
looked p xs n x b there is = ap (find p) (drop_next xs n x there) ∙ ap (λ c. cond c (Some x) (find p (drop (suc n) xs))) is

-- it is the first
pub found_here : {X : Type 0} (p : X → Bool) (xs : List X) (n : ℕ) (x : X) → slice_get xs n ≡ Some x → p x ≡ true → find p (drop n xs) ≡ find p xs → Some x ≡ find p xs
found_here p xs n x there holds same = sym (looked p xs n x true there holds) ∙ same

-- it is a later one
pub found_later : {X : Type 0} (p : X → Bool) (xs : List X) (n : ℕ) (x : X) → slice_get xs n ≡ Some x → p x ≡ false → find p (drop n xs) ≡ find p xs → find p (drop (n + 1) xs) ≡ find p xs
found_later p xs n x there fails same = ap (λ m. find p (drop m xs)) (add-one n) ∙ sym (looked p xs n x false there fails) ∙ same

-- there is none
pub found_none : {X : Type 0} (p : X → Bool) (xs : List X) (n : ℕ) → length xs ≤ n → find p (drop n xs) ≡ find p xs → None ≡ find p xs
found_none p xs n l same = sym (ap (find p) (drop_all n xs l)) ∙ same
