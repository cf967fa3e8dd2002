-- The first element of a list that passes a test.
use Rattle.std.proofs.Common.{◌≡◌, ℕ, ◌<◌, zero, suc, Bool, true, false, cond, List, [], ◌∷◌, map, filter, find, take, length, get_or, Some, Any, refl, ap, ◌∙◌, arith}
use Rattle.lft_resolve.proofs.Somes.{Any-head, Any-tail}

module _ {A C : Type 0} (v : C → A) (test : A → Bool) where
  -- what passes, where nothing before it does, is found
  pub first_found : (xs : List C) (i : ℕ) (x : C) → i < length xs → get_or xs i x ≡ x → (Any (λ y. test y ≡ true) (map v (take i xs)) → ⊥) → test (v x) ≡ true → find test (map v xs) ≡ Some (v x)
  first_found [] i x within is none passes = absurd (omega arith)
  first_found (y ∷ xs) zero x within is none passes = let e : v y ≡ v x = ap v is in let p : test (v y) ≡ true = ap test e ∙ passes in ap (λ b. cond b (Some (v y)) (find test (map v xs))) p ∙ ap Some e
  first_found (y ∷ xs) (suc i) x within is none passes = by (test (v y)) refl (first_found xs i x (omega arith) is (λ a. none (Any-tail (λ z. test z ≡ true) (v y) (map v (take i xs)) a)) passes)
    where
      by : (b : Bool) → test (v y) ≡ b → find test (map v xs) ≡ Some (v x) → cond b (Some (v y)) (find test (map v xs)) ≡ Some (v x)
      by true e rest = absurd (none (Any-head (λ z. test z ≡ true) (v y) (map v (take i xs)) e))
      by false e rest = rest

pub none_passes : {A : Type 0} (test : A → Bool) (xs : List A) → (Any (λ y. test y ≡ true) xs → ⊥) → filter test xs ≡ []
none_passes test [] none = refl
none_passes {A} test (x ∷ xs) none = by (test x) refl (none_passes test xs (λ a. none (Any-tail (λ z. test z ≡ true) x xs a)))
  where
    by : (b : Bool) → test x ≡ b → filter test xs ≡ [] → cond b (x ∷ filter test xs) (filter test xs) ≡ []
    by true e rest = absurd (none (Any-head (λ z. test z ≡ true) x xs e))
    by false e rest = rest
