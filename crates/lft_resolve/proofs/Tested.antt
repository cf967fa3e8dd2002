-- What a set has after one more element, where a test says what is in it.
use Rattle.std.proofs.Common.{◌≡◌, Bool, true, false, cond, not, List, [], ◌∷◌, ◌++◌, Any, ◌⊎◌, inl, inr, ⊎_elim, refl, sym, ap, subst, ◌∙◌, Decides}
use Rattle.lft_resolve.{specs.inner.Tests.IsTestOf, proofs.Somes.{Any-nil, Any-head, Any-left, Any-right, Any-append_cases, Any-cases}}

pub test_none : {X : Type 0} (test : X → Bool) → ((q : X) → test q ≡ false) → IsTestOf test []
test_none {X} test none = record { known = λ q e. (let f = none q in absurd (cc)); passes = λ q a. absurd (Any-nil (λ z. z ≡ q) a) }

-- one more element, where `same` is the test of equality
module _ {X : Type 0} (same : X → X → Bool) (decides : (a b : X) → Decides (same a b) (a ≡ b)) where
  pub test_more : (old new : X → Bool) (xs : List X) (r : X) → IsTestOf old xs → ((q : X) → new q ≡ cond (same r q) true (old q)) → IsTestOf new (xs ++ r ∷ [])
  test_more old new xs r has added = record { known = λ q e. known q (same r q) refl (sym (added q) ∙ e); passes = λ q a. added q ∙ passes q (same r q) refl (Any-append_cases (λ z. z ≡ q) xs (r ∷ []) a) }
    where
      known : (q : X) (b : Bool) → same r q ≡ b → cond (same r q) true (old q) ≡ true → Any (λ z. z ≡ q) (xs ++ r ∷ [])
      known q true e h = Any-right (λ z. z ≡ q) xs (r ∷ []) (Any-head (λ z. z ≡ q) r [] ((decides r q).0 e))
      known q false e h = Any-left (λ z. z ≡ q) xs (r ∷ []) (has.known q (subst (λ b. cond b true (old q) ≡ true) e h))

      passes : (q : X) (b : Bool) → same r q ≡ b → Any (λ z. z ≡ q) xs ⊎ Any (λ z. z ≡ q) (r ∷ []) → cond (same r q) true (old q) ≡ true
      passes q true e a = ap (λ b. cond b true (old q)) e
      passes q false e (inl a) = ap (λ b. cond b true (old q)) e ∙ has.passes q a
      passes q false e (inr a) = ⊎_elim (λ is. (let s = (decides r q).1 is in absurd (cc))) (λ none. absurd (Any-nil (λ z. z ≡ q) none)) (Any-cases (λ z. z ≡ q) r [] a)

-- what an insertion answers: true of a new element, false of one that was met
module _ {X : Type 0} (test : X → Bool) (xs : List X) (r : X) (b : Bool) (has : IsTestOf test xs) (is : b ≡ not (test r)) where
  pub was_new : b ≡ true → Any (λ z. z ≡ r) xs → ⊥
  was_new new met = let h = has.passes r met in absurd (let k : true ≡ not true = sym new ∙ is ∙ ap not h in cc)

  pub was_met : b ≡ false → Any (λ z. z ≡ r) xs
  was_met old = has.known r (by (test r) (sym old ∙ is))
    where
      by : (h : Bool) → false ≡ not h → h ≡ true
      by true e = refl
      by false e = absurd (cc)
