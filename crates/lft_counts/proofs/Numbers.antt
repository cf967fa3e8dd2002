-- Counts of places.
use Rattle.std.proofs.Common.{◌≡◌, ◌≢◌, ℕ, zero, suc, ◌+◌, ◌<◌, ◌⊎◌, inl, inr, List, length, replicate, refl, sym, ◌∙◌, subst, arith, Some, slice_get, slice_set}
use Rattle.lft_lists.proofs.Places.{get_write_cases, get_same}
use Rattle.lft_counts.specs.Counts.{AreCounts, IsOver}
use Rattle.lft_graph.specs.Counts.{Count, none, more, same}

pub is_over : (counts : List ℕ) (k n : ℕ) → slice_get counts k ≡ Some n → ¬ (n ≡ 0) → IsOver counts k
is_over counts k zero e z = absurd (z refl)
is_over counts k (suc n) e z = (suc n, e, omega arith)

pub not_over : (counts : List ℕ) (k n : ℕ) → slice_get counts k ≡ Some n → n ≡ 0 → IsOver counts k → ⊥
not_over counts k n e z x = let s : Some n ≡ Some x.0 = sym e ∙ x.1 in let q : n ≡ x.0 = cc in let l : 0 < x.0 = x.2 in absurd (omega arith)

-- before the first place
pub counts_none : (P : ℕ → ℕ → Type 0) (m : ℕ) → AreCounts P 0 (replicate m 0)
counts_none P m x n e = subst (λ k. Count (P x) 0 k) (sym (get_same m x 0 n e)) none

-- a place of one number
pub counts_more : (P : ℕ → ℕ → Type 0) (i : ℕ) (counts : List ℕ) (key n : ℕ) → slice_get counts key ≡ Some n → key < length counts → P key i → ((x : ℕ) → P x i → x ≡ key) → AreCounts P i counts → AreCounts P (i + 1) (slice_set counts key (n + 1))
counts_more P i counts key n was there here only so x k e = go (get_write_cases counts key x (n + 1) k there e)
  where
    go : ((x ≡ key) × (n + 1 ≡ k)) ⊎ ((x ≢ key) × (slice_get counts x ≡ Some k)) → Count (P x) (i + 1) k
    go (inl y) = subst (λ z. Count (P z) (i + 1) k) (sym y.0) (subst (λ z. Count (P key) (i + 1) z) y.1 (more here (so key n was)))
    go (inr y) = same (λ p. y.0 (only x p)) (so x k y.1)

-- a place of none
pub counts_same : (P : ℕ → ℕ → Type 0) (i : ℕ) (counts : List ℕ) → ((x : ℕ) → P x i → ⊥) → AreCounts P i counts → AreCounts P (i + 1) counts
counts_same P i counts never so x n e = same (never x) (so x n e)
