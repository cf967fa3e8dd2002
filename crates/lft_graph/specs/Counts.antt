-- How many numbers there are of a kind.
use Rattle.std.specs.Prelude.{ℕ, ◌+◌}

-- n is the number of the numbers below k of which P holds
pub data Count (P : ℕ → Type 0) : ℕ → ℕ → Type 0 where
  none : Count P 0 0
  more : {k n : ℕ} → P k → Count P k n → Count P (k + 1) (n + 1)
  same : {k n : ℕ} → (P k → ⊥) → Count P k n → Count P (k + 1) n

-- n is the number of the pairs a < b of numbers below k of which P a b holds: those of each b are counted behind those of the lesser ones
pub data CountPairs (P : ℕ → ℕ → Type 0) : ℕ → ℕ → Type 0 where
  no_pairs : CountPairs P 0 0
  and_of : {k n m : ℕ} → CountPairs P k n → Count (λ a. P a k) k m → CountPairs P (k + 1) (n + m)
