-- Pairs of numbers, each counted with one of the two.
use Rattle.std.proofs.Common.{◌≡◌, ℕ, zero, suc, ◌+◌, ◌*◌, ◌<◌, ◌≤◌, ◌⊎◌, inl, inr, refl, sym, subst, arith}
use Rattle.lft_graph.{specs.Counts.{Count, none, more, same, CountPairs, no_pairs, and_of}, proofs.Counting.{last, either, count_within, count_same, count_not}}

-- s is the sum of the counts at the numbers below k, each of those below n of which C a b holds
pub data Rows (C : ℕ → ℕ → Type 0) (n : ℕ) : ℕ → ℕ → Type 0 where
  no_rows : Rows C n 0 0
  and_row : {k s m : ℕ} → Rows C n k s → Count (λ a. C a k) n m → Rows C n (k + 1) (s + m)

-- a sum of few counts
pub rows_within : {C : ℕ → ℕ → Type 0} {n k s : ℕ} → n ≤ 10000 → Rows C n k s → s ≤ k * 10000
rows_within l no_rows = omega arith
rows_within {C} {n} l (and_row {k = k} {s = s} {m = m} rows c) = let x : s ≤ k * 10000 = rows_within l rows in let y : m ≤ n = count_within c in omega arith

no_row : {C : ℕ → ℕ → Type 0} {n l s : ℕ} → l ≡ 0 → Rows C n l s → s ≡ 0
no_row e no_rows = refl
no_row e (and_row rows c) = absurd (omega arith)

last_row : {C : ℕ → ℕ → Type 0} {n k l s : ℕ} → l ≡ k + 1 → Rows C n l s → (x : ℕ) × (m : ℕ) × Rows C n k x × Count (λ a. C a k) n m × (s ≡ x + m)
last_row e no_rows = absurd (omega arith)
last_row {C} {n} {k} e (and_row {k = q} {s = s} {m = m} rows c) = let f : q ≡ k = omega arith in (s, m, subst (λ z. Rows C n z s) f rows, subst (λ z. Count (λ a. C a z) n m) f c, refl)

module _ (C : ℕ → ℕ → Type 0) where
  -- the counts of one number fewer, and what that number adds to them
  narrow : (n : ℕ) {k s : ℕ} → Rows C (n + 1) k s → (x : ℕ) × (y : ℕ) × Rows C n k x × Count (λ b. C n b) k y × (s ≡ x + y)
  narrow n no_rows = (0, 0, no_rows, none, refl)
  narrow n (and_row {k = k} {s = s} {m = m} rows c) = go (narrow n rows) (last refl c)
    where
      go : (x : ℕ) × (y : ℕ) × Rows C n k x × Count (λ b. C n b) k y × (s ≡ x + y) → (j : ℕ) × Count (λ a. C a k) n j × (((m ≡ j + 1) × C n k) ⊎ ((m ≡ j) × (C n k → ⊥))) → (x : ℕ) × (y : ℕ) × Rows C n (k + 1) x × Count (λ b. C n b) (k + 1) y × (s + m ≡ x + y)
      go (x, y, r, d, e) (j, f, inl p) = let g = p.0 in (x + j, y + 1, and_row r f, more p.1 d, omega (arith, e, g))
      go (x, y, r, d, e) (j, f, inr p) = let g = p.0 in (x + j, y, and_row r f, same p.1 d, omega (arith, e, g))

  -- each pair is counted once, where it is counted with one of the two alone, and no number with itself
  pub once : ((a : ℕ) → C a a → ⊥) → ((a b : ℕ) → C a b → C b a → ⊥) → (n s : ℕ) → Rows C n n s → CountPairs (λ a b. C a b ⊎ C b a) n s
  once apart one zero s rows = subst (λ z. CountPairs (λ a b. C a b ⊎ C b a) 0 z) (sym (no_row refl rows)) no_pairs
  once apart one (suc n) s rows = go (once apart one n) (last_row refl (subst (λ z. Rows C z z s) next rows))
    where
      next : suc n ≡ n + 1
      next = omega arith

      go : ((y : ℕ) → Rows C n n y → CountPairs (λ a b. C a b ⊎ C b a) n y) → (x : ℕ) × (m : ℕ) × Rows C (n + 1) n x × Count (λ a. C a n) (n + 1) m × (s ≡ x + m) → CountPairs (λ a b. C a b ⊎ C b a) (suc n) s
      go below (x, m, r, c, e) = by (narrow n r) (last refl c)
        where
          by : (y : ℕ) × (z : ℕ) × Rows C n n y × Count (λ b. C n b) n z × (x ≡ y + z) → (j : ℕ) × Count (λ a. C a n) n j × (((m ≡ j + 1) × C n n) ⊎ ((m ≡ j) × (C n n → ⊥))) → CountPairs (λ a b. C a b ⊎ C b a) (suc n) s
          by (y, z, t, d, f) (j, u, inl p) = absurd (apart n p.1)
          by (y, z, t, d, f) (j, u, inr p) =
              let g = p.0 in
              let sum : y + (j + z) ≡ s = omega (arith, e, f, g) in
              subst (λ k. CountPairs (λ a b. C a b ⊎ C b a) k s) (sym next) (subst (λ k. CountPairs (λ a b. C a b ⊎ C b a) (n + 1) k) sum (and_of (below y t) (either u z (λ i l. one i n) d)))

-- the same pairs
pub pairs_same : {P Q : ℕ → ℕ → Type 0} {k n : ℕ} → ((a b : ℕ) → a < b → b < k → P a b → Q a b) → ((a b : ℕ) → a < b → b < k → Q a b → P a b) → CountPairs P k n → CountPairs Q k n
pairs_same f g no_pairs = no_pairs
pairs_same f g (and_of {k = k} c d) = and_of (pairs_same (λ a b l m. f a b l (omega arith)) (λ a b l m. g a b l (omega arith)) c) (count_same (λ a l. f a k l (omega arith)) (λ a l. g a k l (omega arith)) d)

-- the other pairs: there are n * (n - 1) / 2 in all
pub pairs_not : {P : ℕ → ℕ → Type 0} {k s : ℕ} → CountPairs P k s → (t : ℕ) × CountPairs (λ a b. P a b → ⊥) k t × (2 * (s + t) + k ≡ k * k)
pairs_not no_pairs = (0, no_pairs, refl)
pairs_not {P} (and_of {k = k} {n = n} {m = m} c d) = go (pairs_not c) (count_not d)
  where
    go : (t : ℕ) × CountPairs (λ a b. P a b → ⊥) k t × (2 * (n + t) + k ≡ k * k) → (j : ℕ) × Count (λ a. P a k → ⊥) k j × (m + j ≡ k) → (t : ℕ) × CountPairs (λ a b. P a b → ⊥) (k + 1) t × (2 * (n + m + t) + (k + 1) ≡ (k + 1) * (k + 1))
    go (t, u, e) (j, f, g) = (t + j, and_of u f, omega (arith, e, g))
