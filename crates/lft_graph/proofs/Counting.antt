-- Counts of numbers.
use Rattle.std.proofs.Common.{◌≡◌, ◌≢◌, ℕ, zero, suc, ◌+◌, ◌-◌, ◌<◌, ◌≤◌, ◌⊎◌, inl, inr, refl, sym, ap, ◌∙◌, subst, arith}
use native.Mathlib.Decide.{ℕ_discrete, dec_lt}
use Rattle.lft_graph.specs.Counts.{Count, none, more, same}

-- no more places than there are
pub count_within : {P : ℕ → Type 0} {k n : ℕ} → Count P k n → n ≤ k
count_within none = omega arith
count_within (more {k = k} {n = n} p c) = let l : n ≤ k = count_within c in omega arith
count_within (same {k = k} {n = n} p c) = let l : n ≤ k = count_within c in omega arith

-- the same places
pub count_same : {P Q : ℕ → Type 0} {k n : ℕ} → ((i : ℕ) → i < k → P i → Q i) → ((i : ℕ) → i < k → Q i → P i) → Count P k n → Count Q k n
count_same f g none = none
count_same f g (more {k = k} {n = n} p c) = more (f k (omega arith) p) (count_same (λ i l. f i (omega arith)) (λ i l. g i (omega arith)) c)
count_same f g (same {k = k} {n = n} p c) = same (λ q. p (g k (omega arith) q)) (count_same (λ i l. f i (omega arith)) (λ i l. g i (omega arith)) c)

-- one place more at which something holds
pub count_added : (P Q : ℕ → Type 0) (r : ℕ) → (P r → ⊥) → ((a : ℕ) → Q a → (a ≡ r) ⊎ P a) → ((a : ℕ) → (a ≡ r) ⊎ P a → Q a) → {k n : ℕ} → r < k → Count P k n → Count Q k (n + 1)
count_added P Q r fresh f g l none = absurd (omega arith)
count_added P Q r fresh f g l (more {k = k} {n = n} p c) = go (λ m. count_added P Q r fresh f g m c) (ℕ_discrete r k)
  where
    go : (r < k → Count Q k (n + 1)) → Dec (r ≡ k) → Count Q (k + 1) (n + 1 + 1)
    go below (yes e) = absurd (fresh (subst P (sym e) p))
    go below (no d) = more (g k (inr p)) (below (omega arith))
count_added P Q r fresh f g l (same {k = k} {n = n} p c) = go (λ m. count_added P Q r fresh f g m c) (ℕ_discrete r k)
  where
    down : (i : ℕ) → r ≡ k → i < k → (i ≡ r) ⊎ P i → P i
    down i e m (inl s) = absurd (omega arith)
    down i e m (inr x) = x

    out : ¬ (r ≡ k) → (k ≡ r) ⊎ P k → ⊥
    out d (inl s) = d (sym s)
    out d (inr x) = p x

    go : (r < k → Count Q k (n + 1)) → Dec (r ≡ k) → Count Q (k + 1) (n + 1)
    go below (yes e) = more (g k (inl (sym e))) (count_same (λ i m x. g i (inr x)) (λ i m x. down i e m (f i x)) c)
    go below (no d) = same (λ x. out d (f k x)) (below (omega arith))

-- one place fewer
pub count_taken : (P Q : ℕ → Type 0) (r : ℕ) → P r → (Q r → ⊥) → ((a : ℕ) → a ≢ r → P a → Q a) → ((a : ℕ) → a ≢ r → Q a → P a) → {k n : ℕ} → r < k → Count P k n → (j : ℕ) × (n ≡ j + 1) × Count Q k j
count_taken P Q r is gone f g l none = absurd (omega arith)
count_taken P Q r is gone f g l (more {k = k} {n = n} p c) = go (λ m. count_taken P Q r is gone f g m c) (ℕ_discrete r k)
  where
    go : (r < k → (j : ℕ) × (n ≡ j + 1) × Count Q k j) → Dec (r ≡ k) → (j : ℕ) × (n + 1 ≡ j + 1) × Count Q (k + 1) j
    go below (yes e) = (n, refl, same (λ q. gone (subst Q (sym e) q)) (count_same (λ i m x. f i (λ s. absurd (omega arith)) x) (λ i m x. g i (λ s. absurd (omega arith)) x) c))
    go below (no d) = let x = below (omega arith) in (x.0 + 1, ap (λ m. m + 1) x.1, more (f k (λ e. d (sym e)) p) x.2)
count_taken P Q r is gone f g l (same {k = k} {n = n} p c) = go (λ m. count_taken P Q r is gone f g m c) (ℕ_discrete r k)
  where
    go : (r < k → (j : ℕ) × (n ≡ j + 1) × Count Q k j) → Dec (r ≡ k) → (j : ℕ) × (n ≡ j + 1) × Count Q (k + 1) j
    go below (yes e) = absurd (p (subst P e is))
    go below (no d) = let x = below (omega arith) in (x.0, x.1, same (λ q. p (g k (λ e. d (sym e)) q)) x.2)

-- the last place, and the count of those before it
pub last : {P : ℕ → Type 0} {k l m : ℕ} → l ≡ k + 1 → Count P l m → (j : ℕ) × Count P k j × (((m ≡ j + 1) × P k) ⊎ ((m ≡ j) × (P k → ⊥)))
last e none = absurd (omega arith)
last {P} {k} e (more {k = q} {n = n} p c) = let s : q ≡ k = omega arith in (n, subst (λ z. Count P z n) s c, inl (refl, subst P s p))
last {P} {k} e (same {k = q} {n = n} p c) = let s : q ≡ k = omega arith in (n, subst (λ z. Count P z n) s c, inr (refl, λ x. p (subst P (sym s) x)))

-- no more places between two numbers at which nothing holds
pub none_from : {P : ℕ → Type 0} (d from n : ℕ) → ((i : ℕ) → from ≤ i → i < from + d → P i → ⊥) → Count P from n → Count P (from + d) n
none_from {P} zero from n never c = subst (λ z. Count P z n) (let e : from ≡ from + zero = omega arith in e) c
none_from {P} (suc d) from n never c = subst (λ z. Count P z n) (let e : from + d + 1 ≡ from + suc d = omega arith in e) (same (never (from + d) (omega arith) (omega arith)) (none_from d from n (λ i l m. never i l (omega arith)) c))

-- the places of two kinds that never meet
pub either : {P Q : ℕ → Type 0} {k m : ℕ} → Count P k m → (n : ℕ) → ((i : ℕ) → i < k → P i → Q i → ⊥) → Count Q k n → Count (λ i. P i ⊎ Q i) k (m + n)
either {P} {Q} none n apart d = let l = count_within d in subst (λ z. Count (λ i. P i ⊎ Q i) 0 z) (let e : 0 ≡ 0 + n = omega (arith, l) in e) none
either {P} {Q} (more {k = k} {n = m} p c) n apart d = go (λ j f. either c j (λ i l. apart i (omega arith)) f) (last refl d)
  where
    go : ((j : ℕ) → Count Q k j → Count (λ i. P i ⊎ Q i) k (m + j)) → (j : ℕ) × Count Q k j × (((n ≡ j + 1) × Q k) ⊎ ((n ≡ j) × (Q k → ⊥))) → Count (λ i. P i ⊎ Q i) (k + 1) (m + 1 + n)
    go below (j, f, inl x) = absurd (apart k (omega arith) p x.1)
    go below (j, f, inr x) = let e = x.0 in subst (λ z. Count (λ i. P i ⊎ Q i) (k + 1) z) (let s : m + j + 1 ≡ m + 1 + n = omega (arith, e) in s) (more (inl p) (below j f))
either {P} {Q} (same {k = k} {n = m} p c) n apart d = go (λ j f. either c j (λ i l. apart i (omega arith)) f) (last refl d)
  where
    out : (Q k → ⊥) → P k ⊎ Q k → ⊥
    out q (inl x) = p x
    out q (inr x) = q x

    go : ((j : ℕ) → Count Q k j → Count (λ i. P i ⊎ Q i) k (m + j)) → (j : ℕ) × Count Q k j × (((n ≡ j + 1) × Q k) ⊎ ((n ≡ j) × (Q k → ⊥))) → Count (λ i. P i ⊎ Q i) (k + 1) (m + n)
    go below (j, f, inl x) = let e = x.0 in subst (λ z. Count (λ i. P i ⊎ Q i) (k + 1) z) (let s : m + j + 1 ≡ m + n = omega (arith, e) in s) (more (inr x.1) (below j f))
    go below (j, f, inr x) = let e = x.0 in subst (λ z. Count (λ i. P i ⊎ Q i) (k + 1) z) (let s : m + j ≡ m + n = omega (arith, e) in s) (same (out x.1) (below j f))

-- there is one number of places
pub count_one : {P : ℕ → Type 0} {k n m : ℕ} → Count P k n → Count P k m → n ≡ m
count_one none d = let l = count_within d in omega (arith, l)
count_one {P} {m = m} (more {k = k} {n = n} p c) d = go (λ j f. count_one c f) (last refl d)
  where
    go : ((j : ℕ) → Count P k j → n ≡ j) → (j : ℕ) × Count P k j × (((m ≡ j + 1) × P k) ⊎ ((m ≡ j) × (P k → ⊥))) → n + 1 ≡ m
    go one (j, f, inl x) = let e = one j f in let s = x.0 in omega (arith, e, s)
    go one (j, f, inr x) = absurd (x.1 p)
count_one {P} {m = m} (same {k = k} {n = n} p c) d = go (λ j f. count_one c f) (last refl d)
  where
    go : ((j : ℕ) → Count P k j → n ≡ j) → (j : ℕ) × Count P k j × (((m ≡ j + 1) × P k) ⊎ ((m ≡ j) × (P k → ⊥))) → n ≡ m
    go one (j, f, inl x) = absurd (p x.1)
    go one (j, f, inr x) = one j f ∙ sym x.0

-- the other numbers
pub count_not : {P : ℕ → Type 0} {k m : ℕ} → Count P k m → (j : ℕ) × Count (λ i. P i → ⊥) k j × (m + j ≡ k)
count_not none = (0, none, refl)
count_not {P} (more {k = k} {n = n} p c) = go (count_not c)
  where
    go : (j : ℕ) × Count (λ i. P i → ⊥) k j × (n + j ≡ k) → (j : ℕ) × Count (λ i. P i → ⊥) (k + 1) j × (n + 1 + j ≡ k + 1)
    go (j, d, e) = (j, same (λ f. f p) d, omega (arith, e))
count_not {P} (same {k = k} {n = n} p c) = go (count_not c)
  where
    go : (j : ℕ) × Count (λ i. P i → ⊥) k j × (n + j ≡ k) → (j : ℕ) × Count (λ i. P i → ⊥) (k + 1) j × (n + j ≡ k + 1)
    go (j, d, e) = (j + 1, more p d, omega (arith, e))

-- the numbers below a bound, and those from there on
pub count_on : {P : ℕ → Type 0} (from n : ℕ) {k m : ℕ} → Count P from n → Count (λ i. P (from + i)) k m → Count P (from + k) (n + m)
count_on {P} from n c none = subst (λ z. Count P z (n + 0)) (let e : from ≡ from + 0 = omega arith in e) (subst (λ z. Count P from z) (let e : n ≡ n + 0 = omega arith in e) c)
count_on {P} from n c (more {k = k} {n = m} p d) = subst (λ z. Count P z (n + (m + 1))) (let e : from + k + 1 ≡ from + (k + 1) = omega arith in e) (subst (λ z. Count P (from + k + 1) z) (let e : n + m + 1 ≡ n + (m + 1) = omega arith in e) (more p (count_on from n c d)))
count_on {P} from n c (same {k = k} {n = m} p d) = subst (λ z. Count P z (n + m)) (let e : from + k + 1 ≡ from + (k + 1) = omega arith in e) (same p (count_on from n c d))

-- fewer numbers, where nothing holds of the others
few : {P : ℕ → Type 0} (d n m : ℕ) → ((i : ℕ) → n ≤ i → P i → ⊥) → Count P (n + d) m → Count P n m
few {P} zero n m never c = subst (λ z. Count P z m) (let e : n + zero ≡ n = omega arith in e) c
few {P} (suc d) n m never c = go (λ f. few d n m never f) (last (let e : n + suc d ≡ n + d + 1 = omega arith in e) c)
  where
    go : (Count P (n + d) m → Count P n m) → (j : ℕ) × Count P (n + d) j × (((m ≡ j + 1) × P (n + d)) ⊎ ((m ≡ j) × (P (n + d) → ⊥))) → Count P n m
    go fewer (j, f, inl x) = absurd (never (n + d) (omega arith) x.1)
    go fewer (j, f, inr x) = fewer (subst (λ z. Count P (n + d) z) (sym x.0) f)

-- the same numbers below another bound, where none is at or past one of the two
pub count_to : {P : ℕ → Type 0} (k n m : ℕ) → ((i : ℕ) → k ≤ i → P i → ⊥) → ((i : ℕ) → n ≤ i → P i → ⊥) → Count P k m → Count P n m
count_to {P} k n m past over c = go (dec_lt k n)
  where
    go : Dec (k < n) → Count P n m
    go (yes l) = subst (λ z. Count P z m) (let e : k + (n - k) ≡ n = omega (arith, l) in e) (none_from (n - k) k m (λ i l h. past i l) c)
    go (no l) = few (k - n) n m over (subst (λ z. Count P z m) (let e : k ≡ n + (k - n) = omega (arith, l) in e) c)
