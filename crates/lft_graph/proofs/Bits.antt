-- Sets by bits of words.
use Rattle.std.proofs.Common.{◌≡◌, ℕ, zero, suc, ◌+◌, ◌*◌, ◌/◌, ◌%◌, ◌^◌, ◌<◌, ◌≤◌, ◌⊎◌, inl, inr, List, [], ◌∷◌, length, get_or, min, max, Some, refl, sym, ap, ◌∙◌, subst, arith}
use Rattle.std.specs.Prelude.{◌↔◌, bit_and, bit_or, slice_set, slice_index}
use Rattle.std.specs.Int.{bit_at}
use Rattle.std.proofs.lemmas.List.{get_or-set_same, get_or-set_other}
use Rattle.std.proofs.lemmas.Nat.Bits.{bit_at_or, bit_at_and, bit_at-zero, bit_at-suc, bit_at_lowest, bit_at-pow_same, bit_at-pow_other, bit_at-lt}
use Rattle.std.proofs.lemmas.Option.{slice_get-get_or, get_or_from_slice_get}
use Rattle.std.proofs.Math.{Nat.pow-suc, Pow.shl_exact}
use native.Mathlib.Decide.{ℕ_discrete, dec_lt}
use Rattle.lft_graph.specs.Sets.{Has}

-- the word at a place that is there
pub word_at : (words : List ℕ) (k word : ℕ) → k < length words → word ≡ get_or words k word → slice_index words k ≡ word
word_at words k word there is = get_or_from_slice_get words k word 0 (slice_get-get_or words k word there ∙ ap Some (sym is))

-- a bit of one of two words
either : (a b i : ℕ) → bit_at (bit_or a b) i ≡ 1 ↔ ((bit_at a i ≡ 1) ⊎ (bit_at b i ≡ 1))
either a b i = (out, back)
  where
    by : bit_at (bit_or a b) i ≡ max (bit_at a i) (bit_at b i)
    by = bit_at_or a b i

    out : bit_at (bit_or a b) i ≡ 1 → (bit_at a i ≡ 1) ⊎ (bit_at b i ≡ 1)
    out e = go (ℕ_discrete (bit_at a i) 1)
      where
        go : Dec (bit_at a i ≡ 1) → (bit_at a i ≡ 1) ⊎ (bit_at b i ≡ 1)
        go (yes d) = inl d
        go (no n) = let q = by in let l : bit_at a i < 2 = bit_at-lt a i in let m : bit_at b i < 2 = bit_at-lt b i in inr (omega arith)

    back : (bit_at a i ≡ 1) ⊎ (bit_at b i ≡ 1) → bit_at (bit_or a b) i ≡ 1
    back (inl d) = let q = by in let m : bit_at b i < 2 = bit_at-lt b i in omega arith
    back (inr d) = let q = by in let m : bit_at a i < 2 = bit_at-lt a i in omega arith

-- one reaction more
module _ (words : List ℕ) (x word : ℕ) (there : x / 64 < length words) (is_word : slice_index words (x / 64) ≡ word) where
  abbrev bit : ℕ
  bit = 1 * 2 ^ (x % 64) % 18446744073709551616

  abbrev more : List ℕ
  more = slice_set words (x / 64) (bit_or word bit)

  bit_is : bit ≡ 2 ^ (x % 64)
  bit_is = shl_exact 1 (x % 64) 64 (omega arith) (omega arith) ∙ omega arith

  at : (r : ℕ) → r / 64 ≡ x / 64 → Has more r ↔ ((bit_at word (r % 64) ≡ 1) ⊎ (bit_at bit (r % 64) ≡ 1))
  at r e = subst (λ (w : ℕ). bit_at w (r % 64) ≡ 1 ↔ ((bit_at word (r % 64) ≡ 1) ⊎ (bit_at bit (r % 64) ≡ 1))) (sym (ap (λ k. slice_index more k) e ∙ get_or-set_same words (x / 64) (bit_or word bit) 0 there)) (either word bit (r % 64))

  pub insert_has : (r : ℕ) → Has more r ↔ ((r ≡ x) ⊎ Has words r)
  insert_has r = go (ℕ_discrete (r / 64) (x / 64)) (ℕ_discrete (r % 64) (x % 64))
    where
      go : Dec (r / 64 ≡ x / 64) → Dec (r % 64 ≡ x % 64) → Has more r ↔ ((r ≡ x) ⊎ Has words r)
      go (no n) d = (λ h. inr (other.0 h), back)
        where
          same : slice_index more (r / 64) ≡ slice_index words (r / 64)
          same = get_or-set_other words (x / 64) (r / 64) (bit_or word bit) 0 n

          other : Has more r ↔ Has words r
          other = (λ h. sym (ap (λ w. bit_at w (r % 64)) same) ∙ h, λ h. ap (λ w. bit_at w (r % 64)) same ∙ h)

          back : (r ≡ x) ⊎ Has words r → Has more r
          back (inl e) = absurd (n (ap (λ k. k / 64) e))
          back (inr h) = other.1 h
      go (yes e) (yes f) = (λ h. inl (omega arith), λ h. (at r e).1 (inr (ap (λ k. bit_at bit k) f ∙ ap (λ b. bit_at b (x % 64)) bit_is ∙ bit_at-pow_same (x % 64))))
      go (yes e) (no n) = (λ h. out ((at r e).0 h), back)
        where
          here : slice_index words (r / 64) ≡ word
          here = ap (λ k. slice_index words k) e ∙ is_word

          none : bit_at bit (r % 64) ≡ 0
          none = ap (λ b. bit_at b (r % 64)) bit_is ∙ bit_at-pow_other (x % 64) (r % 64) n

          out : (bit_at word (r % 64) ≡ 1) ⊎ (bit_at bit (r % 64) ≡ 1) → (r ≡ x) ⊎ Has words r
          out (inl h) = inr (ap (λ w. bit_at w (r % 64)) here ∙ h)
          out (inr h) = let z = none in absurd (omega arith)

          back : (r ≡ x) ⊎ Has words r → Has more r
          back (inl q) = absurd (n (ap (λ k. k % 64) q))
          back (inr h) = (at r e).1 (inl (sym (ap (λ w. bit_at w (r % 64)) here) ∙ h))

-- the first words are joined with those of another set
pub record AreJoined (k : ℕ) (old other new : List ℕ) : Type 0 where
  pub as_long : length new ≡ length old
  pub joined : (j : ℕ) → j < k → slice_index new j ≡ bit_or (slice_index old j) (slice_index other j)
  pub kept : (j : ℕ) → k ≤ j → slice_index new j ≡ slice_index old j

pub past : (words : List ℕ) (k : ℕ) → length words ≤ k → slice_index words k ≡ 0
past [] k l = refl
past (w ∷ ws) zero l = absurd (omega arith)
past (w ∷ ws) (suc k) l = past ws k (omega arith)

pub joined_has : (k : ℕ) (old other new : List ℕ) → length other ≤ k → AreJoined k old other new → (r : ℕ) → Has new r ↔ (Has old r ⊎ Has other r)
joined_has k old other new l h r = go (dec_lt (r / 64) k)
  where
    go : Dec (r / 64 < k) → Has new r ↔ (Has old r ⊎ Has other r)
    go (yes m) = subst (λ (w : ℕ). bit_at w (r % 64) ≡ 1 ↔ (Has old r ⊎ Has other r)) (sym (h.joined (r / 64) m)) (either (slice_index old (r / 64)) (slice_index other (r / 64)) (r % 64))
    go (no n) = (λ x. inl (sym (ap (λ w. bit_at w (r % 64)) same) ∙ x), back)
      where
        same : slice_index new (r / 64) ≡ slice_index old (r / 64)
        same = h.kept (r / 64) (omega arith)

        none : bit_at (slice_index other (r / 64)) (r % 64) ≡ 0
        none = ap (λ w. bit_at w (r % 64)) (past other (r / 64) (omega arith)) ∙ bit_at-zero (r % 64)

        back : Has old r ⊎ Has other r → Has new r
        back (inl x) = ap (λ w. bit_at w (r % 64)) same ∙ x
        back (inr x) = let z = none in absurd (omega arith)

-- a word that isn't 0 has a bit
some_bit : (w n : ℕ) → n < 2 ^ w → (n ≡ 0 → ⊥) → (i : ℕ) × (i < w) × (bit_at n i ≡ 1)
some_bit zero n small some = absurd (some (omega arith))
some_bit (suc w) n small some = go (λ half l. some_bit w (n / 2) half l) (ℕ_discrete (n % 2) 1)
  where
    go : (n / 2 < 2 ^ w → (n / 2 ≡ 0 → ⊥) → (i : ℕ) × (i < w) × (bit_at (n / 2) i ≡ 1)) → Dec (n % 2 ≡ 1) → (i : ℕ) × (i < suc w) × (bit_at n i ≡ 1)
    go rest (yes e) = (0, omega arith, bit_at_lowest n ∙ e)
    go rest (no e) =
        let twice : 2 ^ suc w ≡ 2 ^ w * 2 = pow-suc 2 w in
        let half : n / 2 < 2 ^ w = omega arith in
        let x = rest half (λ z. some (omega arith)) in
        let l : x.0 < w = x.1 in
        (suc x.0, omega arith, bit_at-suc n x.0 ∙ x.2)

-- both of two words have a bit
both : (a b i : ℕ) → bit_at (bit_and a b) i ≡ 1 → (bit_at a i ≡ 1) × (bit_at b i ≡ 1)
both a b i e = let q : bit_at (bit_and a b) i ≡ min (bit_at a i) (bit_at b i) = bit_at_and a b i in let l : bit_at a i < 2 = bit_at-lt a i in let m : bit_at b i < 2 = bit_at-lt b i in (omega arith, omega arith)

pub word_meets : (a b : List ℕ) (k : ℕ) → bit_and (slice_index a k) (slice_index b k) < 2 ^ 64 → (bit_and (slice_index a k) (slice_index b k) ≡ 0 → ⊥) → (r : ℕ) × Has a r × Has b r
word_meets a b k small some =
    let x = some_bit 64 (bit_and (slice_index a k) (slice_index b k)) small some in
    let i : ℕ = x.0 in
    let within : x.0 < 64 = x.1 in
    let at : (k * 64 + x.0) / 64 ≡ k = omega arith in
    let bit : (k * 64 + x.0) % 64 ≡ x.0 = omega arith in
    let two = both (slice_index a k) (slice_index b k) x.0 x.2 in
    (k * 64 + x.0, ap (λ j. bit_at (slice_index a j) ((k * 64 + x.0) % 64)) at ∙ ap (λ j. bit_at (slice_index a k) j) bit ∙ two.0, ap (λ j. bit_at (slice_index b j) ((k * 64 + x.0) % 64)) at ∙ ap (λ j. bit_at (slice_index b k) j) bit ∙ two.1)

-- where no word meets, no reaction is in both
pub none_meet : (a b : List ℕ) (k : ℕ) → (length a ≤ k) ⊎ (length b ≤ k) → ((j : ℕ) → j < k → bit_and (slice_index a j) (slice_index b j) ≡ 0) → (r : ℕ) → Has a r → Has b r → ⊥
none_meet a b k l none r p q = go (dec_lt (r / 64) k)
  where
    bits : bit_at (bit_and (slice_index a (r / 64)) (slice_index b (r / 64))) (r % 64) ≡ 1
    bits = bit_at_and (slice_index a (r / 64)) (slice_index b (r / 64)) (r % 64) ∙ ap (λ x. min x (bit_at (slice_index b (r / 64)) (r % 64))) p ∙ ap (λ x. min 1 x) q

    go : Dec (r / 64 < k) → ⊥
    go (yes m) = let z : bit_at (bit_and (slice_index a (r / 64)) (slice_index b (r / 64))) (r % 64) ≡ 0 = ap (λ w. bit_at w (r % 64)) (none (r / 64) m) ∙ bit_at-zero (r % 64) in let y = bits in omega arith
    go (no n) = out l
      where
        out : (length a ≤ k) ⊎ (length b ≤ k) → ⊥
        out (inl m) = let z : bit_at (slice_index a (r / 64)) (r % 64) ≡ 0 = ap (λ w. bit_at w (r % 64)) (past a (r / 64) (omega arith)) ∙ bit_at-zero (r % 64) in omega arith
        out (inr m) = let z : bit_at (slice_index b (r / 64)) (r % 64) ≡ 0 = ap (λ w. bit_at w (r % 64)) (past b (r / 64) (omega arith)) ∙ bit_at-zero (r % 64) in omega arith
