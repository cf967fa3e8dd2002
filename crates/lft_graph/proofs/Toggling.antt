-- A number put into a set, or taken out of it.
use Rattle.std.proofs.Common.{◌≤◌, ◌≡◌, ◌≢◌, ℕ, ◌+◌, ◌*◌, ◌/◌, ◌%◌, ◌^◌, ◌<◌, List, length, length-set, refl, sym, ap, ◌∙◌, subst, arith}
use Rattle.std.specs.Prelude.{◌↔◌, bit_or, bit_xor, slice_set, slice_index}
use Rattle.std.specs.Int.{bit_at, Bits.or_zero_r}
use Rattle.std.proofs.lemmas.{List.{get_or-set_same, get_or-set_other}, Nat.Bits.{bit_at_xor, bit_at-zero, bit_at-pow_same, bit_at-pow_other, bit_at-lt}}
use Rattle.std.proofs.Math.Pow.{shl_exact}
use native.Mathlib.Decide.{ℕ_discrete}
use Rattle.lft_graph.{specs.Sets.Has, proofs.Bits.AreJoined}

module _ (words : List ℕ) (x word : ℕ) (there : x / 64 < length words) (is_word : slice_index words (x / 64) ≡ word) where
  abbrev bit : ℕ
  bit = 1 * 2 ^ (x % 64) % 18446744073709551616

  abbrev new : List ℕ
  new = slice_set words (x / 64) (bit_xor word bit)

  bit_is : bit ≡ 2 ^ (x % 64)
  bit_is = shl_exact 1 (x % 64) 64 (omega arith) (omega arith) ∙ omega arith

  on : bit_at bit (x % 64) ≡ 1
  on = ap (λ b. bit_at b (x % 64)) bit_is ∙ bit_at-pow_same (x % 64)

  -- a bit of the word at that place
  at : (r : ℕ) → r / 64 ≡ x / 64 → bit_at (slice_index new (r / 64)) (r % 64) ≡ (bit_at word (r % 64) + bit_at bit (r % 64)) % 2
  at r e = ap (λ w. bit_at w (r % 64)) (ap (λ k. slice_index new k) e ∙ get_or-set_same words (x / 64) (bit_xor word bit) 0 there) ∙ bit_at_xor word bit (r % 64)

  before : (r : ℕ) → r / 64 ≡ x / 64 → bit_at (slice_index words (r / 64)) (r % 64) ≡ bit_at word (r % 64)
  before r e = ap (λ w. bit_at w (r % 64)) (ap (λ k. slice_index words k) e ∙ is_word)

  -- the other numbers stay as they were
  pub toggle_other : (r : ℕ) → r ≢ x → Has new r ↔ Has words r
  toggle_other r n = go (ℕ_discrete (r / 64) (x / 64))
    where
      go : Dec (r / 64 ≡ x / 64) → Has new r ↔ Has words r
      go (no m) = (λ h. sym (ap (λ w. bit_at w (r % 64)) same) ∙ h, λ h. ap (λ w. bit_at w (r % 64)) same ∙ h)
        where
          same : slice_index new (r / 64) ≡ slice_index words (r / 64)
          same = get_or-set_other words (x / 64) (r / 64) (bit_xor word bit) 0 m
      go (yes e) = (λ h. sym same ∙ h, λ h. same ∙ h)
        where
          off : bit_at bit (r % 64) ≡ 0
          off = ap (λ b. bit_at b (r % 64)) bit_is ∙ bit_at-pow_other (x % 64) (r % 64) (λ q. n (omega arith))

          same : bit_at (slice_index new (r / 64)) (r % 64) ≡ bit_at (slice_index words (r / 64)) (r % 64)
          same = let l : bit_at word (r % 64) < 2 = bit_at-lt word (r % 64) in let z = off in let a = at r e in let b = before r e in omega arith

  pub toggle_put : (Has words x → ⊥) → Has new x
  toggle_put n = go (ℕ_discrete (bit_at word (x % 64)) 1)
    where
      go : Dec (bit_at word (x % 64) ≡ 1) → Has new x
      go (yes e) = absurd (n (before x refl ∙ e))
      go (no m) = let l : bit_at word (x % 64) < 2 = bit_at-lt word (x % 64) in let z = on in let a = at x refl in omega arith

  pub toggle_taken : Has words x → Has new x → ⊥
  toggle_taken h k = let z = on in let a = at x refl in let b = before x refl in omega arith

-- where a word is 0, none of its numbers is in the set
pub none_in : (words : List ℕ) (k : ℕ) → slice_index words k ≡ 0 → (r : ℕ) → r / 64 ≡ k → Has words r → ⊥
none_in words k e r at h = let z : bit_at (slice_index words (r / 64)) (r % 64) ≡ 0 = ap (λ w. bit_at w (r % 64)) (ap (slice_index words) at ∙ e) ∙ bit_at-zero (r % 64) in absurd (omega (arith, z, h))

-- one word more is joined with that of another set
pub joined_more : (k : ℕ) (old other new next : List ℕ) (word : ℕ) → slice_index other k ≡ word → k < length new → next ≡ slice_set new k (bit_or (slice_index new k) word) → AreJoined k old other new → AreJoined (k + 1) old other next
joined_more k old other new next word is there set so = record { as_long = ap (λ (ws : List ℕ). length ws) set ∙ length-set new k (bit_or (slice_index new k) word) ∙ so.as_long; joined = joined; kept = kept }
  where
    put : slice_index next k ≡ bit_or (slice_index new k) word
    put = ap (λ (ws : List ℕ). slice_index ws k) set ∙ get_or-set_same new k (bit_or (slice_index new k) word) 0 there

    other_word : (j : ℕ) → j ≢ k → slice_index next j ≡ slice_index new j
    other_word j n = ap (λ (ws : List ℕ). slice_index ws j) set ∙ get_or-set_other new k j (bit_or (slice_index new k) word) 0 n

    joined : (j : ℕ) → j < k + 1 → slice_index next j ≡ bit_or (slice_index old j) (slice_index other j)
    joined j l = go (ℕ_discrete j k)
      where
        go : Dec (j ≡ k) → slice_index next j ≡ bit_or (slice_index old j) (slice_index other j)
        go (yes e) = subst (λ i. slice_index next i ≡ bit_or (slice_index old i) (slice_index other i)) (sym e) (put ∙ ap (λ w. bit_or w word) (so.kept k (omega arith)) ∙ ap (λ w. bit_or (slice_index old k) w) (sym is))
        go (no n) = other_word j n ∙ so.joined j (omega arith)

    kept : (j : ℕ) → k + 1 ≤ j → slice_index next j ≡ slice_index old j
    kept j l = other_word j (λ e. absurd (omega (arith, e, l))) ∙ so.kept j (omega arith)

-- a word that is 0 joins nothing
pub joined_none : (k : ℕ) (old other new : List ℕ) → slice_index other k ≡ 0 → AreJoined k old other new → AreJoined (k + 1) old other new
joined_none k old other new none so = record { as_long = so.as_long; joined = joined; kept = λ j l. so.kept j (omega arith) }
  where
    joined : (j : ℕ) → j < k + 1 → slice_index new j ≡ bit_or (slice_index old j) (slice_index other j)
    joined j l = go (ℕ_discrete j k)
      where
        go : Dec (j ≡ k) → slice_index new j ≡ bit_or (slice_index old j) (slice_index other j)
        go (yes e) = subst (λ i. slice_index new i ≡ bit_or (slice_index old i) (slice_index other i)) (sym e) (so.kept k (omega arith) ∙ sym (or_zero_r (slice_index old k)) ∙ ap (λ w. bit_or (slice_index old k) w) (sym none))
        go (no n) = so.joined j (omega arith)
