-- How many numbers are in a set, and how many pairs have an order.
use Rattle.std.proofs.Common.{◌≡◌, ℕ, zero, suc, ◌+◌, ◌*◌, ◌/◌, ◌%◌, ◌^◌, ◌<◌, ◌≤◌, List, length, sym, ap, ◌∙◌, subst, arith, Some, slice_get}
use Rattle.std.specs.{Prelude.{count_ones, slice_index}, Int.{bit_at, Count.{ones_step, ones-le}}}
use Rattle.std.proofs.{lemmas.Nat.Bits.{bit_at_lowest, bit_at-suc, bit_at-zero}, Math.Nat.pow-suc}
use native.Mathlib.Decide.{ℕ_discrete}
use Rattle.lft_ir.specs.Parts.{Parts}
use Rattle.lft_graph.specs.{Counts.{Count, none, more, same}, Graph.{GraphParts, IsGraphOf}, Precedence.{Precedes, HasNoLoop}, Sets.Has}
use Rattle.lft_graph.specs.inner.Sets.{AreAncestors}
use Rattle.lft_graph.proofs.{Ancestry.{level_there, lower, precedes_known}, Bits.past, Chains.precedes_trans, Counting.{count_on, count_same, count_to}}

-- the ones of a number are its bits
bits : (w n : ℕ) → n < 2 ^ w → Count (λ i. bit_at n i ≡ 1) w (count_ones n)
bits zero n small = subst (λ z. Count (λ i. bit_at n i ≡ 1) 0 z) (let l : count_ones n ≤ 0 = ones-le 0 n small in let e : 0 ≡ count_ones n = omega (arith, l) in e) none
bits (suc w) n small = go (bits w (n / 2) (let twice : 2 ^ suc w ≡ 2 ^ w * 2 = pow-suc 2 w in omega (arith, twice, small)))
  where
    lowest : Dec (n % 2 ≡ 1) → Count (λ i. bit_at n i ≡ 1) 1 (n % 2)
    lowest (yes e) = subst (λ z. Count (λ i. bit_at n i ≡ 1) 1 z) (sym e) (more (bit_at_lowest n ∙ e) none)
    lowest (no d) = subst (λ z. Count (λ i. bit_at n i ≡ 1) 1 z) (let e : 0 ≡ n % 2 = omega (arith, d) in e) (same (λ h. d (sym (bit_at_lowest n) ∙ h)) none)

    next : (i : ℕ) → bit_at n (1 + i) ≡ bit_at (n / 2) i
    next i = ap (bit_at n) (let e : 1 + i ≡ suc i = omega arith in e) ∙ bit_at-suc n i

    go : Count (λ i. bit_at (n / 2) i ≡ 1) w (count_ones (n / 2)) → Count (λ i. bit_at n i ≡ 1) (suc w) (count_ones n)
    go half =
        let rest : Count (λ i. bit_at n (1 + i) ≡ 1) w (count_ones (n / 2)) = count_same (λ i l h. next i ∙ h) (λ i l h. sym (next i) ∙ h) half in
        subst (λ z. Count (λ i. bit_at n i ≡ 1) z (count_ones n)) (let e : 1 + w ≡ suc w = omega arith in e) (subst (λ z. Count (λ i. bit_at n i ≡ 1) (1 + w) z) (sym (ones_step n)) (count_on 1 (n % 2) (lowest (ℕ_discrete (n % 2) 1)) rest))

-- the numbers of one word more
pub words_more : (words : List ℕ) (k word m : ℕ) → slice_index words k ≡ word → word < 2 ^ 64 → Count (Has words) (64 * k) m → Count (Has words) (64 * (k + 1)) (m + count_ones word)
words_more words k word m is small so_far = subst (λ z. Count (Has words) z (m + count_ones word)) (let e : 64 * k + 64 ≡ 64 * (k + 1) = omega arith in e) (count_on (64 * k) m so_far (count_same (λ i l h. sym (here i l) ∙ h) (λ i l h. here i l ∙ h) (bits 64 word small)))
  where
    here : (i : ℕ) → i < 64 → bit_at word i ≡ bit_at (slice_index words ((64 * k + i) / 64)) ((64 * k + i) % 64)
    here i l = ap (λ w. bit_at w i) (sym is) ∙ ap (λ j. bit_at (slice_index words j) i) (let e : k ≡ (64 * k + i) / 64 = omega (arith, l) in e) ∙ ap (λ j. bit_at (slice_index words ((64 * k + i) / 64)) j) (let e : i ≡ (64 * k + i) % 64 = omega (arith, l) in e)

-- no number is past the words
pub none_past : (words : List ℕ) (r : ℕ) → 64 * length words ≤ r → Has words r → ⊥
none_past words r l h = let z : bit_at (slice_index words (r / 64)) (r % 64) ≡ 0 = ap (λ w. bit_at w (r % 64)) (past words (r / 64) (omega (arith, l))) ∙ bit_at-zero (r % 64) in absurd (omega (arith, z, h))

-- a program with a graph has no loop
pub none_loops : (program : Parts) (graph : GraphParts) → IsGraphOf program graph → HasNoLoop program
none_loops program graph is r p = let l = level_there program graph is r (precedes_known program r r p) in let x : l.0 < l.0 = lower program graph is (l.0 + 1) r r l.0 l.0 (omega arith) p l.1 l.1 in absurd (omega (arith, x))

-- nor do two reactions precede each other
pub one_way : (program : Parts) → HasNoLoop program → (a b : ℕ) → Precedes program a b → Precedes program b a → ⊥
one_way program no_loop a b p q = no_loop a (precedes_trans p q)

-- the set of a reaction has as many as precede it
pub count_precede : (program : Parts) (sets : List (List ℕ)) → AreAncestors program sets → (r m : ℕ) (set : List ℕ) → slice_get sets r ≡ Some set → Count (Has set) (64 * length set) m → Count (λ a. Precedes program a r) (length program.reactions) m
count_precede program sets are r m set at c =
    count_same (λ a l. (are.right r set at a).0) (λ a l. (are.right r set at a).1)
    (count_to (64 * length set) (length program.reactions) m (none_past set) (λ a l h. let k = precedes_known program a r ((are.right r set at a).0 h) in absurd (omega (arith, l, k))) c)
