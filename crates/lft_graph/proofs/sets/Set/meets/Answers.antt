use Rattle.std.proofs.Common.{◌≡◌, ◌≤◌, ◌<◌, ◌^◌, ℕ, ◌⊎◌, inl, inr, slice_get, List, length, arith, refl, sym, ap, ◌∙◌}
use Rattle.std.specs.Prelude.{bit_and, slice_index}
use native.Mathlib.Decide.{ℕ_discrete, dec_le}
use Rattle.std.proofs.lemmas.{Nat.and_le_l, Option.get_or_from_slice_get}
use Rattle.lft_graph.proofs.Bits.{word_meets, none_meet, word_at}
use Rattle.lft_graph.proofs.sets.Set.meets.Goals as goal

pub returns-then-word-index-ne0 : goal.returns-then-word-index-ne0
returns-then-word-index-ne0 c =
    let a = c.self.inside.words.items in
    let b = c.other.inside.words.items in
    let k = c.loop-place.place in
    let x : slice_index a k ≡ c.item_at-word.result = get_or_from_slice_get a k c.item_at-word.result 0 (ap (λ (ws : List ℕ). slice_get ws c.loop-place.place) (sym c.as_slice.ensures.value) ∙ c.item_at-word.ensures) in
    let y : slice_index b k ≡ c.index.result.now = word_at b k c.index.result.now (omega arith) c.index.ensures in
    let small : bit_and (slice_index a k) (slice_index b k) < 2 ^ 64 = omega (arith, x, c.item_at-word.type_inv, and_le_l (slice_index a k) (slice_index b k)) in
    (λ _. rw (sym c.self.view_is, sym c.other.view_is) (word_meets a b k small (λ z. c.if-word-index-ne0.true (rw (sym x, sym y) z))), λ _. refl)

pub loop-place-preserved : goal.loop-place-preserved
loop-place-preserved c j l = go (ℕ_discrete j c.loop-place.place)
  where
    a : List ℕ
    a = c.self.inside.words.items

    b : List ℕ
    b = c.other.inside.words.items

    k : ℕ
    k = c.loop-place.place

    x : slice_index a k ≡ c.item_at-word.result
    x = get_or_from_slice_get a k c.item_at-word.result 0 (ap (λ (ws : List ℕ). slice_get ws c.loop-place.place) (sym c.as_slice.ensures.value) ∙ c.item_at-word.ensures)

    y : slice_index b k ≡ c.index.result.now
    y = word_at b k c.index.result.now (omega arith) c.index.ensures

    go : Dec (j ≡ c.loop-place.place) → bit_and (slice_index c.self.inside.words.items j) (slice_index c.other.inside.words.items j) ≡ 0
    go (yes e) = ap (λ i. bit_and (slice_index a i) (slice_index b i)) e ∙ ap (λ w. bit_and w (slice_index b k)) x ∙ ap (λ w. bit_and c.item_at-word.result w) y ∙ c.if-word-index-ne0.false
    go (no n) = c.loop-place.invariant j (omega arith)

pub returns : goal.returns
returns c = (λ z. absurd (cc), λ x. absurd (none_meet c.self.inside.words.items c.other.inside.words.items c.loop-place.place (shorter (dec_le (length c.self.inside.words.items) c.loop-place.place)) c.loop-place.invariant x.0 (rw c.self.view_is x.1) (rw c.other.view_is x.2)))
  where
    shorter : Dec (length c.self.inside.words.items ≤ c.loop-place.place) → (length c.self.inside.words.items ≤ c.loop-place.place) ⊎ (length c.other.inside.words.items ≤ c.loop-place.place)
    shorter (yes l) = inl l
    shorter (no n) = inr (omega arith)
