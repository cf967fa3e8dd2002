use Rattle.std.proofs.Common.{◌≡◌, ◌+◌, ◌∙◌, ◌<◌, ◌≤◌, ℕ, List, Some, length, subst, slice_get, sym, ap, arith, refl}
use Rattle.std.specs.Prelude.{bit_or, slice_index, slice_set}
use Rattle.std.proofs.lemmas.Option.{get_or_from_slice_get, slice_get-get_or}
use Rattle.lft_graph.proofs.{Bits.{AreJoined, joined_has}, Toggling.{joined_more, joined_none}, sets.Set.add_all.Goals.{then-word-ne0, else-word-ne0}}
use Rattle.lft_graph.proofs.sets.Set.add_all.Goals as goal

pub returns-clause-members : goal.returns-clause-members
returns-clause-members c r =
    let all : length c.other.inside.words.items ≤ c.loop-place.place = omega (arith, ap length c.other.view_is) in
    rw (sym c.other.view_is) (joined_has c.loop-place.place c.args.self.now c.other.inside.words.items c.loop-place.self-inside.words.items all c.loop-place.invariant r)

pub loop-place-preserved : goal.loop-place-preserved
loop-place-preserved c =
    let k = c.loop-place.place in
    let other = c.other.inside.words.items in
    let now = c.loop-place.self-inside.words.items in
    let word = c.item_at-word.result in
    let is : slice_index c.other.inside.words.items c.loop-place.place ≡ c.item_at-word.result = get_or_from_slice_get other k word 0 (ap (λ (ws : List ℕ). slice_get ws k) (sym c.as_slice.ensures.value) ∙ c.item_at-word.ensures) in
    elim c.if-word-ne0.branch [
      | then-word-ne0 w ↦
          let there : c.loop-place.place < length c.loop-place.self-inside.words.items = let l = c.loop-place.invariant.as_long in let v = ap (λ (ws : List ℕ). length ws) c.other.view_is in let r = c.requires in omega (arith, l, v, r) in
          let before : slice_index c.loop-place.self-inside.words.items c.loop-place.place ≡ w.index_mut.result.now = get_or_from_slice_get now k w.index_mut.result.now 0 (slice_get-get_or now k w.index_mut.result.now there ∙ ap Some (sym w.index_mut.ensures.value)) in
          rw w.self-inside-is (subst (λ v. AreJoined (k + 1) c.args.self.now other (slice_set now k (bit_or v word))) before (joined_more k c.args.self.now other now _ word is there refl c.loop-place.invariant))
      | else-word-ne0 w ↦ rw w.self-inside-is (joined_none k c.args.self.now other now (is ∙ w.if-word-ne0.false) c.loop-place.invariant)
    ]
