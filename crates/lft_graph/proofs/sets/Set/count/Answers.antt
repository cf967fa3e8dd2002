use Rattle.std.proofs.Common.{◌≡◌, ◌≤◌, ◌*◌, ◌∙◌, ℕ, List, length, slice_get, sym, ap, subst, arith}
use Rattle.std.specs.Prelude.{count_ones, slice_index}
use Rattle.std.{specs.Int.Count.ones-le, proofs.lemmas.Option.get_or_from_slice_get}
use Rattle.lft_graph.{specs.{Counts.{Count, none}, Sets.Has}, proofs.{Counting.count_within, Numbered.words_more}}
use Rattle.lft_graph.proofs.sets.Set.count.Goals as goal

pub loop-place-init : goal.loop-place-init
loop-place-init c = none

pub overflow_add-many : goal.overflow_add-many
overflow_add-many c =
    let so_far = count_within c.loop-place.invariant in
    let more : count_ones c.item_at-word.result ≤ 64 = ones-le 64 c.item_at-word.result c.item_at-word.type_inv in
    omega (arith, so_far, more, ap length c.self.view_is, c.requires)

pub loop-place-preserved : goal.loop-place-preserved
loop-place-preserved c =
    let words = c.self.inside.words.items in
    let is : slice_index c.self.inside.words.items c.loop-place.place ≡ c.item_at-word.result = get_or_from_slice_get words c.loop-place.place c.item_at-word.result 0 (ap (λ (ws : List ℕ). slice_get ws c.loop-place.place) (sym c.as_slice.ensures.value) ∙ c.item_at-word.ensures) in
    words_more words c.loop-place.place c.item_at-word.result c.loop-place.many is c.item_at-word.type_inv c.loop-place.invariant

pub returns : goal.returns
returns c =
    let words = c.self.inside.words.items in
    let all : c.loop-place.place ≡ length c.self.inside.words.items = omega arith in
    rw (sym c.self.view_is) (subst (λ k. Count (Has words) (64 * k) c.loop-place.many) all c.loop-place.invariant)
