use Rattle.std.proofs.Common.{◌≡◌, ◌+◌, ◌<◌, ◌≤◌, [], ◌∷◌, ◌++◌, Some, max, length, slice_get, sym, ap, ◌∙◌, arith, zero-add}
use Rattle.std.proofs.lemmas.List.{append-nil, length-map, length_push, map-append, FromFn.length-map-range_with_len}
use Rattle.lft_tree.specs.View.{ref_view, ref_views}
use Rattle.lft_elaborate.{specs.inner.Channels.Lowered.own, proofs.ChannelsLemmas.Grids.row_at}
use Rattle.lft_lower.specs.inner.Meanings.Places.{count_of, name_at, own_places, several}
use Rattle.lft_lower.proofs.MeaningsLemmas.{Cuts.{cut_more, cut_full, cut_all}, Standing.{refs_more, refs_none}}
use Rattle.lft_lower.proofs.meanings.places.push_own.Goals as goal

pub loop-place-init : goal.loop-place-init
loop-place-init c =
    let long = length-map c.args.list.now.items ref_view in
    record {
      many = omega (arith, long);
      few = omega (arith, long);
      made = sym (append-nil (ref_views c.args.list.now.items));
      stand = refs_none c.args.list.now.items c.args.at;
    }

pub loop-place-preserved : goal.loop-place-preserved
loop-place-preserved c =
    let start = ref_views c.args.list.now.items in
    let items = c.loop-place.list.items in
    let place = c.loop-place.place in
    let thing = several c.args.thing in
    let made = c.in_ok-reference.reference in
    let longer = ap length c.in_ok-push.ensures.items ∙ length_push items made in
    let within : place < count_of thing = omega (arith, c.count-count.ensures) in
    let viewed : ref_view made ≡ own (name_at thing place) = c.in_ok-reference.ensures.made ∙ ap own c.at.ensures in
    let there : slice_get (own_places thing) place ≡ Some (ref_view made) = row_at (λ k. own (name_at thing k)) 0 (count_of thing) place within ∙ ap (λ k. Some (own (name_at thing k))) (zero-add place) ∙ ap Some (sym viewed) in
    record {
      many = omega (arith, longer, c.loop-place.invariant.many);
      few = omega (arith, longer, c.loop-place.invariant.many, c.loop-place.invariant.few);
      made = ap ref_views c.in_ok-push.ensures.items ∙ map-append ref_view items (made ∷ []) ∙ ap (λ vs. vs ++ ref_view made ∷ []) c.loop-place.invariant.made ∙ cut_more start (own_places thing) place (ref_view made) there;
      stand = refs_more c.args.list.now.items items _ made c.args.at c.loop-place.invariant.stand c.in_ok-push.ensures.items c.in_ok-reference.ensures.at;
    }

pub returns-then-len-most-clause-places : goal.returns-then-len-most-clause-places
returns-then-len-most-clause-places c =
    let start = ref_views c.args.list.now.items in
    let low : length start + c.loop-place.place ≤ max c.args.most (length start) = omega (arith, c.loop-place.invariant.many, c.loop-place.invariant.few) in
    let full : c.args.most ≤ length start + c.loop-place.place = omega (arith, c.loop-place.invariant.many) in
    c.loop-place.invariant.made ∙ cut_full start (own_places (several c.args.thing)) c.loop-place.place c.args.most low full

pub returns-clause-places : goal.returns-clause-places
returns-clause-places c =
    let start = ref_views c.args.list.now.items in
    let thing = several c.args.thing in
    let low : length start + c.loop-place.place ≤ max c.args.most (length start) = omega (arith, c.loop-place.invariant.many, c.loop-place.invariant.few) in
    let all : length (own_places thing) ≤ c.loop-place.place = omega (arith, length-map-range_with_len (λ k. own (name_at thing k)) 0 (count_of thing), c.count-count.ensures) in
    c.loop-place.invariant.made ∙ cut_all start (own_places thing) c.loop-place.place c.args.most low all

pub returns-then-len-most-clause-at : goal.returns-then-len-most-clause-at
returns-then-len-most-clause-at c = c.loop-place.invariant.stand

pub returns-clause-at : goal.returns-clause-at
returns-clause-at c = c.loop-place.invariant.stand
