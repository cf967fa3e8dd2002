use Rattle.std.proofs.Common.{◌≡◌, ◌+◌, ◌*◌, ◌-◌, ◌^◌, ◌≤◌, [], ◌∷◌, ◌++◌, Some, min, max, length, slice_get, sym, ap, ◌∙◌, arith}
use Rattle.std.specs.Prelude.{option_map}
use Rattle.std.proofs.lemmas.{List.{append-nil, length-map, length_push, map-append}, Option.slice_get-map}
use Rattle.lft_tree.specs.View.{ref_view, ref_views}
use Rattle.lft_elaborate.specs.inner.{Names.spelled, Channels.{Channels.{Place, places}, Lowered.inner}}
use Rattle.lft_lower.specs.inner.Meanings.Places.{count_of, inner_places, name_at, several}
use Rattle.lft_lower.proofs.MeaningsLemmas.{Cuts.{cut_more, cut_full, cut_end, length_places}, Standing.{refs_more, refs_none}}
use Rattle.lft_lower.proofs.meanings.places.push_inner.Goals as goal

pub loop-place-init : goal.loop-place-init
loop-place-init c =
    let long = length-map c.args.list.now.items ref_view in
    record {
      many = omega (arith, long);
      few = omega (arith, long);
      made = sym (append-nil (ref_views c.args.list.now.items));
      stand = refs_none c.args.list.now.items c.args.at;
    }

pub loop-place-preserved : goal.loop-place-preserved
loop-place-preserved c =
    let start = ref_views c.args.list.now.items in
    let items = c.loop-place.list.items in
    let place = c.loop-place.place in
    let members = several c.args.members in
    let channels = several c.args.channels in
    let b = c.args.is_interleaved in
    let spot = c.place_at-spot.result in
    let made = c.in_ok-reference.reference in
    let longer = ap length c.in_ok-push.ensures.items ∙ length_push items made in
    let stands : slice_get (places (count_of members) (count_of channels) b) place ≡ Some spot = ap (λ r. slice_get (places r (count_of channels) b) place) (sym c.count-rows.ensures) ∙ ap (λ w. slice_get (places c.count-rows.result w b) place) (sym c.count-width.ensures) ∙ c.place_at-spot.ensures in
    let viewed : ref_view made ≡ inner (name_at members spot.0) (name_at channels spot.1) = c.in_ok-reference.ensures.made ∙ ap (λ h. inner h (spelled c.at-port.result)) c.at-head.ensures ∙ ap (λ p. inner (name_at members spot.0) p) c.at-port.ensures in
    let there : slice_get (inner_places members channels b) place ≡ Some (ref_view made) = slice_get-map (λ (p : Place). inner (name_at members p.0) (name_at channels p.1)) (places (count_of members) (count_of channels) b) place ∙ ap (option_map (λ (p : Place). inner (name_at members p.0) (name_at channels p.1))) stands ∙ ap Some (sym viewed) in
    record {
      many = omega (arith, longer, c.loop-place.invariant.many);
      few = omega (arith, longer, c.loop-place.invariant.many, c.loop-place.invariant.few);
      made = ap ref_views c.in_ok-push.ensures.items ∙ map-append ref_view items (made ∷ []) ∙ ap (λ vs. vs ++ ref_view made ∷ []) c.loop-place.invariant.made ∙ cut_more start (inner_places members channels b) place (ref_view made) there;
      stand = refs_more c.args.list.now.items items _ made c.args.at c.loop-place.invariant.stand c.in_ok-push.ensures.items c.in_ok-reference.ensures.at;
    }

pub returns-then-len-most-clause-places : goal.returns-then-len-most-clause-places
returns-then-len-most-clause-places c =
    let start = ref_views c.args.list.now.items in
    let low : length start + c.loop-place.place ≤ max c.args.most (length start) = omega (arith, c.loop-place.invariant.many, c.loop-place.invariant.few) in
    let full : c.args.most ≤ length start + c.loop-place.place = omega (arith, c.loop-place.invariant.many) in
    c.loop-place.invariant.made ∙ cut_full start (inner_places (several c.args.members) (several c.args.channels) c.args.is_interleaved) c.loop-place.place c.args.most low full

pub returns-clause-places : goal.returns-clause-places
returns-clause-places c =
    let start = ref_views c.args.list.now.items in
    let members = several c.args.members in
    let channels = several c.args.channels in
    let b = c.args.is_interleaved in
    let more = inner_places members channels b in
    let low : length start + c.loop-place.place ≤ max c.args.most (length start) = omega (arith, c.loop-place.invariant.many, c.loop-place.invariant.few) in
    let many : length more ≡ c.count-rows.result * c.count-width.result = length-map (places (count_of members) (count_of channels) b) (λ (p : Place). inner (name_at members p.0) (name_at channels p.1)) ∙ length_places (count_of members) (count_of channels) b ∙ ap (λ r. r * count_of channels) (sym c.count-rows.ensures) ∙ ap (λ w. c.count-rows.result * w) (sym c.count-width.ensures) in
    let far : min (length more) (2 ^ 64 - 1) ≤ c.loop-place.place = omega (arith, ap (λ n. min n (2 ^ 64 - 1)) many, c.saturating_mul-all.ensures) in
    let small : c.args.most ≤ 2 ^ 64 - 1 = omega (arith, c.ranges.most) in
    c.loop-place.invariant.made ∙ cut_end start more c.loop-place.place c.args.most (2 ^ 64 - 1) low far small

pub returns-then-len-most-clause-at : goal.returns-then-len-most-clause-at
returns-then-len-most-clause-at c = c.loop-place.invariant.stand

pub returns-clause-at : goal.returns-clause-at
returns-clause-at c = c.loop-place.invariant.stand
