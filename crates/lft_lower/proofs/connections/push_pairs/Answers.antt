use Rattle.std.proofs.Common.{◌≡◌, ◌<◌, ◌++◌, [], ◌∷◌, true, Some, map, length, refl, sym, ap, ◌∙◌, arith}
use Rattle.std.specs.Prelude.{option_map, slice_get}
use Rattle.std.proofs.lemmas.{List.{append-nil, length-map}, Option.slice_get-get_or}
use Rattle.lft_lists.proofs.Mapped.{mapped}
use Rattle.lft_elaborate.specs.{Channels.Channels.below, inner.Channels.{Channels.{joined, left_channel}, Lowered.single}}
use Rattle.lft_tree.specs.{Tree.ConnectionMember, View.{member_view, member_views, ref_view, ref_views, time_view}, declared.tree.Reference.Reference}
use Rattle.lft_lower.proofs.{Joining.{added_next, joined_low, pairs_all, pairs_more, pairs_none}, Pairing.tokens_next, Standing.{at_as, at_more, at_none}}
use Rattle.lft_lower.specs.inner.{Standing.{pair_tokens, time_tokens}, Meanings.Standing.ref_tokens}
use Rattle.lft_lower.proofs.connections.push_pairs.Goals as goal

pub loop-pair-init : goal.loop-pair-init
loop-pair-init c = ([], pairs_none (ref_views c.args.sources.now) (ref_views c.args.destinations.now) true (option_map time_view c.args.delay.now), omega arith, sym (append-nil (member_views c.args.list.now.items)), at_none c.args.list.now.items c.args.arrow _ refl)

pub loop-pair-preserved : goal.loop-pair-preserved
loop-pair-preserved c =
    let lefts = c.args.sources.now in
    let rights = c.args.destinations.now in
    let delay = option_map time_view c.args.delay.now in
    let pair = c.loop-pair.pair in
    let cs = c.loop-pair.invariant.0 in
    let from = c.index-sources-place.result in
    let to = c.index-destinations-pair.result in
    let place = c.source-place.result in
    let test = c.loop-pair-test.true in
    let of_left : slice_get lefts place ≡ Some from = slice_get-get_or lefts place from c.source-place.ensures.there ∙ ap Some (sym c.index-sources-place.is) in
    let there : place ≡ left_channel (length (ref_views lefts)) true pair = c.source-place.ensures.result ∙ ap (λ n. left_channel n true pair) (sym (length-map lefts ref_view)) in
    let at_left : slice_get (ref_views lefts) (left_channel (length (ref_views lefts)) true pair) ≡ Some (ref_view from) = ap (slice_get (ref_views lefts)) (sym there) ∙ mapped ref_view lefts place from of_left in
    let under : pair < joined (length lefts) (length rights) true = omega (arith, c.joined-pairs.ensures) in
    let low : pair < length rights = joined_low (length lefts) (length rights) pair under in
    let of_right : slice_get rights pair ≡ Some to = slice_get-get_or rights pair to low ∙ ap Some (sym c.index-destinations-pair.is) in
    let at_right : slice_get (ref_views rights) pair ≡ Some (ref_view to) = mapped ref_view rights pair to of_right in
    let so_far : place ≡ left_channel (length (ref_tokens lefts)) true pair = c.source-place.ensures.result ∙ ap (λ n. left_channel n true pair) (sym (length-map lefts (λ (r : Reference). r.at))) in
    let one = single delay (ref_view from) (ref_view to) in (
      cs ++ one ∷ [],
      pairs_more (ref_views lefts) (ref_views rights) true delay pair cs (ref_view from) (ref_view to) c.loop-pair.invariant.1 at_left at_right,
      omega (arith, under),
      added_next member_view c.loop-pair.list.items _ _ (member_views c.args.list.now.items) cs one c.in_ok-push.ensures.items (ap ConnectionMember c.in_ok-connection.ensures.made) c.loop-pair.invariant.3,
      at_more c.args.list.now.items c.loop-pair.list.items _ _ c.args.arrow _ _ c.loop-pair.invariant.4 c.in_ok-push.ensures.items c.in_ok-connection.ensures.arrow (λ parts made. tokens_next (ref_tokens lefts) (ref_tokens rights) (time_tokens c.args.delay.now) parts _ pair place from.at to.at (mapped (λ (r : Reference). r.at) lefts place from of_left) so_far (mapped (λ (r : Reference). r.at) rights pair to of_right) c.in_ok-connection.ensures.parts made),
    )

pub returns-clause-made : goal.returns-clause-made
returns-clause-made c =
    let lefts = c.args.sources.now in
    let rights = c.args.destinations.now in
    let test = c.loop-pair-test.false in
    let few = c.loop-pair.invariant.2 in
    let end : c.loop-pair.pair ≡ joined (length lefts) (length rights) true = omega (arith, few, c.joined-pairs.ensures) in
    let all : c.loop-pair.pair ≡ joined (length (ref_views lefts)) (length (ref_views rights)) true = end ∙ ap (λ n. joined n (length rights) true) (sym (length-map lefts ref_view)) ∙ ap (λ n. joined (length (ref_views lefts)) n true) (sym (length-map rights ref_view)) in
    (map ConnectionMember c.loop-pair.invariant.0, (c.loop-pair.invariant.0, pairs_all (ref_views lefts) (ref_views rights) true (option_map time_view c.args.delay.now) c.loop-pair.pair c.loop-pair.invariant.0 all c.loop-pair.invariant.1, refl), c.loop-pair.invariant.3)

pub returns-clause-at : goal.returns-clause-at
returns-clause-at c =
    let lefts = c.args.sources.now in
    let rights = c.args.destinations.now in
    let test = c.loop-pair-test.false in
    let few = c.loop-pair.invariant.2 in
    let end : c.loop-pair.pair ≡ joined (length lefts) (length rights) true = omega (arith, few, c.joined-pairs.ensures) in
    let token = λ (r : Reference). r.at in
    let all : c.loop-pair.pair ≡ joined (length (ref_tokens lefts)) (length (ref_tokens rights)) true = end ∙ ap (λ n. joined n (length rights) true) (sym (length-map lefts token)) ∙ ap (λ n. joined (length (ref_tokens lefts)) n true) (sym (length-map rights token)) in
    at_as c.args.list.now.items _ _ _ _ c.loop-pair.invariant.4 (λ parts made. made ∙ ap (λ n. map (pair_tokens (ref_tokens lefts) (ref_tokens rights) true (time_tokens c.args.delay.now)) (below n)) all)
