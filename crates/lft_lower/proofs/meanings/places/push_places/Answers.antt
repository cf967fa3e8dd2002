use Rattle.std.proofs.Common.{◌≡◌, ◌+◌, ◌++◌, length, map, sym, ap, ◌∙◌, arith}
use Rattle.std.specs.Prelude.{is_some}
use Rattle.std.proofs.lemmas.List.{length-map}
use Rattle.lft_tree.specs.View.{ref_view, ref_views}
use Rattle.lft_lower.specs.inner.Meanings.{Meanings.{here, places_in, places_of}, Places.up_to, Standing.ref_tokens}
use Rattle.lft_lower.proofs.MeaningsLemmas.{Growing.take_whole, Placed.its_places, Standing.tokens_put}
use Rattle.lft_lower.proofs.meanings.places.push_places.Goals as goal

pub returns-clause-means : goal.returns-clause-means
returns-clause-means c = ap is_some c.in_ok-meaning.ensures.meaning

pub returns-clause-places : goal.returns-clause-places
returns-clause-places c =
    let old = ref_views c.args.list.now.items in
    let r = c.args.reference.now in
    let more = places_of (here c.args.within) r.is_interleaved c.in_ok-meaning.meaning in
    let long : c.in_ok-most.most ≡ length old + length more = omega (arith, c.in_ok-most.ensures.sum, c.in_ok-count.ensures.count r.is_interleaved, length-map c.args.list.now.items ref_view) in
    c.in_ok-push_meant.ensures.places ∙ ap (λ most. up_to most old more) long ∙ take_whole old more ∙ ap (λ ms. old ++ ms) (sym (its_places (here c.args.within) r c.in_ok-meaning.meaning c.in_ok-meaning.ensures.meaning))

pub returns-clause-tokens : goal.returns-clause-tokens
returns-clause-tokens c =
    let old = c.args.list.now.items in
    let more = places_in (here c.args.within) c.args.reference.now in
    tokens_put old _ _ more c.in_ok-push_meant.ensures.at (returns-clause-places c) ∙ ap (λ at. ref_tokens old ++ map (λ place. at) more) c.token-at.ensures
