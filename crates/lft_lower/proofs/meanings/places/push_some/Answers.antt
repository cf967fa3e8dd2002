use Rattle.std.proofs.Common.{◌≡◌, map, sym, ap, ◌∙◌}
use Rattle.lft_tree.specs.View.{ref_views}
use Rattle.lft_lower.specs.inner.Meanings.{Meanings.{here, places_in}, Places.up_to, Standing.ref_tokens}
use Rattle.lft_lower.proofs.MeaningsLemmas.{Placed.its_places, Standing.tokens_up_to}
use Rattle.lft_lower.proofs.meanings.places.push_some.Goals as goal

pub returns-clause-places : goal.returns-clause-places
returns-clause-places c = c.in_ok-push_meant.ensures.places ∙ ap (up_to c.args.most (ref_views c.args.list.now.items)) (sym (its_places (here c.args.within) c.args.reference.now c.in_ok-meaning.meaning c.in_ok-meaning.ensures.meaning))

pub returns-clause-tokens : goal.returns-clause-tokens
returns-clause-tokens c =
    let old = c.args.list.now.items in
    let more = places_in (here c.args.within) c.args.reference.now in
    let viewed : ref_views c.push_meant.new.list.items ≡ up_to c.args.most (ref_views old) more = c.in_ok-push_meant.ensures.places ∙ ap (up_to c.args.most (ref_views old)) (sym (its_places (here c.args.within) c.args.reference.now c.in_ok-meaning.meaning c.in_ok-meaning.ensures.meaning)) in
    tokens_up_to old _ _ c.args.most more c.in_ok-push_meant.ensures.at viewed ∙ ap (λ at. up_to c.args.most (ref_tokens old) (map (λ place. at) more)) c.token.ensures
