use Rattle.std.proofs.Common.{◌≡◌, Some, length, slice_get, refl, arith}
use Rattle.std.proofs.lemmas.Option.{slice_get_read}
use Rattle.lft_lower.specs.inner.{Meanings.Meanings.{here, token_in}, Lowered.{MeansEffect, effect_places}, Standing.tokens_of_effect}
use Rattle.lft_lower.proofs.MeaningsLemmas.Growing.{all_done, all_next, flat_all, flat_grown}
use Rattle.lft_lower.proofs.reactions.effects.Goals as goal

pub loop-place-preserved : goal.loop-place-preserved
loop-place-preserved c =
    let items = c.args.reaction.now.effects.items in
    let place = c.loop-place.place in
    let item = c.index.result.now in
    let test = c.loop-place-test.true in
    let there : slice_get items place ≡ Some item = slice_get_read items (length items) place item refl (omega (arith, c.len-place-end.ensures)) c.index.ensures in
    let h = here c.args.within in (
      flat_grown (effect_places h) items place item _ _ there c.loop-place.invariant.0 c.in_ok-push_effect.ensures.places,
      flat_grown (tokens_of_effect (token_in c.args.within) h) items place item _ _ there c.loop-place.invariant.1 c.in_ok-push_effect.ensures.at,
      all_next (MeansEffect h) items place item there c.loop-place.invariant.2 c.in_ok-push_effect.ensures.means,
    )

pub returns-clause-means : goal.returns-clause-means
returns-clause-means c = all_done (MeansEffect (here c.args.within)) c.args.reaction.now.effects.items c.loop-place.place (omega (arith, c.len-place-end.ensures, c.loop-place-test.false)) c.loop-place.invariant.2

pub returns-clause-places : goal.returns-clause-places
returns-clause-places c = flat_all (effect_places (here c.args.within)) (c.args.reaction.now.effects.items) c.loop-place.place _ (omega (arith, c.len-place-end.ensures, c.loop-place-test.false)) c.loop-place.invariant.0

pub returns-clause-at : goal.returns-clause-at
returns-clause-at c = flat_all (tokens_of_effect (token_in c.args.within) (here c.args.within)) (c.args.reaction.now.effects.items) c.loop-place.place _ (omega (arith, c.len-place-end.ensures, c.loop-place-test.false)) c.loop-place.invariant.1
