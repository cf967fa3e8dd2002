use Rattle.std.proofs.Common.{◌≡◌, Some, slice_get, sym, ap, ◌∙◌, arith}
use Rattle.std.proofs.lemmas.{Option.slice_get-get_or, Result.err_from_is_err_and}
use Rattle.lft_lower.specs.inner.Meanings.{Meanings.{Means, places_in, here, token_in}, Standing.tokens_of, Refused.{IsOfReference, IsPassed}}
use Rattle.lft_lower.proofs.MeaningsLemmas.{Growing.{all_done, all_next, flat_all, flat_grown}, Refusing.of_this}
use Rattle.lft_lower.proofs.meanings.places.places.Goals as goal

pub loop-place-preserved : goal.loop-place-preserved
loop-place-preserved c =
    let items = c.args.references.now in
    let place = c.loop-place.place in
    let item = c.index-references-place.result in
    let test = c.loop-place-test.true in
    let there : slice_get items place ≡ Some item = slice_get-get_or items place item (omega arith) ∙ ap Some (sym c.index-references-place.is) in
    let h = here c.args.within in (
      flat_grown (places_in h) items place item _ _ there c.loop-place.invariant.0 c.in_ok-push_places.ensures.places,
      flat_grown (tokens_of (token_in c.args.within) h) items place item _ _ there c.loop-place.invariant.1 c.in_ok-push_places.ensures.tokens,
      all_next (Means h) items place item there c.loop-place.invariant.2 c.in_ok-push_places.ensures.means,
    )

pub returns-clause-means : goal.returns-clause-means
returns-clause-means c = all_done (Means (here c.args.within)) c.args.references.now c.loop-place.place c.loop-place-test.false c.loop-place.invariant.2

pub returns-clause-places : goal.returns-clause-places
returns-clause-places c = flat_all (places_in (here c.args.within)) (c.args.references.now) c.loop-place.place _ c.loop-place-test.false c.loop-place.invariant.0

pub returns-clause-tokens : goal.returns-clause-tokens
returns-clause-tokens c = flat_all (tokens_of (token_in c.args.within) (here c.args.within)) (c.args.references.now) c.loop-place.place _ c.loop-place-test.false c.loop-place.invariant.1

pub returns-in_err-push_places-clause-cause : goal.returns-in_err-push_places-clause-cause
returns-in_err-push_places-clause-cause c =
    let p = err_from_is_err_and c.from_residual.result c.from_residual.ensures.1 in
    let items = c.args.references.now in
    let place = c.loop-place.place in
    let item = c.index-references-place.result in
    let test = c.loop-place-test.true in
    let there : slice_get items place ≡ Some item = slice_get-get_or items place item (omega arith) ∙ ap Some (sym c.index-references-place.is) in
    let w = c.args.within in
    rw (p.1, p.2) (of_this (IsOfReference (here w) w.file) (IsPassed w.settings.now.work.main) items place item c.in_err-push_places.field-0.0 there c.in_err-push_places.ensures.cause)
