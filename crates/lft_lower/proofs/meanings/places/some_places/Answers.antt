use Rattle.std.proofs.Common.{◌≡◌, Some, slice_get, take, sym, ap, ◌∙◌, arith}
use Rattle.std.proofs.lemmas.{List.take_all, Option.slice_get-get_or, Result.err_from_is_err_and}
use Rattle.lft_lower.specs.inner.Meanings.{Meanings.{all_places, places_in, here, token_in}, Standing.{all_tokens, tokens_of}}
use Rattle.lft_lower.specs.inner.Meanings.Refused.{IsOfReference, IsPassed}
use Rattle.lft_lower.proofs.MeaningsLemmas.{Growing.cut_next, Refusing.of_this}
use Rattle.lft_lower.proofs.meanings.places.some_places.Goals as goal

pub loop-place-preserved : goal.loop-place-preserved
loop-place-preserved c =
    let items = c.args.references.now in
    let place = c.loop-place.place in
    let item = c.index-references-place.result in
    let test = c.loop-place-test.true in
    let there : slice_get items place ≡ Some item = slice_get-get_or items place item (omega arith) ∙ ap Some (sym c.index-references-place.is) in
    let h = here c.args.within in (
      cut_next (places_in h) items place item c.args.most _ _ there c.loop-place.invariant.0 c.in_ok-push_some.ensures.places,
      cut_next (tokens_of (token_in c.args.within) h) items place item c.args.most _ _ there c.loop-place.invariant.1 c.in_ok-push_some.ensures.tokens,
    )

pub returns-clause-places : goal.returns-clause-places
returns-clause-places c = c.loop-place.invariant.0 ∙ ap (λ rs. take c.args.most (all_places (here c.args.within) rs)) (take_all c.loop-place.place c.args.references.now c.loop-place-test.false)

pub returns-clause-tokens : goal.returns-clause-tokens
returns-clause-tokens c = c.loop-place.invariant.1 ∙ ap (λ rs. take c.args.most (all_tokens (token_in c.args.within) (here c.args.within) rs)) (take_all c.loop-place.place c.args.references.now c.loop-place-test.false)

pub returns-in_err-push_some-clause-cause : goal.returns-in_err-push_some-clause-cause
returns-in_err-push_some-clause-cause c =
    let p = err_from_is_err_and c.from_residual.result c.from_residual.ensures.1 in
    let items = c.args.references.now in
    let place = c.loop-place.place in
    let item = c.index-references-place.result in
    let test = c.loop-place-test.true in
    let there : slice_get items place ≡ Some item = slice_get-get_or items place item (omega arith) ∙ ap Some (sym c.index-references-place.is) in
    let w = c.args.within in
    rw (p.1, p.2) (of_this (IsOfReference (here w) w.file) (IsPassed w.settings.now.work.main) items place item c.in_err-push_some.field-0.0 there c.in_err-push_some.ensures.cause)
