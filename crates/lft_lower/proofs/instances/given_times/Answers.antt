use Rattle.std.proofs.Common.{◌≡◌, ◌++◌, [], Some, filter_map, length, slice_get, refl, sym, ap, ◌∙◌, arith}
use Rattle.std.specs.Prelude.{option_map}
use Rattle.std.{specs.List.{cons_option, flat_map}, proofs.lemmas.{List.take_all, Option.slice_get_read}}
use Rattle.lft_lists.proofs.Picked.{kept_more}
use Rattle.lft_tree.specs.View.{assignment_view}
use Rattle.lft_lower.specs.inner.{Lowered.{IsGiven, time_given}, Meanings.Meanings.token_in, Standing.{given_token, given_tokens}}
use Rattle.lft_lower.proofs.MeaningsLemmas.Growing.{all_done, all_next, flat_all, flat_grown}
use Rattle.lft_lower.proofs.instances.given_times.Goals as goal

pub loop-place-preserved : goal.loop-place-preserved
loop-place-preserved c =
    let items = c.args.child.now.given.items in
    let place = c.loop-place.place in
    let item = c.index-given.result.now in
    let test = c.loop-place-test.true in
    let there : slice_get items place ≡ Some item = slice_get_read items (length items) place item refl (omega (arith, c.len-place-end.ensures)) c.index-given.ensures in
    let made = option_map assignment_view c.in_ok-made.made in
    let inner = c.args.inner.now in (
      c.in_ok-push_given.ensures.given ∙ ap (λ ys. ys ++ cons_option made []) c.loop-place.invariant.0 ∙ sym (kept_more (time_given inner) items place item made there c.in_ok-made.ensures.made),
      flat_grown (given_token (token_in c.args.within) inner) items place item _ _ there c.loop-place.invariant.1 (c.in_ok-push_given.ensures.at ∙ ap (λ ts. flat_map given_tokens c.loop-place.list.items ++ ts) c.in_ok-made.ensures.at),
      all_next (IsGiven c.args.within.shape.now inner) items place item there c.loop-place.invariant.2 c.in_ok-made.ensures.read,
    )

pub returns-clause-given : goal.returns-clause-given
returns-clause-given c =
    let items = c.args.child.now.given.items in
    c.loop-place.invariant.0 ∙ ap (filter_map (time_given c.args.inner.now)) (take_all c.loop-place.place items (omega (arith, c.len-place-end.ensures, c.loop-place-test.false)))

pub returns-clause-read : goal.returns-clause-read
returns-clause-read c = all_done (IsGiven c.args.within.shape.now c.args.inner.now) c.args.child.now.given.items c.loop-place.place (omega (arith, c.len-place-end.ensures, c.loop-place-test.false)) c.loop-place.invariant.2

pub returns-clause-at : goal.returns-clause-at
returns-clause-at c = flat_all (given_token (token_in c.args.within) c.args.inner.now) c.args.child.now.given.items c.loop-place.place _ (omega (arith, c.len-place-end.ensures, c.loop-place-test.false)) c.loop-place.invariant.1
