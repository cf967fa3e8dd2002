use Rattle.std.proofs.Common.{◌≡◌, ◌++◌, get_or, sym, ap, ◌∙◌}
use Rattle.std.proofs.lemmas.Option.{get_or_from_slice_get}
use Rattle.lft_classes.{specs.inner.Built.{members_at, parameters_at}, proofs.Building.flat_more}
use Rattle.lft_classes.proofs.shapes.parts_of.Goals as goal

pub loop-place-preserved : goal.loop-place-preserved
loop-place-preserved c =
    let chain = c.args.chain.now in
    let i = c.loop-place.place in
    let r = c.item_at-number.result in
    let here : get_or chain i r ≡ r = get_or_from_slice_get chain i r r c.item_at-number.ensures in
    record {
      members = c.in_ok-push_class.ensures.members ∙ ap (λ l. l ++ members_at c.args.scopes.now r) c.loop-place.invariant.members ∙ sym (flat_more (members_at c.args.scopes.now) chain i r c.loop-place-test.true here);
      parameters = c.in_ok-push_class.ensures.parameters ∙ ap (λ l. l ++ parameters_at c.args.scopes.now r) c.loop-place.invariant.parameters ∙ sym (flat_more (parameters_at c.args.scopes.now) chain i r c.loop-place-test.true here);
      main = c.in_ok-push_class.ensures.main ∙ c.loop-place.invariant.main;
    }
