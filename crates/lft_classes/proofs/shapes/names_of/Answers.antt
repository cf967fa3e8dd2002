use Rattle.std.proofs.Common.{◌≡◌, [], get_or, refl, ap, ◌∙◌}
use Rattle.std.proofs.lemmas.Option.{get_or_from_slice_get}
use Rattle.lft_resolve.specs.inner.Tests.{texts}
use Rattle.lft_classes.proofs.Building.{pushed}
use Rattle.lft_classes.proofs.shapes.names_of.Goals as goal

pub loop-place-preserved : goal.loop-place-preserved
loop-place-preserved c =
    let all = c.args.all.now in
    let i = c.loop-place.place in
    let n = c.item_at-named.result in
    let here : get_or all i n ≡ n = get_or_from_slice_get all i n n c.item_at-named.ensures in
    ap texts c.in_ok-push.ensures.items ∙ pushed (λ t. t.now) (λ m. m.name.now) [] c.loop-place.names.items all i _ n c.loop-place-test.true here refl c.loop-place.invariant
