use Rattle.std.proofs.Common.{[], subst, sym, ap, ◌∙◌}
use Rattle.std.proofs.lemmas.List.{map-append, take_all}
use Rattle.lft_tree.specs.ItemView.{item_view, item_views}
use Rattle.lft_lower.specs.inner.{Meanings.Names.texts, Reactors.{AreReactors, no_reactors}, Standing.{ArePlaced, none_placed}}
use Rattle.lft_lower.proofs.{Turns.reactors_next, Standing.placed_next}
use Rattle.lft_lower.proofs.reactors.reactors.Goals as goal

pub loop-place-init : goal.loop-place-init
loop-place-init c = (subst (λ xs. AreReactors c.args.maker.settings.now (texts c.args.maker.names.now) [] (item_views xs)) (sym c.new-items.ensures.items) no_reactors, subst (ArePlaced c.args.maker.files.now c.args.maker.settings.now []) (sym c.new-items.ensures.items) none_placed)

pub loop-place-preserved : goal.loop-place-preserved
loop-place-preserved c =
    let items = c.loop-place.items.items in (
      reactors_next c.args.maker.settings.now (texts c.args.maker.names.now) c.args.settings.now c.loop-place.place c.item_at-setting.result c.in-Some.shape.now (item_views items) _ _ c.item_at-setting.ensures c.loop-place.invariant.0 (sym c.in-Some.ensures) c.in_ok-core_reactor.ensures.made (ap item_views c.in_ok-push.ensures.items ∙ map-append item_view items _),
      placed_next c.args.maker.files.now c.args.maker.settings.now c.args.settings.now c.loop-place.place c.item_at-setting.result c.in-Some.shape.now items _ _ c.item_at-setting.ensures c.loop-place.invariant.1 (sym c.in-Some.ensures) c.in_ok-core_reactor.ensures.at c.in_ok-push.ensures.items,
    )

pub returns-clause-made : goal.returns-clause-made
returns-clause-made c = subst (λ ks. AreReactors c.args.maker.settings.now (texts c.args.maker.names.now) ks (item_views c.loop-place.items.items)) (take_all c.loop-place.place c.args.settings.now c.loop-place-test.false) c.loop-place.invariant.0

pub returns-clause-at : goal.returns-clause-at
returns-clause-at c = subst (λ ks. ArePlaced c.args.maker.files.now c.args.maker.settings.now ks c.loop-place.items.items) (take_all c.loop-place.place c.args.settings.now c.loop-place-test.false) c.loop-place.invariant.1
