use Rattle.std.proofs.Common.{◌++◌, ◌∷◌, [], ap, sym, ◌∙◌, map, take, append_assoc}
use Rattle.lft_counts.{specs.Orders.unmet, proofs.Laying.map_next}
use Rattle.lft_counts.proofs.orders.push_orders.Goals as goal

pub loop-place-preserved : goal.loop-place-preserved
loop-place-preserved c =
    let f = unmet c.args.then in
    let old = c.args.all.now.items in
    let so_far = map f (take c.loop-place.place c.args.before.now) in
    c.in_ok-push.ensures.items ∙ ap (λ z. z ++ f c.item_at.result ∷ []) c.loop-place.invariant ∙ append_assoc old so_far (f c.item_at.result ∷ []) ∙ ap (λ z. old ++ z) (sym (map_next f c.args.before.now c.loop-place.place c.item_at.result c.item_at.ensures))
