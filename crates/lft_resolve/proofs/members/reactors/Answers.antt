use Rattle.std.proofs.Common.{◌<◌, length, ap, sym, ◌∙◌, arith}
use Rattle.std.specs.Option.{option_map}
use Rattle.lft_tree.specs.{Tree.reactor_in, View.{item_view, reactor_view}}
use Rattle.lft_lists.proofs.Picked.{picked_some, picked_none}
use Rattle.lft_resolve.proofs.members.reactors.Goals.{in-Some+in_ok-push-in-Some, in-None}
use Rattle.lft_resolve.proofs.members.reactors.Goals as goal

pub loop-item-preserved : goal.loop-item-preserved
loop-item-preserved c =
    let within : c.loop-item.item-index < length c.args.items.now = omega arith in
    elim c.match-as_reactor.branch [
      | in-Some+in_ok-push-in-Some w ↦ rw (w.found-is, w.in_ok-push-in-Some.ensures.items) (picked_some reactor_in item_view (λ x. reactor_view x.now) c.args.items.now c.loop-item.item-index c.item-item.result within (sym c.item-item.is) c.loop-item.found.items c.loop-item.invariant _ (sym c.as_reactor.ensures ∙ ap (option_map (λ x. reactor_view x.now)) w.in-Some.is))
      | in-None w ↦ rw w.found-is (picked_none reactor_in item_view (λ x. reactor_view x.now) c.args.items.now c.loop-item.item-index c.item-item.result within (sym c.item-item.is) c.loop-item.found.items c.loop-item.invariant (sym c.as_reactor.ensures ∙ ap (option_map (λ x. reactor_view x.now)) w.in-None.is))
    ]
