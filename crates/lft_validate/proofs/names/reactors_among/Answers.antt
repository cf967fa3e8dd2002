use Rattle.std.proofs.Common.{◌<◌, length, ap, sym, ◌∙◌, arith}
use Rattle.std.specs.Option.{option_map}
use Rattle.lft_validate.{specs.Members.reactor_of, proofs.{Picking.{kept_some, kept_none}, names.reactors_among.Goals.{in-Some+in_ok-push-in-Some, in-None}}}
use Rattle.lft_validate.proofs.names.reactors_among.Goals as goal

pub loop-item-preserved : goal.loop-item-preserved
loop-item-preserved c =
    let within : c.loop-item.item-index < length c.args.items.now = omega arith in
    elim c.match-reactor_of.branch [
      | in-Some+in_ok-push-in-Some w ↦ rw (w.found-is, w.in_ok-push-in-Some.ensures.items) (kept_some reactor_of c.args.items.now c.loop-item.item-index c.item-item.result within (sym c.item-item.is) (λ x. x.now) c.loop-item.found.items c.loop-item.invariant _ (sym c.reactor_of.ensures ∙ ap (option_map (λ x. x.now)) w.in-Some.is))
      | in-None w ↦ rw w.found-is (kept_none reactor_of c.args.items.now c.loop-item.item-index c.item-item.result within (sym c.item-item.is) (λ x. x.now) c.loop-item.found.items c.loop-item.invariant (sym c.reactor_of.ensures ∙ ap (option_map (λ x. x.now)) w.in-None.is))
    ]
