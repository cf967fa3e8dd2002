use Rattle.std.proofs.Common.{◌<◌, length, ap, sym, ◌∙◌, arith}
use Rattle.std.specs.Option.{option_map}
use Rattle.lft_validate.{specs.Members.name_among, proofs.{Picking.{kept_some, kept_none}, names.trigger_names.Goals.{in-Some+in_ok-push-in-Some, in-None}}}
use Rattle.lft_validate.proofs.names.trigger_names.Goals as goal

pub loop-trigger-preserved : goal.loop-trigger-preserved
loop-trigger-preserved c =
    let within : c.loop-trigger.trigger-index < length c.args.triggers.now = omega arith in
    elim c.match-name_among.branch [
      | in-Some+in_ok-push-in-Some w ↦ rw (w.found-is, w.in_ok-push-in-Some.ensures.items) (kept_some name_among c.args.triggers.now c.loop-trigger.trigger-index c.trigger-item.result within (sym c.trigger-item.is) (λ x. x.now) c.loop-trigger.found.items c.loop-trigger.invariant _ (sym c.name_among.ensures ∙ ap (option_map (λ x. x.now)) w.in-Some.is))
      | in-None w ↦ rw w.found-is (kept_none name_among c.args.triggers.now c.loop-trigger.trigger-index c.trigger-item.result within (sym c.trigger-item.is) (λ x. x.now) c.loop-trigger.found.items c.loop-trigger.invariant (sym c.name_among.ensures ∙ ap (option_map (λ x. x.now)) w.in-None.is))
    ]
