use Rattle.std.proofs.Common.{◌<◌, length, ap, sym, ◌∙◌, arith}
use Rattle.std.specs.Option.{option_map}
use Rattle.lft_lists.proofs.Picked.{picked_some, picked_none}
use Rattle.lft_validate.{specs.{Findings.name_at, Members.own_name}, proofs.declared.reactor_names.Goals.{in-Some+in_ok-push-in-Some, in-None}}
use Rattle.lft_validate.proofs.declared.reactor_names.Goals as goal

pub loop-reactor-preserved : goal.loop-reactor-preserved
loop-reactor-preserved c =
    let within : c.loop-reactor.reactor-index < length c.args.reactors.now = omega arith in
    elim c.match-own_name.branch [
      | in-Some+in_ok-push-in-Some w ↦ rw (w.names-is, w.in_ok-push-in-Some.ensures.items) (picked_some own_name (λ r. r.now) name_at c.args.reactors.now c.loop-reactor.reactor-index c.reactor-item.result within (sym c.reactor-item.is) c.loop-reactor.names.items c.loop-reactor.invariant _ (sym c.own_name.ensures ∙ ap (option_map name_at) w.in-Some.is))
      | in-None w ↦ rw w.names-is (picked_none own_name (λ r. r.now) name_at c.args.reactors.now c.loop-reactor.reactor-index c.reactor-item.result within (sym c.reactor-item.is) c.loop-reactor.names.items c.loop-reactor.invariant (sym c.own_name.ensures ∙ ap (option_map name_at) w.in-None.is))
    ]
