use Rattle.std.proofs.Common.{◌<◌, length, Some, string_bytes, ap, sym, ◌∙◌, arith}
use Rattle.std.specs.Option.{option_map}
use Rattle.lft_tree.specs.View.{reactor_view}
use Rattle.lft_lists.proofs.Picked.{picked_some, picked_none}
use Rattle.lft_resolve.proofs.names.reactor_names.Goals.{in-Some+in_ok-push-in-Some, in-None}
use Rattle.lft_resolve.proofs.names.reactor_names.Goals as goal

pub loop-reactor-preserved : goal.loop-reactor-preserved
loop-reactor-preserved c =
    let within : c.loop-reactor.reactor-index < length c.args.reactors.now = omega arith in
    elim c.match-reactor.branch [
      | in-Some+in_ok-push-in-Some w ↦ rw (w.names-is, w.in_ok-push-in-Some.ensures.items) (picked_some (λ r. r.name) (λ r. reactor_view r.now) (λ t. t.now) c.args.reactors.now c.loop-reactor.reactor-index c.reactor-item.result within (sym c.reactor-item.is) c.loop-reactor.names.items c.loop-reactor.invariant _ (ap (option_map string_bytes) w.in-Some.is ∙ ap Some (sym w.as_str.ensures.value)))
      | in-None w ↦ rw w.names-is (picked_none (λ r. r.name) (λ r. reactor_view r.now) (λ t. t.now) c.args.reactors.now c.loop-reactor.reactor-index c.reactor-item.result within (sym c.reactor-item.is) c.loop-reactor.names.items c.loop-reactor.invariant (ap (option_map string_bytes) w.in-None.is))
    ]
