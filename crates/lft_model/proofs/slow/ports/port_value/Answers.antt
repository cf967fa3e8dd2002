use Rattle.std.proofs.Common.{sym, ◌∙◌, arith}
use Rattle.lft_model.proofs.{PortEvents.{value_stays, value_changes, chain_of, event_is, is_absent}, slow.ports.port_value.Goals.{then-is_some, else-is_some}}
use Rattle.lft_model.proofs.slow.ports.port_value.Goals as goal

pub loop-place-preserved : goal.loop-place-preserved
loop-place-preserved c =
    let now = c.value_arriving-arriving in
    elim c.if-is_some.branch [
      | then-is_some w ↦ w.value-is ∙ value_changes c.args.tag c.port-port.result.now c.args.rows.now c.loop-place.place c.row_at.result c.row_at.ensures now.result now.ensures (sym c.is_some.ensures ∙ w.if-is_some.true)
      | else-is_some w ↦ w.value-is ∙ value_stays c.args.tag c.port-port.result.now c.args.rows.now c.loop-place.place c.row_at.result c.row_at.ensures c.loop-place.value now.result c.loop-place.invariant now.ensures (sym c.is_some.ensures ∙ w.if-is_some.false)
    ]

pub returns-clause-some : goal.returns-clause-some
returns-clause-some c =
    let port = c.port-port.result.now in
    let chain = chain_of c.args.plan.now c.program.ensures.sound c.program.result.now c.program.ensures.value c.args.port port c.port-port.ensures.value in
    event_is c.args.plan.now c.args.rows.now c.args.tag c.args.port port chain c.loop-place.place c.loop-place.value (omega arith) c.loop-place.invariant

pub returns-clause-none : goal.returns-clause-none
returns-clause-none c =
    let port = c.port-port.result.now in
    let chain = chain_of c.args.plan.now c.program.ensures.sound c.program.result.now c.program.ensures.value c.args.port port c.port-port.ensures.value in
    is_absent c.args.plan.now c.args.rows.now c.args.tag c.args.port port chain c.loop-place.place c.loop-place.value (omega arith) c.loop-place.invariant
