use Rattle.std.proofs.Common.{sym, ◌∙◌, ap}
use Rattle.lft_ir.specs.Steps.Inputs.{ExternalInputs}
use Rattle.lft_model.{specs.Presence.{given, min_delay, scheduled}, proofs.ActionEvents.{none_more, at_row, at_event}}
use Rattle.lft_model.proofs.slow.actions.action_value.Goals as goal

pub returns-then-is_some-clause-some : goal.returns-then-is_some-clause-some
returns-then-is_some-clause-some c = at_row c.args.plan.now c.args.rows.now c.args.tag c.args.action c.loop-place.place c.row_at.result _ c.row_at.ensures c.value_scheduled-value.ensures

pub loop-place-preserved : goal.loop-place-preserved
loop-place-preserved c = none_more (scheduled c.args.tag c.args.action (min_delay c.args.plan.now.program c.args.action)) c.args.rows.now c.loop-place.place c.row_at.result _ c.row_at.ensures c.value_scheduled-value.ensures (sym c.is_some.ensures ∙ c.if-is_some.false) c.loop-place.invariant

pub returns-then-is_some-2-clause-some : goal.returns-then-is_some-2-clause-some
returns-then-is_some-2-clause-some c =
    let plan = c.args.plan.now in
    let i = c.loop-place-2.place in
    let same = c.events-events.ensures.value ∙ ap (λ (x : ExternalInputs). x.events) c.externals.ensures.value in
    at_event plan c.args.rows.now c.args.tag c.args.action i c.item_at.result _ (rw same at c.item_at.ensures) c.value_given-value.ensures

pub loop-place-2-preserved : goal.loop-place-2-preserved
loop-place-2-preserved c = record {
  rows = c.loop-place-2.invariant.rows;
  events = none_more (given c.args.tag c.args.action) c.events-events.result.now c.loop-place-2.place c.item_at.result _ c.item_at.ensures c.value_given-value.ensures (sym c.is_some-in-loop-place-2.ensures ∙ c.if-is_some-2.false) c.loop-place-2.invariant.events;
}
