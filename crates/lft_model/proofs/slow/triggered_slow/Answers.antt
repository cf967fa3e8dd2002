use Rattle.std.proofs.Common.{get_or, below_more, sym, ◌∙◌, arith}
use Rattle.std.proofs.lemmas.Bool.{false≢true}
use Rattle.lft_ir.specs.declared.parts.Trigger.TheVariants.{Startup}
use Rattle.lft_model.{specs.Presence.OccursUntil, proofs.Triggering.{trigger_known, triggered_by, not_triggered}}
use Rattle.lft_model.proofs.slow.triggered_slow.Goals as goal

pub occurs-requires-clause-trigger : goal.occurs-requires-clause-trigger
occurs-requires-clause-trigger c = trigger_known c.program.result.now c.args.plan.now.program c.program.ensures.value c.reaction.ensures.sound c.args.reaction c.reaction.result.now c.reaction.ensures.value c.as_slice-triggers.result.now c.as_slice-triggers.ensures c.loop-place.place Startup (omega arith)

pub returns-then-occurs : goal.returns-then-occurs
returns-then-occurs c = triggered_by c.args.plan.now c.as_slice-rows.result.now c.args.rows.now c.as_slice-rows.ensures c.trace_stop-stop.result c.trace_stop-stop.ensures c.args.tag c.args.reaction c.program.result.now c.program.ensures.value c.reaction.result.now c.reaction.ensures.value c.as_slice-triggers.result.now c.as_slice-triggers.ensures c.loop-place.place Startup (omega arith) (c.occurs.ensures.0 c.if-occurs.true)

pub loop-place-preserved : goal.loop-place-preserved
loop-place-preserved c = below_more (λ j. ¬ OccursUntil c.trace_stop-stop.result c.args.plan.now c.as_slice-rows.result.now c.args.tag (get_or c.as_slice-triggers.result.now j Startup)) c.loop-place.place c.loop-place.invariant (λ o. false≢true (sym c.if-occurs.false ∙ c.occurs.ensures.1 o))

pub returns : goal.returns
returns c = not_triggered c.args.plan.now c.as_slice-rows.result.now c.args.rows.now c.as_slice-rows.ensures c.trace_stop-stop.result c.trace_stop-stop.ensures c.args.tag c.args.reaction c.program.result.now c.program.ensures.value c.reaction.result.now c.reaction.ensures.value c.as_slice-triggers.result.now c.as_slice-triggers.ensures Startup (λ k l. c.loop-place.invariant k (omega arith))
