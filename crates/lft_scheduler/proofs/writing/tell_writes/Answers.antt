use Rattle.std.proofs.Common.{ℕ, arith}
use Rattle.lft_ir.specs.declared.{parts.{Name.TheVariants.Port, Trigger.TheVariants.On}, steps.row.Step.Step}
use Rattle.lft_scheduler.{specs.inner.{Listeners.IsListener, Telling.{ArrivesAtOnce, TriggeredByWrites}}, proofs.ToldTurns.{told_begun, told_next, told_each}}
use Rattle.lft_scheduler.proofs.writing.tell_writes.Goals as goal

pub loop-at-init : goal.loop-at-init
loop-at-init c = told_begun (λ (s : Step) (r : ℕ). (p : ℕ) × ArrivesAtOnce c.args.plan.now.program c.args.tag s p × IsListener c.args.plan.now.program (On (Port p)) r) c.args.steps.now c.args.turn.now

pub loop-at-preserved : goal.loop-at-preserved
loop-at-preserved c = told_next (λ (s : Step) (r : ℕ). (p : ℕ) × ArrivesAtOnce c.args.plan.now.program c.args.tag s p × IsListener c.args.plan.now.program (On (Port p)) r) c.args.steps.now c.loop-at.at c.item_at.result c.args.turn.now c.loop-at.turn c.tell_step.new.turn c.item_at.ensures c.loop-at.invariant c.tell_step.ensures

pub returns : goal.returns
returns c = told_each (λ (s : Step) (r : ℕ). (p : ℕ) × ArrivesAtOnce c.args.plan.now.program c.args.tag s p × IsListener c.args.plan.now.program (On (Port p)) r) c.args.steps.now (TriggeredByWrites c.args.plan.now.program c.args.tag c.args.steps.now) c.loop-at.at c.args.turn.now c.loop-at.turn (let z = c.loop-at-test.false in omega arith)
    (λ r k s e q. (k, s, q.0, e, q.1, q.2))
    (λ r q. (q.0, q.1, q.3, (q.2, q.4, q.5)))
    c.loop-at.invariant
