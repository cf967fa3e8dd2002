use Rattle.std.proofs.Common.{ℕ}
use Rattle.lft_ir.specs.declared.{parts.{Name.TheVariants.Port, Trigger.TheVariants.On}, steps.row.Step.Step}
use Rattle.lft_scheduler.specs.inner.{Listeners.IsListener, Telling.{IsTold, OfFirst, ArrivesAtOnce}}
use Rattle.lft_scheduler.proofs.writing.tell_writes.Given as goal

abbrev pub invariant-loop-at : goal.invariant-loop-at
invariant-loop-at l = IsTold (OfFirst (λ (s : Step) (r : ℕ). (p : ℕ) × ArrivesAtOnce l.plan.program l.tag s p × IsListener l.plan.program (On (Port p)) r) l.steps l.at) l.fn.turn l.turn
