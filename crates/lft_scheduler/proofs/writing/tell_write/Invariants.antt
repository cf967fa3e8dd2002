use Rattle.std.proofs.Common.{ℕ}
use Rattle.lft_ir.specs.declared.{parts.{Value.Value, Name.TheVariants.Port, Trigger.TheVariants.On}, steps.row.Step.TheVariants.Write}
use Rattle.lft_scheduler.specs.inner.{Listeners.IsListener, Telling.{IsTold, OfFirst, ArrivesAtOnce}}
use Rattle.lft_scheduler.proofs.writing.tell_write.Given as goal

abbrev pub invariant-loop-at : goal.invariant-loop-at
invariant-loop-at l = (v : Value) → IsTold (OfFirst (λ (p r : ℕ). ArrivesAtOnce l.plan.program l.tag (Write (Port l.origin) v) p × IsListener l.plan.program (On (Port p)) r) l.ports l.at) l.fn.turn l.turn
