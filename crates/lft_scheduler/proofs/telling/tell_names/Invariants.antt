use Rattle.std.proofs.Common.{◌≡◌, ℕ, drop}
use Rattle.lft_ir.specs.declared.parts.{Name.Name, Trigger.TheVariants.On}
use Rattle.lft_scheduler.specs.inner.{Listeners.IsListener, Telling.{IsTold, OfFirst}}
use Rattle.lft_scheduler.proofs.telling.tell_names.Given as goal

abbrev pub invariant-loop-name : goal.invariant-loop-name
invariant-loop-name l = (k : ℕ) × (drop k l.initial.name-iterator ≡ l.name-iterator) × IsTold (OfFirst (λ (n : Name) (r : ℕ). IsListener l.plan.program (On n) r) l.initial.name-iterator k) l.fn.turn l.turn
