use Rattle.std.proofs.Common.{ℕ, List}
use Rattle.lft_ir.specs.declared.parts.Trigger.TheVariants.{Timer}
use Rattle.lft_lists.proofs.Members.{Mem}
use Rattle.lft_scheduler.{specs.inner.{Listeners.IsListener, Telling.IsTold, Firings.how_many_until}, proofs.Taking.AreTaken}
use Rattle.lft_scheduler.proofs.telling.tell_timers.Given as goal

abbrev pub invariant-due : goal.invariant-due
invariant-due l = (taken : List ℕ) × AreTaken l.plan.program l.tag taken l.firings × IsTold (λ r. (n : ℕ) × Mem n taken × IsListener l.plan.program (Timer n) r) l.fn.turn l.turn

abbrev pub decreases-due : goal.decreases-due
decreases-due l = how_many_until l.tag l.firings
