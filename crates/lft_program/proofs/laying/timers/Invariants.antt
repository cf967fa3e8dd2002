use Rattle.std.proofs.Common.{◌≡◌, length}
use Rattle.lft_program.{specs.inner.Laying.IsTimerAt, proofs.Making.Made}
use Rattle.lft_program.proofs.laying.timers.Given as goal

abbrev pub invariant-loop-number : goal.invariant-loop-number
invariant-loop-number l = (length l.timers.items ≡ l.number) × Made (λ _. IsTimerAt l.tables l.nest) l.things.items l.timers.items
