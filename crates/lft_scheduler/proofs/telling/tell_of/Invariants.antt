use Rattle.std.proofs.Common.{◌≡◌, ℕ}
use Rattle.lft_scheduler.specs.inner.Telling.{IsTold, OfFirst}
use Rattle.lft_scheduler.proofs.telling.tell_of.Given as goal

abbrev pub invariant-loop-at : goal.invariant-loop-at
invariant-loop-at l = IsTold (OfFirst (λ (x k : ℕ). k ≡ x) l.reactions l.at) l.fn.turn l.turn
