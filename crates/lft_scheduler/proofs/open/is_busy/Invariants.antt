use Rattle.std.proofs.Common.{◌≡◌, ℕ, ◌<◌, Some, slice_get}
use Rattle.lft_scheduler.specs.declared.open.OpenRun.{OpenRun}
use Rattle.lft_scheduler.proofs.open.is_busy.Given as goal

abbrev pub invariant-loop-at : goal.invariant-loop-at
invariant-loop-at l = (k : ℕ) (o : OpenRun) → k < l.at → slice_get l.runs k ≡ Some o → o.worker ≡ l.worker → ⊥
