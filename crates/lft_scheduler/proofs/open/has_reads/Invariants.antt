use Rattle.std.proofs.Common.{◌≡◌, ℕ, ◌<◌, Some, slice_get, false}
use Rattle.lft_scheduler.specs.{declared.open.OpenRun.OpenRun, inner.OpenRuns.is_run}
use Rattle.lft_scheduler.proofs.open.has_reads.Given as goal

abbrev pub invariant-loop-at : goal.invariant-loop-at
invariant-loop-at l = (k : ℕ) (o : OpenRun) → k < l.at → slice_get l.runs k ≡ Some o → is_run l.worker l.tag l.reaction o ≡ false
