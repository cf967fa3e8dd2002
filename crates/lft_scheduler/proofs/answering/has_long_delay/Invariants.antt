use Rattle.std.proofs.Common.{◌≡◌, ℕ, ◌<◌, Some, slice_get}
use Rattle.lft_ir.specs.declared.steps.row.Step.{Step}
use Rattle.lft_scheduler.specs.Answering.{IsLongDelay}
use Rattle.lft_scheduler.proofs.answering.has_long_delay.Given as goal

abbrev pub invariant-loop-at : goal.invariant-loop-at
invariant-loop-at l = (k : ℕ) (s : Step) → k < l.at → slice_get l.steps k ≡ Some s → ¬ IsLongDelay s
