use Rattle.std.proofs.Common.{◌≡◌, ℕ, ◌<◌, Some, slice_get}
use Rattle.lft_ir.specs.declared.steps.row.Step.TheVariants.{Stop}
use Rattle.lft_scheduler.proofs.stopping.asks_stop.Given as goal

abbrev pub invariant-loop-at : goal.invariant-loop-at
invariant-loop-at l = (k : ℕ) → k < l.at → slice_get l.steps k ≡ Some Stop → ⊥
