use Rattle.std.proofs.Common.{◌≡◌, ℕ, ◌<◌, Some, slice_get}
use Rattle.lft_model.specs.Runs.{end_row}
use Rattle.lft_races.proofs.ordering.is_ended.Given as goal

abbrev pub invariant-loop-other : goal.invariant-loop-other
invariant-loop-other l = (k : ℕ) → l.start < k → k < l.other → ¬ (slice_get l.rows k ≡ Some (end_row l.worker l.tag l.reaction))
