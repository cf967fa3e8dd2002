use Rattle.std.proofs.Common.{◌-◌, ◌≡◌, ◌<◌, ◌≤◌, ℕ, Some, slice_get}
use Rattle.lft_model.specs.Runs.{end_row}
use Rattle.lft_monitor.proofs.open.is_ended.Given as goal

abbrev pub invariant-loop-last : goal.invariant-loop-last
invariant-loop-last l = (l.last ≤ l.end) × ((k : ℕ) → l.last ≤ k → k < l.end → ¬ (slice_get l.rows k ≡ Some (end_row l.start.worker l.start.tag l.start.reaction)))

abbrev pub decreases-loop-last : goal.decreases-loop-last
decreases-loop-last l = l.last - l.place
