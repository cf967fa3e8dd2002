use Rattle.std.proofs.Common.{◌≡◌, ◌≢◌, ℕ, ◌<◌, Some, slice_get}
use Rattle.lft_ir.specs.declared.steps.row.Row.{Row}
use Rattle.lft_races.proofs.hints.rows.is_first_of_worker.Given as goal

abbrev pub invariant-loop-before : goal.invariant-loop-before
invariant-loop-before l = (j : ℕ) (other : Row) → j < l.before → slice_get l.rows j ≡ Some other → other.worker ≢ l.worker
