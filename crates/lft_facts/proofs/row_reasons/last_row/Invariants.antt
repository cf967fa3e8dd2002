use Rattle.std.proofs.Common.{◌≡◌, ◌≢◌, ℕ, ◌+◌, ◌≤◌, length, Some, slice_get}
use Rattle.lft_ir.specs.declared.steps.row.Row.{Row}
use Rattle.lft_facts.proofs.row_reasons.last_row.Given as goal

abbrev pub invariant-loop-back : goal.invariant-loop-back
invariant-loop-back l = (j : ℕ) (x : Row) → length l.rows ≤ j + l.back → slice_get l.rows j ≡ Some x → x.worker ≢ l.worker
