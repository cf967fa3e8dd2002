use Rattle.std.proofs.Common.{◌≡◌, ℕ, ◌-◌, ◌<◌, ◌≤◌, Some, length, slice_get}
use Rattle.lft_ir.specs.declared.steps.row.Row.{Row}
use Rattle.lft_stream.proofs.stream.slice_from.Given as goal

abbrev pub invariant-loop-end : goal.invariant-loop-end
invariant-loop-end l = record { some : l.first < l.end; within : l.end ≤ length l.rows; at_tag : (i : ℕ) (x : Row) → l.first ≤ i → i < l.end → slice_get l.rows i ≡ Some x → x.tag ≡ l.tag }

abbrev pub decreases-loop-end : goal.decreases-loop-end
decreases-loop-end l = length l.rows - l.end
