use Rattle.std.proofs.Common.{◌-◌, ◌≤◌, length}
use Rattle.lft_stream.proofs.batches.cut.still_open.Given as goal

abbrev pub invariant-loop-end : goal.invariant-loop-end
invariant-loop-end l = l.end ≤ length l.rows

abbrev pub decreases-loop-end : goal.decreases-loop-end
decreases-loop-end l = length l.rows - l.end
