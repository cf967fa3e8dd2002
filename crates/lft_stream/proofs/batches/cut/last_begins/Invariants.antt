use Rattle.std.proofs.Common.{◌≤◌, length}
use Rattle.lft_stream.proofs.batches.cut.last_begins.Given as goal

abbrev pub invariant-loop-begin : goal.invariant-loop-begin
invariant-loop-begin l = record { from : l.from ≤ l.begin; within : l.begin ≤ length l.rows }

abbrev pub decreases-loop-begin : goal.decreases-loop-begin
decreases-loop-begin l = l.begin
