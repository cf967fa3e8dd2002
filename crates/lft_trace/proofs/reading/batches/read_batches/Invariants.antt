use Rattle.std.proofs.Common.{◌++◌, length}
use Rattle.lft_tables.specs.inner.Parts.{items_of}
use Rattle.lft_trace.proofs.Behind.{GoesOn}
use Rattle.lft_trace.proofs.reading.batches.read_batches.Given as goal

abbrev pub invariant-loop-batch : goal.invariant-loop-batch
invariant-loop-batch g l = GoesOn l.names l.text (l.all.items ++ items_of l.read.items) l.rest

abbrev pub decreases-loop-batch : goal.decreases-loop-batch
decreases-loop-batch g l = length l.rest
