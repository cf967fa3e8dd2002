use Rattle.std.proofs.Common.{◌++◌}
use Rattle.lft_tables.specs.inner.Parts.{items_of}
use Rattle.lft_trace.proofs.Behind.{GoesOn, goes_on}
use Rattle.lft_trace.proofs.reading.batches.read_batches.Goals as goal

pub loop-batch-preserved : goal.loop-batch-preserved
loop-batch-preserved g c =
    let program = c.args.names.now in
    let text = c.args.text.now in
    let cut = c.in-Some.ensures in
    let read = c.in_ok-put.ensures in
    let before : GoesOn program text (c.loop-batch.all.items ++ items_of c.loop-batch.read.items) c.loop-batch.rest.now = c.loop-batch.invariant in
    rw read.0 (goes_on program text c.loop-batch.rest.now c.in-Some.batch.now c.in-Some.behind.now (c.loop-batch.all.items ++ items_of c.loop-batch.read.items) (items_of c.in_ok-put.more.items) before cut.0 cut.1 cut.2 read.1)
