use Rattle.std.proofs.Common.{◌≡◌, ◌++◌, take}
use Rattle.lft_tables.specs.inner.Parts.{items_of}
use Rattle.lft_trace.proofs.reading.batches.put_together.Given as goal

abbrev pub invariant-loop-place : goal.invariant-loop-place
invariant-loop-place l = l.all.items ≡ l.fn.rows.items ++ items_of (take l.place l.parts.items)
