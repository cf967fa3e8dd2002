use Rattle.std.proofs.Common.{◌≡◌, ◌+◌, length, take}
use Rattle.lft_tables.specs.inner.Parts.{items_of}
use Rattle.lft_trace.proofs.reading.batch.are_few.Given as goal

abbrev pub invariant-loop-place : goal.invariant-loop-place
invariant-loop-place l = l.left + length (items_of (take l.place l.parts)) ≡ 4000000
