use Rattle.std.proofs.Common.{take}
use Rattle.lft_tables.specs.inner.Parts.{items_of}
use Rattle.lft_stream.specs.inner.Batches.Progresses.{IsGoneOn}
use Rattle.lft_stream.proofs.batches.shared.judge_parts.Given as goal

abbrev pub invariant-loop-place : goal.invariant-loop-place
invariant-loop-place l = record { gone : IsGoneOn l.plan l.fn.progress l.progress (items_of (take l.place l.parts.items)) }
