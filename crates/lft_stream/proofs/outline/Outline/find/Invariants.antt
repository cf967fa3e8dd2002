use Rattle.lft_stream.specs.inner.Outlines.{IsOutlineTo}
use Rattle.lft_stream.proofs.outline.Outline.find.Given as goal

abbrev pub invariant-loop-place : goal.invariant-loop-place
invariant-loop-place l = IsOutlineTo l.own l.place l.self
