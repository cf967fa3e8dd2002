use Rattle.std.proofs.Common.{take}
use Rattle.lft_rows.specs.inner.Answers.Readings.{AreReadBy}
use Rattle.lft_rows.proofs.answers.readings.readings_of.Given as goal

abbrev pub invariant-loop-place : goal.invariant-loop-place
invariant-loop-place l = AreReadBy (take l.place l.steps) l.readings
