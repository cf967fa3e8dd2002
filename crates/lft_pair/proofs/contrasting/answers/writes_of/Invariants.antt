use Rattle.std.proofs.Common.{take}
use Rattle.lft_pair.specs.inner.Answered.{AreLastWrites}
use Rattle.lft_pair.proofs.contrasting.answers.writes_of.Given as goal

abbrev pub invariant-loop-place : goal.invariant-loop-place
invariant-loop-place l = AreLastWrites (take l.place l.steps) l.writes
