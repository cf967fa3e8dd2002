use Rattle.std.proofs.Common.{take}
use Rattle.lft_pair.specs.inner.Answered.{AreSchedulings}
use Rattle.lft_pair.proofs.contrasting.answers.schedulings_of.Given as goal

abbrev pub invariant-loop-place : goal.invariant-loop-place
invariant-loop-place l = AreSchedulings (take l.place l.steps) l.counts l.items
