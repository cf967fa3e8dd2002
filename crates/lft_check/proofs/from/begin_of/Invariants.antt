use Rattle.lft_check.proofs.Beginning.{AreBelow}
use Rattle.lft_check.proofs.from.begin_of.Given as goal

abbrev pub invariant-loop-place : goal.invariant-loop-place
invariant-loop-place l = AreBelow l.slices l.low l.place
