use Rattle.lft_races.proofs.Standing.{AreUpToTag}
use Rattle.lft_races.proofs.before.rows_before.Given as goal

abbrev pub invariant-loop-place : goal.invariant-loop-place
invariant-loop-place l = AreUpToTag l.rows l.breach.tag l.place
