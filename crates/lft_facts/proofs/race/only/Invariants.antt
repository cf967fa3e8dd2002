use Rattle.std.proofs.Common.{◌≤◌, length}
use Rattle.lft_facts.proofs.FirstRace.{AreOnly}
use Rattle.lft_facts.proofs.race.only.Given as goal

abbrev pub invariant-loop-place : goal.invariant-loop-place
invariant-loop-place l = AreOnly l.marks l.these l.place l.left.items × (l.place ≤ length l.marks)
