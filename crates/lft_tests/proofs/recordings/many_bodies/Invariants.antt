use Rattle.std.proofs.Common.{◌≡◌, length}
use Rattle.lft_tests.proofs.recordings.many_bodies.Given as goal

-- there is a list for each reaction, however many bodies it has by now
abbrev pub invariant-loop-word : goal.invariant-loop-word
invariant-loop-word l = length l.bodies ≡ length l.plan.program.reactions
