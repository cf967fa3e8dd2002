use Rattle.std.proofs.Common.{◌≡◌, length}
use Rattle.lft_tests.proofs.recordings.meeting_bodies.Given as goal

-- there is a list for each reaction, however many bodies it has by now
abbrev pub invariant-loop-number : goal.invariant-loop-number
invariant-loop-number l = length l.bodies ≡ length l.plan.program.reactions
