use Rattle.std.proofs.Common.{◌≡◌, length}
use Rattle.lft_tests.proofs.bodies.bodies_of.Given as goal

-- there is a list for each reaction, however many bodies it has by now
abbrev pub invariant-loop-answer : goal.invariant-loop-answer
invariant-loop-answer l = length l.bodies ≡ length l.plan.program.reactions
