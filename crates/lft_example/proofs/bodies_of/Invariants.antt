use Rattle.std.proofs.Common.{◌≡◌, length}
use Rattle.lft_example.proofs.bodies_of.Given as goal

-- there is a list for each reaction, however many bodies it has by now
abbrev pub invariant-loop-number : goal.invariant-loop-number
invariant-loop-number l = length l.bodies ≡ length l.program.reactions

abbrev pub invariant-loop-temperature : goal.invariant-loop-temperature
invariant-loop-temperature l = length l.bodies ≡ length l.program.reactions
