use Rattle.std.proofs.Common.{◌≡◌, take}
use Rattle.lft_pair.proofs.answers.are_same_steps.Given as goal

abbrev pub invariant-loop-i : goal.invariant-loop-i
invariant-loop-i l = take l.i l.a ≡ take l.i l.b
