use Rattle.std.proofs.Common.{◌≡◌, take}
use Rattle.lft_ir.proofs.same.same_reactions.Given as goal

abbrev pub invariant-loop-i : goal.invariant-loop-i
invariant-loop-i l = take l.i l.a ≡ take l.i l.b
