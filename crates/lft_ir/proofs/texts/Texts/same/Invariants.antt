use Rattle.std.proofs.Common.{◌≡◌, take}
use Rattle.lft_ir.proofs.texts.Texts.same.Given as goal

abbrev pub invariant-loop-i : goal.invariant-loop-i
invariant-loop-i l = take l.i l.self ≡ take l.i l.other
