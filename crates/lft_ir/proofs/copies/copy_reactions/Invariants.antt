use Rattle.std.proofs.Common.{◌≡◌, take}
use Rattle.lft_ir.proofs.copies.copy_reactions.Given as goal

abbrev pub invariant-loop-number : goal.invariant-loop-number
invariant-loop-number l = l.copies.items ≡ take l.number l.reactions
