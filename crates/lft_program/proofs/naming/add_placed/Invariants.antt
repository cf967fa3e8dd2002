use Rattle.std.proofs.Common.{◌≡◌, map, take}
use Rattle.lft_program.specs.inner.Extended.{hashed, extended}
use Rattle.lft_program.proofs.naming.add_placed.Given as goal

abbrev pub invariant-loop-reaction : goal.invariant-loop-reaction
invariant-loop-reaction l = l.texts ≡ extended l.fn.texts (map hashed (take l.reaction-index l.reactions))
