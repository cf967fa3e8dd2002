use Rattle.std.proofs.Common.{◌≡◌, length}
use Rattle.lft_program.{specs.inner.Laying.IsReactionAt, proofs.Making.Made}
use Rattle.lft_program.proofs.laying.reactions.Given as goal

abbrev pub invariant-loop-number : goal.invariant-loop-number
invariant-loop-number l = (length l.reactions.items ≡ l.number) × Made (λ _. IsReactionAt l.tables l.nest) l.things.items l.reactions.items
