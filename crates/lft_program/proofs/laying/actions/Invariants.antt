use Rattle.std.proofs.Common.{◌≡◌, length}
use Rattle.lft_program.{specs.inner.Laying.IsActionAt, proofs.Making.Made}
use Rattle.lft_program.proofs.laying.actions.Given as goal

abbrev pub invariant-loop-number : goal.invariant-loop-number
invariant-loop-number l = (length l.actions.items ≡ l.number) × Made (λ _. IsActionAt l.tables l.nest) l.things.items l.actions.items
