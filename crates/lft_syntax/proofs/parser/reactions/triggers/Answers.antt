use Rattle.std.proofs.Common.{ℕ, subst, arith}
use Rattle.lft_syntax.specs.{Placed.TriggersStand, inner.Parsing.words}
use Rattle.lft_syntax.proofs.parser.reactions.triggers.Goals as goal

pub returns-clause-stand : goal.returns-clause-stand
returns-clause-stand c = (
  subst (λ (k : ℕ). TriggersStand (words c.args.input.now) k c.in_ok-triggers.triggers.items) c.in_ok-first.ensures.next.0 c.in_ok-triggers.ensures.stand.0,
  omega (arith, c.in_ok-first.ensures.next.0, c.in_ok-triggers.ensures.stand.1, c.in_ok-end.ensures.next.0),
)
