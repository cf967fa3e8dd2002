use Rattle.std.proofs.Common.{ℕ, subst}
use Rattle.lft_syntax.specs.{Language.many, inner.Parsing.words}
use Rattle.lft_syntax.specs.Placed as Placed
use Rattle.lft_syntax.proofs.parser.members.body.Goals as goal

pub returns-clause-stand : goal.returns-clause-stand
returns-clause-stand c =
    let inside = subst (λ (k : ℕ). many Placed.member (words c.args.input.now) k c.in_ok-members.end c.in_ok-members.members.items) c.in_ok-first.ensures.next.0 c.in_ok-members.ensures.stand in
    (c.in_ok-members.end, c.in_ok-behind.ensures.next.0, inside)
