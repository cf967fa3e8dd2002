use Rattle.std.proofs.Common.{ℕ, subst, arith}
use Rattle.lft_syntax.specs.{Placed.{StandInRow, ParameterStands, parameter_tokens}, inner.Parsing.words}
use Rattle.lft_syntax.proofs.parser.reactors.parameters.Goals as goal

pub returns-clause-stand : goal.returns-clause-stand
returns-clause-stand c =
    let ws = words c.args.input.now in (
      subst (λ (k : ℕ). StandInRow (ParameterStands ws) (parameter_tokens ws) k c.in_ok-parameters.parameters.items) c.in_ok-first.ensures.next.0 c.in_ok-parameters.ensures.stand.0,
      omega (arith, c.in_ok-first.ensures.next.0, c.in_ok-parameters.ensures.stand.1, c.in_ok-end.ensures.next.0),
    )
