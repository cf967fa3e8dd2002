use Rattle.std.proofs.Common.{◌≡◌, ℕ, ◌+◌, subst, ap, ◌∙◌, arith}
use Rattle.std.specs.Prelude.{string_bytes}
use Rattle.lft_syntax.specs.{Placed.{BodyStands, IsWord, ParametersStand, past_parameters}, inner.Parsing.words}
use Rattle.lft_syntax.proofs.parser.reactors.plain_reactor.Goals as goal

pub returns-clause-stands : goal.returns-clause-stands
returns-clause-stands c =
    let ws = words c.args.input.now in
    let parameters = c.in_ok-parameters.parameters.items in
    let at_name : c.in_ok-at.at ≡ c.args.at + 1 = c.in_ok-at.ensures.next in
    let at_parameters : c.in_ok-name.opening ≡ c.args.at + 2 = omega (arith, at_name, c.in_ok-name.ensures.stands.1) in
    let at_body : c.in_ok-parameters.brace ≡ past_parameters ws (c.args.at + 2) parameters = c.in_ok-parameters.ensures.stand.1 ∙ ap (λ (k : ℕ). past_parameters ws k parameters) at_parameters in (
      (at_name, subst (λ (k : ℕ). IsWord ws k (string_bytes c.in_ok-name.name)) at_name c.in_ok-name.ensures.stands.0),
      subst (λ (k : ℕ). ParametersStand ws k parameters) at_parameters c.in_ok-parameters.ensures.stand.0,
      subst (λ (k : ℕ). BodyStands ws k c.in_ok-members.end c.in_ok-members.members.items) at_body c.in_ok-members.ensures.stand,
    )
