use Rattle.std.proofs.Common.{◌≡◌, ℕ, ◌+◌, subst, arith}
use Rattle.std.specs.Prelude.{string_bytes, IfSome}
use Rattle.lft_syntax.specs.{Placed.{IsWord, TimeStands}, inner.Parsing.words}
use Rattle.lft_syntax.proofs.parser.declarations.action.Goals as goal

pub returns-clause-stands : goal.returns-clause-stands
returns-clause-stands c =
    let at_name : c.in_ok-at.at ≡ c.args.at + 2 = omega (arith, c.in_ok-is_physical.ensures.next, c.in_ok-at.ensures.next) in
    let at_delay : c.in_ok-name.opening + 1 ≡ c.args.at + 4 = omega (arith, at_name, c.in_ok-name.ensures.stands.1) in (
      (at_name, subst (λ (k : ℕ). IsWord (words c.args.input.now) k (string_bytes c.in_ok-name.name)) at_name c.in_ok-name.ensures.stands.0),
      subst (λ (k : ℕ). IfSome c.in_ok-min_delay.min_delay (TimeStands k)) at_delay c.in_ok-min_delay.ensures.stands,
    )
