use Rattle.std.proofs.Common.{◌≡◌, ℕ, ◌+◌, refl, subst, arith}
use Rattle.std.specs.Prelude.{string_bytes}
use Rattle.lft_syntax.specs.{Placed.{IsWord, AssignmentsStand}, inner.Parsing.words}
use Rattle.lft_syntax.proofs.parser.instances.instance.Goals as goal

pub returns-clause-stands : goal.returns-clause-stands
returns-clause-stands c =
    let ws = words c.args.input.now in
    let at_reactor : c.in_ok-reactor_at.reactor_at ≡ c.args.at + 3 = omega (arith, c.in_ok-own.ensures.stands.1, c.in_ok-word.ensures.next.0, c.in_ok-reactor_at.ensures.next) in
    let at_given : c.in_ok-reactor.opening + 1 ≡ c.args.at + 5 = omega (arith, at_reactor, c.in_ok-reactor.ensures.stands.1) in (
      (refl, c.in_ok-own.ensures.stands.0),
      (at_reactor, subst (λ (k : ℕ). IsWord ws k (string_bytes c.in_ok-reactor.reactor)) at_reactor c.in_ok-reactor.ensures.stands.0),
      subst (λ (k : ℕ). AssignmentsStand ws k c.in_ok-given.given.items) at_given c.in_ok-given.ensures.stand,
    )
