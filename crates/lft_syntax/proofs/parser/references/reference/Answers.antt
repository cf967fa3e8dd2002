use Rattle.std.proofs.Common.{◌≡◌, ℕ, ◌+◌, refl, subst, arith}
use Rattle.std.specs.Prelude.{string_bytes}
use Rattle.lft_syntax.specs.{Placed.IsWord, inner.Parsing.words}
use Rattle.lft_syntax.proofs.parser.references.reference.Goals as goal

pub returns-clause-stands : goal.returns-clause-stands
returns-clause-stands c =
    let at_port : c.in_ok-second.second ≡ c.args.at + 2 = omega (arith, c.in_ok-head.ensures.stands.1, c.in_ok-second.ensures.next.0) in
    let word = subst (λ (k : ℕ). IsWord (words c.args.input.now) k (string_bytes c.in_ok-port.port)) at_port c.in_ok-port.ensures.stands.0 in
    (((refl, c.in_ok-head.ensures.stands.0), word), omega (arith, at_port, c.in_ok-port.ensures.stands.1))
