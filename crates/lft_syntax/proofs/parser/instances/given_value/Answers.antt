use Rattle.std.proofs.Common.{◌≡◌, false, sym, ◌∙◌, arith}
use Rattle.std.specs.Prelude.{slice_get}
use Rattle.lft_syntax.specs.{Lexeme.{Symbol, is}, inner.Parsing.words}
use Rattle.lft_syntax.proofs.parser.instances.given_value.Goals as goal

pub returns-clause-stands : goal.returns-clause-stands
returns-clause-stands c =
    let no : is (Symbol 61) (slice_get (words c.args.input.now) c.args.at) ≡ false = sym c.is_symbol.ensures ∙ c.if-is_symbol.false in
    rw no (c.in_ok-value.ensures.stands.0 ∙ c.in_ok-first.ensures.next.0, omega (arith, c.in_ok-first.ensures.next.0, c.in_ok-value.ensures.stands.1, c.in_ok-end.ensures.next.0))
