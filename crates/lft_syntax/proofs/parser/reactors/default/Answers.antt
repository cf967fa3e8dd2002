use Rattle.std.proofs.Common.{◌≡◌, false, sym, ◌∙◌, arith}
use Rattle.std.specs.Prelude.{slice_get}
use Rattle.lft_syntax.specs.{Lexeme.{Symbol, is}, inner.Parsing.words}
use Rattle.lft_syntax.proofs.parser.reactors.default.Goals as goal

pub returns-clause-next : goal.returns-clause-next
returns-clause-next c =
    let no : is (Symbol 61) (slice_get (words c.args.input.now) c.args.at) ≡ false = sym c.is_symbol.ensures ∙ c.if-is_symbol.false in
    rw no (omega (arith, c.in_ok-first.ensures.next.0, c.in_ok-value.ensures.next, c.in_ok-end.ensures.next.0))
