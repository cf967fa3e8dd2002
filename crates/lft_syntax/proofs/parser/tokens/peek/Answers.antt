use Rattle.std.proofs.Common.{Some, sym, ap, ◌∙◌, IsAscii}
use Rattle.std.specs.Prelude.{slice_range}
use Rattle.std.proofs.lemmas.Option.{slice_get-get_or}
use Rattle.lft_syntax.proofs.TokenFacts.{letters_of}
use Rattle.lft_syntax.proofs.parser.tokens.peek.Goals as goal

pub returns-clause-ascii : goal.returns-clause-ascii
returns-clause-ascii c =
    let token = c.in_ok-token.token.now in
    let is = c.in_ok-token.ensures.lookup in
    let there = slice_get-get_or c.args.input.now.tokens.now c.args.at token is.3.0 ∙ ap Some (sym is.1) in
    rw c.of.ensures (letters_of IsAscii token.kind (slice_range c.args.input.now.text.now token.start token.end) (c.args.input.now.names c.args.at token there))
