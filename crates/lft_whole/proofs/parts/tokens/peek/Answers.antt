use Rattle.std.proofs.Common.{Some, ap, arith}
use Rattle.std.specs.Prelude.{slice_range}
use Rattle.lft_tree.specs.Identifiers.{IsIdentifier}
use Rattle.lft_syntax.proofs.TokenFacts.{letters_of}
use Rattle.lft_whole.proofs.Between.{token_there}
use Rattle.lft_whole.proofs.parts.tokens.peek.Goals as goal

pub of-requires : goal.of-requires
of-requires c =
    let found = token_there c.args.input.now.text.now c.args.input.now.tokens.now c.args.at c.in_ok-token.token c.args.input.now.in_text c.in_ok-token.ensures.lookup in
    (omega (arith, found.0), found.1)

pub returns-clause-letters : goal.returns-clause-letters
returns-clause-letters c =
    let token = c.in_ok-token.token.now in
    let found = token_there c.args.input.now.text.now c.args.input.now.tokens.now c.args.at c.in_ok-token.token c.args.input.now.in_text c.in_ok-token.ensures.lookup in
    rw c.of.ensures (letters_of IsIdentifier token.kind (slice_range c.args.input.now.text.now token.start token.end) (λ e. found.2 (ap Some e)))
