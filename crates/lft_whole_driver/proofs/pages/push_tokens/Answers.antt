use Rattle.std.proofs.Common.{arith}
use Rattle.lft_syntax.specs.declared.token.TokenKind.TheVariants.{Code}
use Rattle.lft_whole_driver.proofs.Joining.{token_at}
use Rattle.lft_whole_driver.proofs.pages.push_tokens.Goals as goal

pub moved-requires-clause-start : goal.moved-requires-clause-start
moved-requires-clause-start c =
    let one = token_at c.args.text.now c.args.tokens.now c.as_slice-tokens.result.now c.loop-at.at (record { kind = Code; start = 0; end = 0 }) c.requires.tokens c.as_slice-tokens.ensures c.loop-at-test.true in
    omega (arith, one.0, one.1, c.requires.end)

pub moved-requires-clause-end : goal.moved-requires-clause-end
moved-requires-clause-end c =
    let one = token_at c.args.text.now c.args.tokens.now c.as_slice-tokens.result.now c.loop-at.at (record { kind = Code; start = 0; end = 0 }) c.requires.tokens c.as_slice-tokens.ensures c.loop-at-test.true in
    omega (arith, one.1, c.requires.end)
