use Rattle.std.proofs.Common.{◌-◌, arith}
use Rattle.std.proofs.lemmas.Option.{slice_get-get_or}
use Rattle.lft_syntax.proofs.TokenFacts.{InText, token_at}
use Rattle.lft_text_diagnostics.proofs.refusal.at_token.Goals as goal

pub returns-in-Some-clause-inside : goal.returns-in-Some-clause-inside
returns-in-Some-clause-inside c =
    let there = c.in-Some.ensures.lookup in
    let item = slice_get-get_or c.as_slice.result.now (c.args.number - 1) c.in-Some.token.now there.3.0 in
    let inside : InText c.args.text.now c.in-Some.token.now = token_at c.args.text.now c.args.tokens.now (c.args.number - 1) c.in-Some.token.now c.requires.none.lexes (let same = there.1 in cc) in
    (let order = inside.order in omega arith, inside.within)
