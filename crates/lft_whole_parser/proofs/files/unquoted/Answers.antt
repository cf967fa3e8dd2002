use Rattle.std.proofs.Common.{arith}
use Rattle.lft_whole.proofs.Between.{token_there}
use Rattle.lft_whole_parser.proofs.files.unquoted.Goals as goal

pub slice_bounds-bytes-count : goal.slice_bounds-bytes-count
slice_bounds-bytes-count c =
    let found = token_there c.args.input.now.text.now c.args.input.now.tokens.now c.args.at c.in-Some.token c.args.input.now.in_text c.in-Some.ensures.lookup in
    omega (arith, found.0)

pub slice_bounds-bytes-start : goal.slice_bounds-bytes-start
slice_bounds-bytes-start c =
    let found = token_there c.args.input.now.text.now c.args.input.now.tokens.now c.args.at c.in-Some.token c.args.input.now.in_text c.in-Some.ensures.lookup in
    omega (arith, found.0)

pub slice_bounds-bytes-end : goal.slice_bounds-bytes-end
slice_bounds-bytes-end c =
    let found = token_there c.args.input.now.text.now c.args.input.now.tokens.now c.args.at c.in-Some.token c.args.input.now.in_text c.in-Some.ensures.lookup in
    omega (arith, found.1)
