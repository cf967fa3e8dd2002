use Rattle.std.proofs.Common.{arith}
use Rattle.std.proofs.lemmas.Option.{slice_get_within}
use Rattle.lft_program.proofs.nesting.linking.first_long.Goals as goal

pub long_before-requires-clause-known : goal.long_before-requires-clause-known
long_before-requires-clause-known c =
    let long = c.back.invariant in
    let within = slice_get_within c.args.reached.now c.back.at long.0 long.1 in
    let same = c.requires.as_long in
    omega (arith, within, same)
