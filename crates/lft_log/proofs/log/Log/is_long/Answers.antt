use Rattle.std.proofs.Common.{◌<◌, ◌+◌, arith}
use Rattle.std.proofs.lemmas.Bool.{ltb-true}
use Rattle.lft_log.proofs.Odd.{long_piece}
use Rattle.lft_log.proofs.log.Log.is_long.Goals as goal

pub returns : goal.returns
returns c = λ yes none.
    let n = c.len.ensures in
    let many : 1048576 < c.len.result + c.before_end.result = ltb-true _ _ yes in
    long_piece c.args.self.now.rest.items c.args.piece.now c.before_end.result none c.before_end.ensures.within c.before_end.ensures.none (omega (arith, n, many))
