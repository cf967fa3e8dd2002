use Rattle.std.proofs.Common.{arith}
use Rattle.lft_races.proofs.Ending.{open_none, open_all}
use Rattle.lft_races.proofs.noting.open_runs.Goals as goal

pub loop-place-init : goal.loop-place-init
loop-place-init c = (c.in_ok-left.ensures.room, open_none c.args.rows.now c.args.slice c.requires.slice c.in_ok-left.left c.in_ok-left.ensures.none)

pub returns-clause-left : goal.returns-clause-left
returns-clause-left c = open_all c.args.rows.now c.args.slice c.requires.slice c.loop-place.place (let n = c.loop-place-test.false in omega arith) c.loop-place.left c.loop-place.invariant.1
