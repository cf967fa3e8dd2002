use Rattle.std.proofs.Common.{arith}
use Rattle.lft_races.proofs.Standing.{stand_tag, stand_all}
use Rattle.lft_races.proofs.before.rows_before.Goals as goal

pub returns-then-is_before : goal.returns-then-is_before
returns-then-is_before c = stand_tag c.requires.0 c.args.rows.now c.args.breach c.loop-place.place c.row_at.result c.requires.1 (let n = c.if-breach-gt0.false in omega arith) c.row_at.ensures (c.is_before.ensures.0 c.if-is_before.true) c.loop-place.invariant

pub returns : goal.returns
returns c = stand_all c.args.rows.now c.args.breach c.loop-place.place (let n = c.if-breach-gt0.false in omega arith) (let n = c.loop-place-test.false in omega arith) c.loop-place.invariant
