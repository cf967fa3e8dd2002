use Rattle.std.proofs.Common.{◌+◌, arith}
use Rattle.lft_facts.proofs.Running.{least_none}
use Rattle.lft_facts.proofs.early.least_end.Goals as goal

pub loop-place-init : goal.loop-place-init
loop-place-init c = least_none c.args.rows.now c.args.tag c.args.next.now c.args.start (c.args.start + 1) (omega arith)

pub returns : goal.returns
returns c = (c.loop-place.place, (let n = c.loop-place-test.false in omega arith), c.loop-place.invariant)
