use Rattle.std.proofs.Common.{arith}
use Rattle.lft_pair.{specs.Runs.schedulings, proofs.Differing.same_events}
use Rattle.lft_pair.proofs.contrasting.effects.first_other.Goals as goal

pub returns : goal.returns
returns c =
    let first = c.count.ensures in
    let second = c.count-2.ensures in
    same_events (schedulings c.args.mine.now c.args.action) (schedulings c.args.theirs.now c.args.action) c.loop-place.place (let p = c.loop-place-test.false in omega arith) (let p = c.loop-place-test.false in omega arith) c.loop-place.invariant
