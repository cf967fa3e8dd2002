use Rattle.std.proofs.Common.{◌<◌, arith}
use Rattle.lft_check.proofs.Sharing.{least_of_all}
use Rattle.lft_check.proofs.shares.examine_shared.Goals as goal

pub returns : goal.returns
returns g c =
    let several : 1 < c.args.workers = c.requires.workers.0 in
    least_of_all c.args.sliced.now c.args.slices.now c.args.bound c.args.workers (omega arith) c.in_ok-found.found.items c.in_ok-found.ensures c.in_ok-least.least (rw c.as_slice.ensures.value at c.in_ok-least.ensures.all) (rw c.as_slice.ensures.value at c.in_ok-least.ensures.least)
