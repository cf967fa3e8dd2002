use Rattle.std.proofs.Common.{arith}
use Rattle.lft_model.proofs.StopTags.{stop_is}
use Rattle.lft_model.proofs.stop.trace_stop.Goals as goal

pub returns : goal.returns
returns c = stop_is c.args.plan.now c.args.rows.now c.loop-place.place c.loop-place.stop (omega arith) c.loop-place.invariant
