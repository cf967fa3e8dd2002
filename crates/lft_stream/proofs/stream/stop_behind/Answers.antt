use Rattle.std.proofs.Common.{arith, []}
use Rattle.lft_model.proofs.StopTags.{stop_is}
use Rattle.lft_stream.proofs.stream.stop_behind.Goals as goal

pub returns : goal.returns
returns c = stop_is (record { program = c.args.program.now; externals = record { stop = c.args.stop; events = [] } }) c.args.rows.now c.loop-place.place c.loop-place.last (omega arith) c.loop-place.invariant
