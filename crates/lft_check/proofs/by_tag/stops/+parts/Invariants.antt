use Rattle.std.proofs.Common.{◌+◌, ◌*◌}
use Rattle.lft_check.proofs.by_tag.stops.+parts.Given as goal

abbrev pub decreases-trace_stop_shared : goal.decreases-trace_stop_shared
decreases-trace_stop_shared g l = 2 * l.workers

abbrev pub decreases-front : goal.decreases-front
decreases-front g l = 2 * l.low + 1

abbrev pub decreases-back : goal.decreases-back
decreases-back g l = 2 * l.high + 1
