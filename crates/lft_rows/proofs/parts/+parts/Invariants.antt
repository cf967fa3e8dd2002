use Rattle.std.proofs.Common.{◌+◌, ◌*◌}
use Rattle.lft_rows.proofs.parts.+parts.Given as goal

abbrev pub decreases-keep_parts : goal.decreases-keep_parts
decreases-keep_parts g l = 2 * l.workers

abbrev pub decreases-front : goal.decreases-front
decreases-front g l = 2 * l.low + 1

abbrev pub decreases-back : goal.decreases-back
decreases-back g l = 2 * l.high + 1
