use Rattle.std.proofs.Common.{◌+◌, ◌*◌}
use Rattle.lft_tables.proofs.workers.+parts.Given as goal

abbrev pub decreases-read_parts : goal.decreases-read_parts
decreases-read_parts g l = 2 * l.workers

abbrev pub decreases-front : goal.decreases-front
decreases-front g l = 2 * l.low + 1

abbrev pub decreases-back : goal.decreases-back
decreases-back g l = 2 * l.high + 1
