use Rattle.std.proofs.Common.{refl}
use Rattle.lft_monitor.proofs.Following.{begins_at}
use Rattle.lft_monitor.proofs.last.begin_of_last.Goals as goal

pub returns-then-are_at_one : goal.returns-then-are_at_one
returns-then-are_at_one c = let at = c.if-are_at_one.ensures refl in begins_at c.args.rows.now at.0 at.1
