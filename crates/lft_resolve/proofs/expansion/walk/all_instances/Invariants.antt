use Rattle.std.proofs.Common.{◌≤◌, ◌*◌, ◌+◌, ◌-◌, length}
use Rattle.lft_resolve.proofs.ExpansionLemmas.Walks.{Walking}
use Rattle.lft_resolve.proofs.expansion.walk.all_instances.Given as goal

abbrev pub invariant-walk : goal.invariant-walk
invariant-walk l = Walking l.reactors l.fn.main l.made.items l.open.items × (length l.made.items ≤ 10000)

abbrev pub decreases-walk : goal.decreases-walk
decreases-walk l = 2 * (10000 - length l.made.items) + length l.open.items
