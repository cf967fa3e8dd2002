use Rattle.std.proofs.Common.{◌-◌, ◌+◌, ◌*◌, length}
use Rattle.lft_lists.specs.inner.Walking.{IsWalk}
use Rattle.lft_lists.proofs.walk.walk_from.Given as goal

abbrev pub invariant-walk : goal.invariant-walk
invariant-walk g l = IsWalk (g.W.Ways.ways l.ways) (l.start + 1) l.marks l.nexts l.path.items l.order.items

-- each turn opens a number, or is done with one
abbrev pub decreases-walk : goal.decreases-walk
decreases-walk g l = 2 * length l.marks - (length l.path.items + 2 * length l.order.items)
