use Rattle.std.proofs.Common.{◌≡◌, [], length}
use Rattle.lft_lists.specs.inner.Walking.{IsWalk}
use Rattle.lft_lists.proofs.walk.walk_all.Given as goal

abbrev pub invariant-starts : goal.invariant-starts
invariant-starts g l = (length l.marks.items ≡ l.count) × IsWalk (g.W.Ways.ways l.ways) l.start l.marks.items l.nexts.items [] l.order.items
