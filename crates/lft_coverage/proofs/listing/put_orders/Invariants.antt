use Rattle.std.proofs.Common.{take, flat_map}
use Rattle.lft_coverage.specs.{Facts.order_line, inner.Taking.TookMore}
use Rattle.lft_coverage.proofs.listing.put_orders.Given as goal

abbrev pub invariant-loop-place : goal.invariant-loop-place
invariant-loop-place g l = TookMore (g.W.Write.contents l.fn.out) l.fn.whole (g.W.Write.contents l.out) l.whole (flat_map (order_line l.program) (take l.place l.orders))
