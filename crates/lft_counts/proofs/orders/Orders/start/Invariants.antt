use Rattle.std.proofs.Common.{length}
use Rattle.lft_counts.proofs.Going.{Going}
use Rattle.lft_counts.proofs.orders.Orders.start.Given as goal

abbrev pub invariant-loop-place : goal.invariant-loop-place
invariant-loop-place g l = Going g.here.trace (length g.here.program.reactions) g.here.place l.begin l.place l.fn.self l.self
