use Rattle.std.proofs.Common.{◌≡◌, length, take}
use Rattle.lft_counts.{specs.Orders.orders_from, proofs.Laying.Laying}
use Rattle.lft_counts.proofs.orders.Orders.new.Given as goal

abbrev pub invariant-loop-reaction : goal.invariant-loop-reaction
invariant-loop-reaction l = Laying (length l.program.reactions) l.reaction l.all.items l.begins.items × (l.all.items ≡ orders_from 0 (take l.reaction l.graph.before))
