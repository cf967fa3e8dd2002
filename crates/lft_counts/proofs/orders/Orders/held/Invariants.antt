use Rattle.lft_counts.proofs.Held.{Has}
use Rattle.lft_graph.specs.Counts.{Count}
use Rattle.lft_counts.proofs.orders.Orders.held.Given as goal

abbrev pub invariant-loop-place : goal.invariant-loop-place
invariant-loop-place l = Count (Has (λ x. x.both) l.self.all.items) l.place l.many
