use Rattle.lft_counts.proofs.orders.Orders.add.Given as goal

abbrev pub ghost-start : goal.ghost-start
ghost-start g a = g.here
