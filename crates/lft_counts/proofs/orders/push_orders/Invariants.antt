use Rattle.std.proofs.Common.{◌≡◌, ◌++◌, map, take}
use Rattle.lft_counts.specs.Orders.{unmet}
use Rattle.lft_counts.proofs.orders.push_orders.Given as goal

abbrev pub invariant-loop-place : goal.invariant-loop-place
invariant-loop-place l = l.all.items ≡ l.fn.all.items ++ map (unmet l.then) (take l.place l.before)
