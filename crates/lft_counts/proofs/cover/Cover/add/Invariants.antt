use Rattle.std.proofs.Common.{◌≡◌, ◌+◌, map}
use Rattle.lft_counts.specs.{Cover.IsCover, Orders.cleared}
use Rattle.lft_counts.proofs.cover.Cover.add.Given as goal

abbrev pub invariant-loop-place : goal.invariant-loop-place
invariant-loop-place g l = IsCover g.of.0 g.of.1 l.self × ((l.self.rows ≡ l.fn.self.rows + l.place) × (map cleared l.self.orders.all.items ≡ map cleared l.fn.self.orders.all.items))

abbrev pub ghost-step : goal.ghost-step
ghost-step g a = record { program = g.of.0; trace = g.of.1; place = a.self.now.rows }
