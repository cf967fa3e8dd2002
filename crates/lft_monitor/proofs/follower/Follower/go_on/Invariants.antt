use Rattle.std.proofs.Common.{List, length}
use Rattle.lft_ir.specs.declared.steps.row.Row.{Row}
use Rattle.lft_monitor.{specs.inner.Follows.{IsFollowerOf, next_of}, proofs.Onward.IsOnWay}
use Rattle.lft_monitor.proofs.follower.Follower.go_on.Given as goal

abbrev pub invariant-parts : goal.invariant-parts
invariant-parts l = (t : List Row) → IsFollowerOf l.plan t l.fn.self → IsOnWay l.plan t (next_of l.fn.self) l.fn.self l.self

abbrev pub decreases-parts : goal.decreases-parts
decreases-parts l = length (next_of l.self)
