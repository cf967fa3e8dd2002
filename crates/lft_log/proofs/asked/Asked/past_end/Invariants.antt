use Rattle.std.proofs.Common.{◌≡◌, ◌++◌, List, take}
use Rattle.lft_ir.specs.declared.steps.row.Row.{Row}
use Rattle.lft_log.specs.inner.Told.{IsAskedOf}
use Rattle.lft_log.proofs.asked.Asked.past_end.Given as goal

abbrev pub invariant-loop-place : goal.invariant-loop-place
invariant-loop-place l = record { until : l.self.until ≡ l.fn.self.until; asked : (t : List Row) → IsAskedOf t l.fn.self → IsAskedOf (t ++ take l.place l.rows) l.self }
