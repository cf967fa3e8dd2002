use Rattle.std.proofs.Common.{◌+◌, ◌++◌, List, length, take}
use Rattle.lft_ir.specs.declared.steps.row.Row.{Row}
use Rattle.lft_rows.specs.inner.Slices.{Rises}
use Rattle.lft_monitor.specs.Reach.{IsReach}
use Rattle.lft_monitor.proofs.reach.reach_behind.Given as goal

abbrev pub invariant-loop-place : goal.invariant-loop-place
invariant-loop-place l = (done : List Row) → Rises (done ++ l.rows) → IsReach done l.fn.reach → IsReach (take (length done + l.place) (done ++ l.rows)) l.reach
