use Rattle.std.proofs.Common.{◌++◌, List, take}
use Rattle.lft_ir.specs.declared.steps.row.Row.{Row}
use Rattle.lft_log.specs.inner.Told.{IsLatestTag}
use Rattle.lft_log.proofs.telling.latest_of.Given as goal

abbrev pub invariant-loop-place : goal.invariant-loop-place
invariant-loop-place l = (t : List Row) → IsLatestTag t l.fn.before → IsLatestTag (t ++ take l.place l.rows) l.latest
