use Rattle.std.proofs.Common.{◌≡◌, ◌++◌, List, take}
use Rattle.lft_ir.specs.declared.steps.row.Row.{Row}
use Rattle.lft_model.specs.{Plans.PlanParts, Presence.stop}
use Rattle.lft_monitor.proofs.gone.ask_for_none.Given as goal

abbrev pub invariant-loop-place : goal.invariant-loop-place
invariant-loop-place l = (plan : PlanParts) (t : List Row) → stop plan (t ++ take l.place l.rows) ≡ stop plan (t ++ take l.from l.rows)
