use Rattle.std.proofs.Common.{◌≡◌, List}
use Rattle.lft_ir.specs.declared.steps.row.Row.{Row}
use Rattle.lft_monitor.specs.inner.Going.{IsGoing}
use Rattle.lft_monitor.proofs.gone.Going.go_by_rows.Given as goal

abbrev pub invariant-loop-place : goal.invariant-loop-place
invariant-loop-place l = record { stands : (d : List Row) × IsGoing l.plan d l.rows l.self; each : (done : List Row) → IsGoing l.plan done l.rows l.fn.self → IsGoing l.plan done l.rows l.self; here : l.place ≡ l.self.passed }
