use Rattle.std.proofs.Common.{◌≡◌, ℕ, ◌<◌, Some, slice_get}
use Rattle.lft_ir.specs.declared.steps.row.Row.{Row}
use Rattle.lft_races.specs.Hints.Hints.{SchedulesWhole}
use Rattle.lft_races.proofs.hints.guessing.whole_delay.Given as goal

abbrev pub invariant-loop-place : goal.invariant-loop-place
invariant-loop-place l = (i : ℕ) (row : Row) → i < l.place → slice_get l.rows i ≡ Some row → SchedulesWhole l.plan.program l.tag l.reaction row → ⊥
