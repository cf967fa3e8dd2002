use Rattle.std.proofs.Common.{◌≡◌, ◌≤◌, List, length}
use Rattle.lft_ir.specs.declared.steps.row.Row.{Row}
use Rattle.lft_model.specs.{declared.breach.Breach.Breach, Plans.PlanParts}
use Rattle.lft_facts.specs.{Facts.AreFacts, inner.Enough.Adds}
use Rattle.lft_races.specs.inner.Runs.{HaveRun}
use Rattle.lft_facts.proofs.passing.add_passed_by.Given as goal

abbrev pub invariant-loop-place : goal.invariant-loop-place
invariant-loop-place l = (l.count ≤ length l.facts.items) × ((b : Breach) (plan : PlanParts) (t : List Row) → b.tag ≡ l.tag → AreFacts plan t l.initial.facts.items → HaveRun t l.tag l.ran → Adds b plan t l.initial.facts.items l.facts.items)
