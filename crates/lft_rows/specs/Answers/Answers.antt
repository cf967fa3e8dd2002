-- What a run read and answered, by its steps.
use Rattle.std.specs.Prelude.{List}
use Rattle.lft_ir.specs.declared.steps.row.Row.{Row}
use Rattle.lft_model.specs.{Plans.PlanParts, declared.breach.Breach.Breach, Breaches.RowBreach}

-- no row breaks one of the rules 1 to 5
abbrev pub KeepsRows : PlanParts → List Row → Type 0
KeepsRows plan t = (b : Breach) → ¬ RowBreach plan t b
