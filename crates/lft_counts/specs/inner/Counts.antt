-- Inside: what the counts of a trace are: at how many of its places something holds.
use Rattle.std.specs.Prelude.{ℕ, List}
use Rattle.lft_ir.specs.{Parts.Parts, declared.steps.row.Row.Row}
use Rattle.lft_model.specs.{declared.breach.Breach.Breach, Plans.PlanParts, Breaches.RowBreach}

-- no row of the trace breaks one of the rules 1 to 5, under some plan
abbrev pub KeepsRows : List Row → Type 0
KeepsRows t = (plan : PlanParts) × ((b : Breach) → ¬ RowBreach plan t b)

-- how far a trace of a program is gone through: the rows before a place
pub record Here : Type 0 where
  pub program : Parts
  pub trace : List Row
  pub place : ℕ
