-- Inside: a verdict on a trace table with what an accepted one exercised, and what was written of both.
use Rattle.std.specs.Prelude.{◌≡◌, ◌⊎◌, ◌++◌, ℕ, Bool, List, length}
use Rattle.lft_ir.specs.declared.steps.row.Row.{Row}
use Rattle.lft_model.specs.{Breaches.First, Plans.PlanParts, Accepted.IsAccepted}
use Rattle.lft_check.specs.declared.verdict.Verdict.{Verdict}
use Rattle.lft_counts.specs.Cover.{CoversRows}
use Rattle.lft_coverage.specs.{declared.driver.covered.Covered.{Covered, TheVariants.{Accepted, Broken}}, Driver.Covered.{IsBehind, IsUnreadTrace}}
use Rattle.lft_load.specs.declared.fault.Fault.{Fault}
use Rattle.lft_driver.specs.{Lines.line_of, Meaning.HasTable, Refusals.CheckRefusal}
use Rattle.lft_check.specs.declared.verdict.Verdict.TheVariants as verdict

-- the verdict alone
abbrev pub verdict_in : Covered → Verdict
verdict_in (Accepted runs tags cover) = verdict.Accepted runs tags
verdict_in (Broken b) = verdict.Broken b

-- the verdict is right for the rows, and the counts of an accepted trace are those of all its rows
abbrev pub IsCovered : PlanParts → List Row → Covered → Type 0
IsCovered plan rows (Accepted runs tags cover) = IsAccepted plan rows runs tags × CoversRows plan.program rows (length rows) cover
IsCovered plan rows (Broken b) = First plan rows b

-- the same of the rows of a trace table
abbrev pub IsCoveredTable : PlanParts → List ℕ → Covered → Type 0
IsCoveredTable plan trace covered = (rows : List Row) × HasTable plan.program trace rows × IsCovered plan rows covered

-- a trace table gets no verdict: its rows get none, or it is none
abbrev pub IsUncovered : PlanParts → List ℕ → ℕ → Fault → Type 0
IsUncovered plan trace workers f = ((rows : List Row) × HasTable plan.program trace rows × CheckRefusal workers f) ⊎ IsUnreadTrace plan trace f

-- the line of a verdict, and behind it what is right for all rows that it is of
abbrev pub IsCoverText : Bool → PlanParts → Covered → List ℕ → Type 0
IsCoverText list plan covered text = (rows : List Row) → IsCovered plan rows covered → (behind : List ℕ) × (text ≡ line_of plan.program (verdict_in covered) ++ behind) × IsBehind list plan rows (verdict_in covered) behind
