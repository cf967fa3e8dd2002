-- A verdict on three texts, and what was written of it.
use Rattle.std.specs.Prelude.{◌↔◌, ℕ, Bool, IsTrue, List, Option}
use Rattle.std.specs.Io.KnownBytes.{Appends}
use Rattle.lft_ir.specs.declared.steps.row.Row.{Row}
use Rattle.lft_model.specs.{Plans.PlanParts, Runs.by_ends, OneWorker.{OneWorker, InOrderOfPrecedence}}
use Rattle.lft_check.specs.{declared.verdict.Verdict.{Verdict, TheVariants.{Accepted, Broken}}, Verdicts.IsVerdict}
use Rattle.lft_load.specs.Meaning.{IsPlanOf, OfOnly}
use Rattle.lft_driver.specs.{Bundles.IsBundle, Lines.line_of, Meaning.HasTable}

-- the trace breaks no rule
abbrev pub Accepts : Verdict → Type 0
Accepts (Accepted runs tags) = Unit {0}
Accepts (Broken b) = ⊥

-- what accepted says: the runs, in order of their ends, are an execution by one worker, and no run started before every run that precedes it at its tag had ended
abbrev pub AcceptedRuns : PlanParts → List Row → Verdict → Type 0
AcceptedRuns plan rows (Accepted runs tags) = OneWorker plan (by_ends plan rows) × InOrderOfPrecedence plan rows
AcceptedRuns plan rows (Broken b) = Unit {0}

-- the verdict on the rows of the trace table; its line was written
pub record IsJudgedUnder (plan : PlanParts) (trace : List ℕ) (old new : Option (List ℕ)) (verdict : Verdict) : Type 0 where
  pub rows : List Row
  pub has_table : HasTable plan.program trace rows
  pub right : IsVerdict plan rows verdict
  pub one_worker : AcceptedRuns plan rows verdict
  pub written : Appends old new (line_of plan.program verdict)

-- the verdict under the one plan of the first two texts
abbrev pub IsJudged : List ℕ → List ℕ → List ℕ → Option (List ℕ) → Option (List ℕ) → Verdict → Type 0
IsJudged program externals trace old new verdict = OfOnly (IsPlanOf program externals) (λ plan. IsJudgedUnder plan trace old new verdict)

-- true is the answer where the verdict on the three texts, whose line was written, accepts, and false where it doesn't
abbrev pub IsAcceptedAnswer : List ℕ → List ℕ → List ℕ → Option (List ℕ) → Option (List ℕ) → Bool → Type 0
IsAcceptedAnswer program externals trace old new answer = (verdict : Verdict) × IsJudged program externals trace old new verdict × (IsTrue answer ↔ Accepts verdict)

-- the three texts of a bundle are judged, and true is answered exactly where they are accepted
abbrev pub IsBundleAccepted : List ℕ → Option (List ℕ) → Option (List ℕ) → Bool → Type 0
IsBundleAccepted text old new answer = (program externals trace : List ℕ) × IsBundle text program externals trace × IsAcceptedAnswer program externals trace old new answer
