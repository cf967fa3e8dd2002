-- A verdict on three texts with what explains it, and why texts get none.
use Rattle.std.specs.Prelude.{◌≡◌, ◌↔◌, ◌⊎◌, ℕ, Bool, IsTrue, List, ◌++◌, Option, codes, []}
use Rattle.std.specs.Io.KnownBytes.{Appends, Keeps}
use Rattle.lft_ir.specs.declared.steps.row.Row.{Row}
use Rattle.lft_model.specs.{declared.breach.Breach.Breach, Plans.PlanParts}
use Rattle.lft_check.specs.{declared.verdict.Verdict.{Verdict, TheVariants.{Accepted, Broken}}, Verdicts.IsVerdict}
use Rattle.lft_report.specs.Explained.{Explains}
use Rattle.lft_races.specs.{declared.hints.hint.Hint.Hint, Hints.{Hints.IsHint, Words.hint_words}}
use Rattle.lft_load.specs.{Meaning.{IsPlanOf, OfOnly}, Refusals.LoadRefusal, Written.AppendsFront, declared.fault.Fault.Fault}
use Rattle.lft_driver.specs.{Bundles.IsBundle, Judged.{Accepts, AcceptedRuns}, Lines.line_of, Meaning.HasTable, Refusals.{CheckRefusal, TraceRefusal}}
use Rattle.lft_load.specs.declared.fault.Part.TheVariants as part

-- the line of a hint that holds of the breach
abbrev pub IsGuess : PlanParts → List Row → Breach → List ℕ → Type 0
IsGuess plan rows b guess = (hint : Hint) × IsHint plan rows b hint × (guess ≡ hint_words hint)

-- such a line, or nothing where no hint holds of the breach
abbrev pub Guesses : PlanParts → List Row → Breach → List ℕ → Type 0
Guesses plan rows b guess = ((guess ≡ []) × ((hint : Hint) → IsHint plan rows b hint → ⊥)) ⊎ IsGuess plan rows b guess

-- the text tells the facts behind the breach, and behind them a guess exactly where a hint holds
pub record TellsBreach (all : Bool) (plan : PlanParts) (rows : List Row) (b : Breach) (text : List ℕ) : Type 0 where
  pub why : List ℕ
  pub guess : List ℕ
  pub explains : Explains all plan rows b why
  pub is_guess : Guesses plan rows b guess
  pub is_text : text ≡ why ++ guess

-- an empty line and what explains the breach
abbrev pub AreReasons : Bool → PlanParts → List Row → Breach → List ℕ → Type 0
AreReasons all plan rows b text = (why : List ℕ) × TellsBreach all plan rows b why × (text ≡ codes "\n" ++ why)

-- what stands behind the line of a verdict: for a broken rule what explains the breach, else nothing
abbrev pub StandsBehind : Bool → PlanParts → List Row → Verdict → List ℕ → Type 0
StandsBehind all plan rows (Accepted runs tags) text = text ≡ []
StandsBehind all plan rows (Broken b) text = AreReasons all plan rows b text

-- the text is the line of the verdict, and what stands behind it
abbrev pub IsExplanation : Bool → PlanParts → List Row → Verdict → List ℕ → Type 0
IsExplanation all plan rows verdict text = (rest : List ℕ) × StandsBehind all plan rows verdict rest × (text ≡ line_of plan.program verdict ++ rest)

-- a text was written of which this holds
abbrev pub Writes : (List ℕ → Type 0) → Option (List ℕ) → Option (List ℕ) → Type 0
Writes P old new = (text : List ℕ) × P text × Appends old new text

-- nothing was written, or memory was refused behind the verdict's line: then that line alone was written
abbrev pub WritesLineAtMost : PlanParts → List Row → Option (List ℕ) → Option (List ℕ) → Fault → Type 0
WritesLineAtMost plan rows old new f = Keeps old new ⊎ (f.part ≡ part.Memory) × ((verdict : Verdict) × IsVerdict plan rows verdict × Appends old new (line_of plan.program verdict))

-- the verdict on the rows of the trace table; its line and what explains it were written
pub record IsExplainedUnder (all : Bool) (plan : PlanParts) (trace : List ℕ) (old new : Option (List ℕ)) (verdict : Verdict) : Type 0 where
  pub rows : List Row
  pub has_table : HasTable plan.program trace rows
  pub right : IsVerdict plan rows verdict
  pub one_worker : AcceptedRuns plan rows verdict
  pub written : Writes (IsExplanation all plan rows verdict) old new

-- the verdict under the one plan of the first two texts
abbrev pub IsExplained : Bool → List ℕ → List ℕ → List ℕ → Option (List ℕ) → Option (List ℕ) → Verdict → Type 0
IsExplained all program externals trace old new verdict = OfOnly (IsPlanOf program externals) (λ plan. IsExplainedUnder all plan trace old new verdict)

-- true is the answer where the verdict on the three texts, which was explained, accepts, and false where it doesn't
abbrev pub IsExplainedAnswer : Bool → List ℕ → List ℕ → List ℕ → Option (List ℕ) → Option (List ℕ) → Bool → Type 0
IsExplainedAnswer all program externals trace old new answer = (verdict : Verdict) × IsExplained all program externals trace old new verdict × (IsTrue answer ↔ Accepts verdict)

-- the three texts of a bundle are explained, and true is answered exactly where they are accepted
abbrev pub IsExplainedBundle : Bool → List ℕ → Option (List ℕ) → Option (List ℕ) → Bool → Type 0
IsExplainedBundle all text old new answer = (program externals trace : List ℕ) × IsBundle text program externals trace × IsExplainedAnswer all program externals trace old new answer

-- a plan and rows get no written explanation: there is no verdict, or no memory for what explains it; or the writer failed on the verdict's line, or on the whole
pub data ExplainingRefusal (all : Bool) (plan : PlanParts) (rows : List Row) (workers : ℕ) (old new : Option (List ℕ)) (f : Fault) : Type 0 where
  by_check : CheckRefusal workers f → WritesLineAtMost plan rows old new f → ExplainingRefusal all plan rows workers old new f
  by_line : (verdict : Verdict) → f.part ≡ part.Write → f.number ≡ 1 → IsVerdict plan rows verdict → AppendsFront old new (line_of plan.program verdict) → ExplainingRefusal all plan rows workers old new f
  by_writer : (verdict : Verdict) (text : List ℕ) → f.part ≡ part.Write → f.number ≡ 1 → IsVerdict plan rows verdict → IsExplanation all plan rows verdict text → AppendsFront old new text → ExplainingRefusal all plan rows workers old new f

-- a text gets no explanation under a plan: it is no trace table, and nothing was written, or its rows get none
pub data ExplainRefusalUnder (all : Bool) (plan : PlanParts) (trace : List ℕ) (workers : ℕ) (old new : Option (List ℕ)) (f : Fault) : Type 0 where
  by_trace : TraceRefusal plan.program trace f → Keeps old new → ExplainRefusalUnder all plan trace workers old new f
  by_explaining : (rows : List Row) → HasTable plan.program trace rows → ExplainingRefusal all plan rows workers old new f → ExplainRefusalUnder all plan trace workers old new f

-- the three texts get no explanation: the first two have no plan, and nothing was written, or the third gets none under it
abbrev pub ExplainRefusal : Bool → List ℕ → List ℕ → List ℕ → ℕ → Option (List ℕ) → Option (List ℕ) → Fault → Type 0
ExplainRefusal all program externals trace workers old new f = (LoadRefusal program externals f × Keeps old new) ⊎ OfOnly (IsPlanOf program externals) (λ plan. ExplainRefusalUnder all plan trace workers old new f)

-- a bundle gets no explanation: the text is no bundle, or its three texts get none by one worker
pub data ExplainBundleRefusal (all : Bool) (text : List ℕ) (old new : Option (List ℕ)) (f : Fault) : Type 0 where
  by_bundle : f.part ≡ part.Bundle → f.number ≡ 1 → ((program externals trace : List ℕ) → IsBundle text program externals trace → ⊥) → ExplainBundleRefusal all text old new f
  by_explaining : (program externals trace : List ℕ) → IsBundle text program externals trace → ExplainRefusal all program externals trace 1 old new f → ExplainBundleRefusal all text old new f
