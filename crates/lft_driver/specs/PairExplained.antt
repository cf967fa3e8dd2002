-- What is said of two traces under a plan, with what explains it, and why they get none.
use Rattle.std.specs.Prelude.{◌≡◌, ◌⊎◌, ℕ, Bool, List, [], ◌++◌, Option, codes}
use Rattle.std.specs.Io.KnownBytes.{Appends, Keeps}
use Rattle.lft_tag.specs.declared.Tag.{Tag}
use Rattle.lft_ir.specs.declared.steps.row.Row.{Row}
use Rattle.lft_model.specs.Plans.{PlanParts}
use Rattle.lft_driver.specs.{Explained.{AreReasons, Writes}, declared.paired.Paired.Paired, Lines.line_of_pair, PairRefusals.TracesRefusal}
use Rattle.lft_driver.specs.{Pairs.{HaveTables, IsPairing}, Refusals.CheckRefusal}
use Rattle.lft_report.specs.Shortened.{shown_part}
use Rattle.lft_pair.specs.Shown.{ShowsDifference}
use Rattle.lft_load.specs.{Written.AppendsFront, declared.fault.Fault.Fault}
use Rattle.lft_load.specs.declared.fault.Part.TheVariants as part
use Rattle.lft_driver.specs.declared.paired.Paired.TheVariants as paired

-- an empty line and what shows a difference: all of it, or the first 60 lines and how many others there are
abbrev pub AreAnswers : Bool → PlanParts → List Row → List Row → Tag → ℕ → List ℕ → Type 0
AreAnswers all plan rows others g r text = (what : List ℕ) × ShowsDifference plan rows others g r what × (text ≡ codes "\n" ++ shown_part all what)

-- what stands behind the line of two traces: for a broken rule what explains the breach of that trace, for a difference what shows it, else nothing
abbrev pub StandsBehind : Bool → PlanParts → List Row → List Row → Paired → List ℕ → Type 0
StandsBehind all plan rows others (paired.First b) text = AreReasons all plan rows b text
StandsBehind all plan rows others (paired.Second b) text = AreReasons all plan others b text
StandsBehind all plan rows others (paired.Same runs tags) text = text ≡ []
StandsBehind all plan rows others (paired.Differ g r) text = AreAnswers all plan rows others g r text

-- the text is the line of two traces, and what stands behind it
abbrev pub IsPairExplanation : Bool → PlanParts → List Row → List Row → Paired → List ℕ → Type 0
IsPairExplanation all plan rows others said text = (rest : List ℕ) × StandsBehind all plan rows others said rest × (text ≡ line_of_pair plan.program said ++ rest)

-- nothing was written, or memory was refused behind the line of the two traces: then that line alone was written
abbrev pub WritesPairLineAtMost : PlanParts → List Row → List Row → Option (List ℕ) → Option (List ℕ) → Fault → Type 0
WritesPairLineAtMost plan rows others old new f = Keeps old new ⊎ (f.part ≡ part.Memory) × ((said : Paired) × IsPairing plan rows others said × Appends old new (line_of_pair plan.program said))

-- what is said of the rows of two trace tables; its line and what explains it were written
pub record IsPairExplainedUnder (all : Bool) (plan : PlanParts) (first second : List ℕ) (old new : Option (List ℕ)) (said : Paired) : Type 0 where
  pub rows : List Row
  pub others : List Row
  pub have_tables : HaveTables plan.program first second rows others
  pub right : IsPairing plan rows others said
  pub written : Writes (IsPairExplanation all plan rows others said) old new

-- a plan and two traces get no written explanation: by the checker or for want of memory they get none; or the writer failed on the line, or on the whole
pub data PairExplainingRefusal (all : Bool) (plan : PlanParts) (rows others : List Row) (workers : ℕ) (old new : Option (List ℕ)) (f : Fault) : Type 0 where
  by_check : CheckRefusal workers f → WritesPairLineAtMost plan rows others old new f → PairExplainingRefusal all plan rows others workers old new f
  by_line : (said : Paired) → f.part ≡ part.Write → f.number ≡ 1 → IsPairing plan rows others said → AppendsFront old new (line_of_pair plan.program said) → PairExplainingRefusal all plan rows others workers old new f
  by_writer : (said : Paired) (text : List ℕ) → f.part ≡ part.Write → f.number ≡ 1 → IsPairing plan rows others said → IsPairExplanation all plan rows others said text → AppendsFront old new text → PairExplainingRefusal all plan rows others workers old new f

-- two texts get no explanation under a plan: one is no trace table, and nothing was written, or their rows get none
pub data PairExplainRefusalUnder (all : Bool) (plan : PlanParts) (first second : List ℕ) (workers : ℕ) (old new : Option (List ℕ)) (f : Fault) : Type 0 where
  by_traces : TracesRefusal plan.program first second f → Keeps old new → PairExplainRefusalUnder all plan first second workers old new f
  by_explaining : (rows others : List Row) → HaveTables plan.program first second rows others → PairExplainingRefusal all plan rows others workers old new f → PairExplainRefusalUnder all plan first second workers old new f
