-- Why texts get no plan and no verdict: the fault of the first layer that refuses.
use Rattle.std.specs.Prelude.{◌≡◌, ℕ, ◌⊎◌, Bool, List, Option, true, false}
use Rattle.lft_ir.specs.{Parts.Parts, declared.steps.row.Row.Row}
use Rattle.lft_trace.specs.{declared.fault.TraceFault.TraceFault, Faults.is_told, Traces.TraceFails}
use Rattle.lft_tables.specs.Records.{records_of}
use Rattle.lft_model.specs.{Plans.PlanParts, Workers.IsWorkers}
use Rattle.lft_load.specs.{Faults.table_number, Meaning.{IsProgramOf, IsPlanOf, OfOnly}, Written.AppendsFront, declared.fault.Fault.Fault}
use Rattle.lft_load.specs.Refusals.{LoadRefusal, ProgramRefusal, GraphRefusal}
use Rattle.lft_check.specs.{declared.verdict.Verdict.Verdict, Verdicts.IsVerdict}
use Rattle.lft_driver.specs.{Bundles.IsBundle, Lines.line_of, Meaning.HasTable, Shown.lines_of}
use Rattle.lft_graph.specs.Graph.{GraphParts, IsGraphOf}
use Rattle.lft_load.specs.declared.fault.Part.TheVariants as part

-- a growth of the checker or of `lftrace` itself was refused
abbrev pub IsRefusedGrowth : Fault → Type 0
IsRefusedGrowth f = (f.part ≡ part.Check) × (f.number ≡ 3) ⊎ (f.part ≡ part.Memory) × (f.number ≡ 1)

-- by so many workers rows get no verdict: their number isn't lawful, or it is and a growth was refused
pub data CheckRefusal (workers : ℕ) (f : Fault) : Type 0 where
  by_workers : f.part ≡ part.Check → f.number ≡ 1 → (IsWorkers workers → ⊥) → CheckRefusal workers f
  by_growth : IsRefusedGrowth f → IsWorkers workers → CheckRefusal workers f

-- the text is no trace table of the program
abbrev pub TraceRefusal : Parts → List ℕ → Fault → Type 0
TraceRefusal program trace f = (e : TraceFault) × (f.part ≡ part.Trace) × (f.number ≡ table_number e) × (is_told e ≡ true → TraceFails program (records_of trace) e)

-- a plan and rows get no written verdict: they get none, or the writer failed on its line
pub data JudgingRefusal (plan : PlanParts) (rows : List Row) (workers : ℕ) (old new : Option (List ℕ)) (f : Fault) : Type 0 where
  by_check : CheckRefusal workers f → JudgingRefusal plan rows workers old new f
  by_writer : (verdict : Verdict) → f.part ≡ part.Write → f.number ≡ 1 → IsVerdict plan rows verdict → AppendsFront old new (line_of plan.program verdict) → JudgingRefusal plan rows workers old new f

-- a text gets no written verdict under a plan: it is no trace table, or its rows get none
pub data JudgeRefusalUnder (plan : PlanParts) (trace : List ℕ) (workers : ℕ) (old new : Option (List ℕ)) (f : Fault) : Type 0 where
  by_trace : TraceRefusal plan.program trace f → JudgeRefusalUnder plan trace workers old new f
  by_judging : (rows : List Row) → HasTable plan.program trace rows → JudgingRefusal plan rows workers old new f → JudgeRefusalUnder plan trace workers old new f

-- the three texts get no verdict: the first two have no plan, or the third gets none under it
abbrev pub JudgeRefusal : List ℕ → List ℕ → List ℕ → ℕ → Option (List ℕ) → Option (List ℕ) → Fault → Type 0
JudgeRefusal program externals trace workers old new f = LoadRefusal program externals f ⊎ OfOnly (IsPlanOf program externals) (λ plan. JudgeRefusalUnder plan trace workers old new f)

-- a program isn't shown: it has no graph, a growth was refused, or the writer failed on the lines
pub data ShowProgramRefusal (all : Bool) (program : Parts) (old new : Option (List ℕ)) (f : Fault) : Type 0 where
  by_graph : GraphRefusal program f → ShowProgramRefusal all program old new f
  by_growth : f.part ≡ part.Memory → f.number ≡ 1 → ShowProgramRefusal all program old new f
  by_writer : (g : GraphParts) → f.part ≡ part.Write → f.number ≡ 1 → IsGraphOf program g → AppendsFront old new (lines_of all program g) → ShowProgramRefusal all program old new f

-- nothing is shown of a text: it has no flat program, or the program isn't shown
abbrev pub ShowRefusal : List ℕ → Option (List ℕ) → Option (List ℕ) → Fault → Type 0
ShowRefusal text old new f = ProgramRefusal text f ⊎ OfOnly (IsProgramOf text) (λ program. ShowProgramRefusal false program old new f)

-- a bundle gets no verdict: the text is no bundle, or its three texts get none by one worker
pub data BundleRefusal (text : List ℕ) (old new : Option (List ℕ)) (f : Fault) : Type 0 where
  by_bundle : f.part ≡ part.Bundle → f.number ≡ 1 → ((program externals trace : List ℕ) → IsBundle text program externals trace → ⊥) → BundleRefusal text old new f
  by_judging : (program externals trace : List ℕ) → IsBundle text program externals trace → JudgeRefusal program externals trace 1 old new f → BundleRefusal text old new f
