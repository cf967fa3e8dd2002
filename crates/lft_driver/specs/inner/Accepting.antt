-- A verdict on a trace table of a plan. The contracts of the crate's own functions alone need this file.
use Rattle.std.specs.Prelude.{ℕ, ◌⊎◌, List}
use Rattle.lft_ir.specs.declared.steps.row.Row.{Row}
use Rattle.lft_tables.specs.Records.{records_of}
use Rattle.lft_trace.specs.Traces.{Table}
use Rattle.lft_model.specs.Plans.{PlanParts}
use Rattle.lft_check.specs.{declared.verdict.Verdict.Verdict, Verdicts.IsVerdict}
use Rattle.lft_load.specs.declared.fault.Fault.{Fault}
use Rattle.lft_driver.specs.{Meaning.HasTable, Refusals.{CheckRefusal, TraceRefusal}}

-- the verdict is right for the rows of the trace table
abbrev pub IsRight : PlanParts → List ℕ → Verdict → Type 0
IsRight plan trace verdict = (rows : List Row) × Table plan.program (records_of trace) rows × IsVerdict plan rows verdict

-- a text gets no verdict under a plan: it is no trace table, or its rows get none by so many workers
abbrev pub IsUnjudgedText : PlanParts → List ℕ → ℕ → Fault → Type 0
IsUnjudgedText plan trace workers f = TraceRefusal plan.program trace f ⊎ ((rows : List Row) × HasTable plan.program trace rows × CheckRefusal workers f)
