-- A verdict on a trace table with what an accepted one exercised, and what was written of both.
use Rattle.std.specs.Prelude.{◌≡◌, ◌++◌, ℕ, Bool, true, false, List, Option, length, []}
use Rattle.std.specs.Io.KnownBytes.{Appends}
use Rattle.lft_ir.specs.declared.steps.row.Row.{Row}
use Rattle.lft_trace.specs.{declared.fault.TraceFault.TraceFault, Faults.is_told, Traces.{Table, TraceFails}}
use Rattle.lft_tables.specs.Records.{records_of}
use Rattle.lft_model.specs.Plans.{PlanParts}
use Rattle.lft_check.specs.{declared.verdict.Verdict.Verdict, Verdicts.IsVerdict}
use Rattle.lft_counts.specs.{Cover.CoversRows, declared.cover.Cover.Cover}
use Rattle.lft_coverage.specs.{Facts.fact_lines, Sums.TellsSums, declared.driver.covered.Covered.TheVariants.{Accepted, Broken}}
use Rattle.lft_load.specs.{Faults.table_number, Written.AppendsFront, declared.fault.Fault.Fault}
use Rattle.lft_driver.specs.{Judged.AcceptedRuns, Lines.line_of, Meaning.HasTable, Refusals.CheckRefusal}
use Rattle.lft_check.specs.declared.verdict.Verdict.TheVariants as verdict
use Rattle.lft_load.specs.declared.fault.Part.TheVariants as part

-- what stands behind the line of an accepted trace: with `--list` the facts of the counts of all rows, else a text that begins with their sums
abbrev pub IsTold : Bool → PlanParts → List Row → List ℕ → Type 0
IsTold true plan rows text = (cover : Cover) × CoversRows plan.program rows (length rows) cover × (text ≡ fact_lines plan.program cover)
IsTold false plan rows text = (cover : Cover) × CoversRows plan.program rows (length rows) cover × TellsSums plan.program cover text

-- what stands behind the line of a verdict: nothing behind a broken rule
abbrev pub IsBehind : Bool → PlanParts → List Row → Verdict → List ℕ → Type 0
IsBehind list plan rows (verdict.Accepted runs tags) text = IsTold list plan rows text
IsBehind list plan rows (verdict.Broken b) text = text ≡ []

-- the verdict on the rows of the trace table; its line was written, and behind it what an accepted trace exercised
pub record IsJudgedCoverUnder (list : Bool) (plan : PlanParts) (trace : List ℕ) (old new : Option (List ℕ)) (v : Verdict) : Type 0 where
  pub rows : List Row
  pub has_table : HasTable plan.program trace rows
  pub right : IsVerdict plan rows v
  pub one_worker : AcceptedRuns plan rows v
  pub behind : List ℕ
  pub told : IsBehind list plan rows v behind
  pub written : Appends old new (line_of plan.program v ++ behind)

-- the trace is no table of the plan's program
abbrev pub IsUnreadTrace : PlanParts → List ℕ → Fault → Type 0
IsUnreadTrace plan trace f = (e : TraceFault) × (f.part ≡ part.Trace) × (f.number ≡ table_number e) × (is_told e ≡ true → TraceFails plan.program (records_of trace) e × ((rows : List Row) → Table plan.program (records_of trace) rows → ⊥))

-- a text gets no verdict under a plan: it is no trace table, there is none by so many workers, or the writer failed and took a front of what is right
pub data CoverRefusalUnder (list : Bool) (plan : PlanParts) (trace : List ℕ) (workers : ℕ) (old new : Option (List ℕ)) (f : Fault) : Type 0 where
  by_trace : IsUnreadTrace plan trace f → CoverRefusalUnder list plan trace workers old new f
  by_check : (rows : List Row) → HasTable plan.program trace rows → CheckRefusal workers f → CoverRefusalUnder list plan trace workers old new f
  by_writer : (rows : List Row) (v : Verdict) (behind : List ℕ) → f.part ≡ part.Write → f.number ≡ 1 → HasTable plan.program trace rows → IsVerdict plan rows v → IsBehind list plan rows v behind → AppendsFront old new (line_of plan.program v ++ behind) → CoverRefusalUnder list plan trace workers old new f
