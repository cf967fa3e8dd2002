-- What the texts of a program, its external inputs and a trace mean.
use Rattle.std.specs.Prelude.{ℕ, List}
use Rattle.lft_ir.specs.{Parts.Parts, declared.steps.row.Row.Row}
use Rattle.lft_tables.specs.Records.{records_of}
use Rattle.lft_trace.specs.Traces.{Table}
use Rattle.lft_model.specs.Plans.{PlanParts}
use Rattle.lft_load.specs.Meaning.{IsOnly, IsPlanOf}

-- the rows are the one list of rows of the trace table
abbrev pub HasTable : Parts → List ℕ → List Row → Type 0
HasTable program trace rows = IsOnly (Table program (records_of trace)) rows

-- the text is a trace table of the program
abbrev pub IsTrace : Parts → List ℕ → Type 0
IsTrace program trace = (rows : List Row) × Table program (records_of trace) rows

-- the text is no trace table of the program
abbrev pub IsNoTrace : Parts → List ℕ → Type 0
IsNoTrace program trace = (rows : List Row) → Table program (records_of trace) rows → ⊥

-- the plan and the rows of the three texts
pub record Mean (program externals trace : List ℕ) (plan : PlanParts) (rows : List Row) : Type 0 where
  pub is_plan : IsPlanOf program externals plan
  pub is_trace : Table plan.program (records_of trace) rows
