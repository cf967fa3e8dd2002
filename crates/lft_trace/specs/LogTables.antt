-- Tables of rows with external inputs among them: the lines of their records, and why a record is none.
use Rattle.std.specs.Prelude.{ℕ, List, Option, Some, None, []}
use Rattle.lft_ir.specs.{Parts.Parts, declared.steps.row.Row.Row as TheRow}
use Rattle.lft_trace.specs.{ExternalTables.{ExternalFields, IsEntry}, Traces.IsRow}
use Rattle.lft_trace.specs.declared.kind.EntryKind.{EntryKind}
use Rattle.lft_trace.specs.declared.log_table.{Line.{Line, TheVariants.{Row, Input}}, LineFault.{LineFault, TheVariants.{NoRow, NoInput}}}
use Rattle.lft_trace.specs.ExternalTables as external
use Rattle.lft_trace.specs.Traces as trace

-- the row or the external input of a record
abbrev pub IsLine : Parts → List (List ℕ) → Line → Type 0
IsLine program fields (Row row) = IsRow program fields row
IsLine program fields (Input entry) = IsEntry program fields entry

-- the record has the fields of an external input, and the first is the word of one
abbrev pub BeginsAsInput : List (List ℕ) → Type 0
BeginsAsInput fields = (k : EntryKind) × (c : ExternalFields) × external.IsOf k c fields

-- the record is no line: as the one record of a table it has the fault, which is of a table of external inputs where the record begins as one of these
abbrev pub IsNoLine : Parts → List (List ℕ) → LineFault → Type 0
IsNoLine program fields (NoRow e) = trace.FaultAt program 2 fields e × ¬ BeginsAsInput fields
IsNoLine program fields (NoInput e) = external.FaultAt program [] 2 fields e × BeginsAsInput fields

-- the row of a line, if it is one
abbrev pub row_of : Line → Option TheRow
row_of (Row row) = Some row
row_of (Input entry) = None
