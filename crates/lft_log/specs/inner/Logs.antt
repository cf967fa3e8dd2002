-- Inside: the lines of a log: rows and external inputs, below the header of a trace table that comes in pieces.
use Rattle.std.specs.Prelude.{◌≡◌, ◌≢◌, ◌⊎◌, ◌≤◌, ◌+◌, ℕ, List, ◌++◌, ◌∷◌, length, take, drop, None, Some, slice_get, []}
use Rattle.std.specs.List.{AllZip}
use Rattle.csv.specs.Reading.{records}
use Rattle.lft_ir.specs.{Parts.Parts, declared.steps.row.Row.Row as TheRow, Steps.Fits.RowsFit}
use Rattle.lft_trace.specs.{inner.LogTables.{InputsFit, inputs_behind}, LogTables.{IsLine, IsNoLine}, Traces.{Table, header}}
use Rattle.lft_trace.specs.declared.log_table.Line.{Line, TheVariants.{Row, Input}}
use Rattle.lft_tables.specs.Records.{records_of}
use Rattle.lft_log.specs.declared.{fault.LogFault.{LogFault, TheVariants.{NoRow, NoInput}}, front.LinesRead.LinesRead}
use Rattle.lft_log.specs.Logs.{AreLines, ArePlain, IsOneLine, BeginsWithLine, fields, rows, inputs, records_below, HoldSoFar, BeginsWithRecord, IsOddLine}
use Rattle.lft_trace.specs.declared.log_table.LineFault.TheVariants as none

-- the byte is a carriage return, and no line feed stands behind it
abbrev pub IsLoneReturn : List ℕ → ℕ → Type 0
IsLoneReturn text i = (slice_get text i ≡ Some 13) × (slice_get text (i + 1) ≢ Some 10)

-- the first line of the text isn't plain
abbrev pub BeginsOdd : List ℕ → Type 0
BeginsOdd text = (line rest : List ℕ) → text ≡ line ++ rest → IsOneLine line → ¬ ArePlain line

-- the records that tell rows
abbrev pub row_records : List (List (List ℕ)) → List Line → List (List (List ℕ))
row_records [] lines = []
row_records (fields ∷ first) [] = []
row_records (fields ∷ first) (Row row ∷ lines) = fields ∷ row_records first lines
row_records (fields ∷ first) (Input entry ∷ lines) = row_records first lines

-- a log's records are the header and those of its lines; where there are no more rows than a table may have, the header and the records of rows are the trace table of the rows
abbrev pub LogLaw : Parts → Type 0
LogLaw program = (bytes rest : List ℕ) (lines : List Line) (log : HoldSoFar program bytes lines [] rest) → (records_of (log.head ++ log.body) ≡ header ∷ log.first) × (length (rows lines) ≤ 4000000 → Table program (header ∷ row_records log.first lines) (rows lines))

-- the fault is of the first of the records, which has this number among rows, or that among external inputs
abbrev pub IsRecordFault : Parts → List (List (List ℕ)) → ℕ → ℕ → LogFault → Type 0
IsRecordFault program records row input (NoRow e line) = (line ≡ row) × BeginsWithRecord (λ f. IsNoLine program f (none.NoRow e)) records
IsRecordFault program records row input (NoInput e line) = (line ≡ input) × BeginsWithRecord (λ f. IsNoLine program f (none.NoInput e)) records
IsRecordFault program records row input f = ⊥

-- the fault is of the first of the records, or there are none and it is of the line behind them
abbrev pub IsFaultBehind : Parts → List (List (List ℕ)) → List ℕ → ℕ → ℕ → LogFault → Type 0
IsFaultBehind program records rest row input f = IsRecordFault program records row input f ⊎ (records ≡ []) × BeginsWithLine (IsOddLine row input f) rest

-- the rows and the front's external inputs are those of the first records of the plain lines, behind so many others; a front without a fault is of all lines, and a fault is of the next record or of the line behind the plain ones
pub record IsFront (program : Parts) (text : List ℕ) (rows_before inputs_before : ℕ) (read : List TheRow) (front : LinesRead) : Type 0 where
  pub plain : ℕ
  pub within : plain ≤ length text
  pub are : AreLines (take plain text)
  pub quiet : ArePlain (take plain text)
  pub lines : List Line
  pub first : List (List (List ℕ))
  pub others : List (List (List ℕ))
  pub whole : records_below (take plain text) ≡ first ++ others
  pub each : AllZip (IsLine program) first lines
  pub rows_are : read ≡ rows lines
  pub inputs_are : front.inputs.items ≡ inputs_behind 0 lines
  pub rows_fit : RowsFit program read
  pub inputs_fit : InputsFit program front.inputs.items
  pub all : front.fault ≡ None → (others ≡ []) × (plain ≡ length text)
  pub none : (f : LogFault) → front.fault ≡ Some f → IsFaultBehind program others (drop plain text) (rows_before + length (rows lines) + 2) (inputs_before + length (inputs lines) + 2) f
