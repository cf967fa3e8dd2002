-- Inside: tables of rows with external inputs among them: the lines of their records, and why a record is none.
use Rattle.std.specs.Prelude.{◌≡◌, ◌+◌, ℕ, List, ◌∷◌, ◌++◌, filter_map, All, Option, Some, None, []}
use Rattle.std.specs.List.{AllZip}
use Rattle.lft_ir.specs.{Parts.Parts, declared.steps.row.Row.Row as TheRow, Steps.Fits.EventFits}
use Rattle.lft_tag.specs.Tags.{IsRecorded}
use Rattle.lft_trace.specs.declared.external_table.Entry.{Entry, TheVariants.{Happens, Stops}}
use Rattle.lft_trace.specs.declared.log_table.{Among.Among, Line.{Line, TheVariants.{Row, Input}}, LineFault.LineFault, LogLines.LogLines}
use Rattle.lft_trace.specs.LogTables.{IsLine, IsNoLine, row_of}

-- the external inputs among lines, each with the number of rows before it, of which so many stand before all lines
abbrev pub inputs_behind : ℕ → List Line → List Among
inputs_behind n [] = []
inputs_behind n (Row row ∷ lines) = inputs_behind (n + 1) lines
inputs_behind n (Input entry ∷ lines) = record { rows_before = n; entry = entry } ∷ inputs_behind n lines

-- no record is left, or the next one is no line
abbrev pub StopsAt : Parts → List (List (List ℕ)) → Option LineFault → Type 0
StopsAt program rest None = rest ≡ []
StopsAt program rest (Some e) = (bad : List (List ℕ)) × (more : List (List (List ℕ))) × (rest ≡ bad ∷ more) × IsNoLine program bad e

-- the rows and the external inputs are those of the records, one by one, up to the first that is no line
pub record ReadsLines (program : Parts) (records : List (List (List ℕ))) (rows : List TheRow) (read : LogLines) : Type 0 where
  pub lines : List Line
  pub first : List (List (List ℕ))
  pub rest : List (List (List ℕ))
  pub whole : records ≡ first ++ rest
  pub each : AllZip (IsLine program) first lines
  pub rows_are : rows ≡ filter_map row_of lines
  pub inputs_are : read.inputs.items ≡ inputs_behind 0 lines
  pub stops : StopsAt program rest read.fault

-- the event is of the program and recorded, or the stop is recorded
abbrev pub EntryFits : Parts → Entry → Type 0
EntryFits program (Happens e) = EventFits program e
EntryFits program (Stops g) = IsRecorded g

-- the external inputs are all of the program and recorded
abbrev pub InputsFit : Parts → List Among → Type 0
InputsFit program inputs = All (λ (a : Among). EntryFits program a.entry) inputs
