-- Inside: the rows of a trace table's records, some at a time.
use Rattle.std.specs.Prelude.{◌≡◌, ◌++◌, ◌∷◌, ℕ, List, Option, Bool, true, false}
use Rattle.std.specs.List.{AllZip}
use Rattle.lft_ir.specs.{Parts.Parts, declared.steps.row.Row.Row}
use Rattle.lft_tables.specs.declared.{table_lines.TableLines.TableLines, records.Records.Records}
use Rattle.lft_tables.specs.{inner.{TableLines.AreLinesBelow, Records.{IsPlain, records_left}}, Records.records_of}
use Rattle.lft_trace.specs.Traces.{IsRow, header}

-- all records of the text but the header are left
abbrev pub IsBelowHeader : {R : Type 0} → (R → Option (List ℕ)) → Records R → List ℕ → Type 0
IsBelowHeader remaining r text = IsPlain remaining r × (records_of text ≡ header ∷ records_left remaining r)

-- the rows are those of the next records, one by one, and the records behind them are left
pub record AreNext {R : Type 0} (remaining : R → Option (List ℕ)) (program : Parts) (old new : Records R) (rows : List Row) : Type 0 where
  pub first : List (List (List ℕ))
  pub each : AllZip (IsRow program) first rows
  pub left : IsPlain remaining old → IsPlain remaining new × (records_left remaining old ≡ first ++ records_left remaining new)

-- the rows are those of all records that were left, one by one
pub record AreLast {R : Type 0} (remaining : R → Option (List ℕ)) (program : Parts) (old : Records R) (rows : List Row) : Type 0 where
  pub first : List (List (List ℕ))
  pub each : AllZip (IsRow program) first rows
  pub left : IsPlain remaining old → records_left remaining old ≡ first

-- the rows come next, and they are the last ones where no more may follow
abbrev pub IsBatch : {R : Type 0} → (R → Option (List ℕ)) → Parts → Records R → Records R → List Row → Bool → Type 0
IsBatch remaining program old new rows true = AreNext remaining program old new rows
IsBatch remaining program old new rows false = AreLast remaining program old rows

-- the text's first record is the header, and those of what is still to be given are the others
abbrev pub AreLinesBelowHeader : {R : Type 0} → (R → Option (List ℕ)) → TableLines R → List ℕ → Type 0
AreLinesBelowHeader remaining lines text = AreLinesBelow remaining header lines text
