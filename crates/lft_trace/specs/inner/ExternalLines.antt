-- Inside: the external inputs of a table's lines, some lines at a time.
use Rattle.std.specs.Prelude.{◌≡◌, ◌≤◌, ◌+◌, ℕ, List, length, Option, Some, IfSome}
use Rattle.std.specs.List.{AllZip}
use Rattle.lft_ir.specs.{Parts.Parts, Steps.Inputs.{ExternalInputs, InOrder}}
use Rattle.lft_tables.specs.Records.{records_of}
use Rattle.lft_trace.specs.{ExternalTables.IsEntry, inner.SeenExternals.AreKept}
use Rattle.lft_trace.specs.declared.{external_table.Entry.Entry, reading.externals.KeptEntries.KeptEntries}

-- the stop and the events of the entries are kept, and so many more may come
abbrev pub AreKeptIn : List Entry → KeptEntries → Type 0
AreKeptIn entries k = AreKept entries k.stop k.events × (k.left + length entries ≡ 4000000)

-- the inputs are those of entries that these records tell, one by one, and where the text is known its records are these
pub record AreReadOf (program : Parts) (known : Option (List ℕ)) (inputs : ExternalInputs) : Type 0 where
  pub entries : List Entry
  pub records : List (List (List ℕ))
  pub each : AllZip (IsEntry program) records entries
  pub kept : AreKept entries (Some inputs.stop) inputs.events
  pub order : InOrder inputs.events
  pub few : length entries ≤ 4000000
  pub all : IfSome known (λ text. records_of text ≡ records)
