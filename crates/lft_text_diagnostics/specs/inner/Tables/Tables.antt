-- Inside: which field of a table is wrong, and how it is named.
use Rattle.std.specs.Prelude.{◌≡◌, ℕ, List, codes}
use Rattle.lft_ir.specs.Parts.{Parts}
use Rattle.lft_trace.specs.{ExternalTables.{ExternalFails, external_tables}, Traces.{TraceFails, trace_tables}, declared.fault.TraceFault.TraceFault}
use Rattle.lft_tables.specs.Tables.{FailsAt}
use Rattle.lft_text_diagnostics.specs.declared.tables.{fields.Wrong.Wrong, tables.Table.{Table, TheVariants.{Trace, Externals}}}
use Rattle.lft_text_diagnostics.specs.Tables.Tables.{IsWrong, IsWrongThere}

-- The field of a record that a fault of the table is about.
abbrev pub IsWrongIn : Parts → Table → TraceFault → List (List ℕ) → Wrong → Type 0
IsWrongIn program (Trace word) e fields w = IsWrong program e fields w
IsWrongIn program Externals e fields w = IsWrongThere e fields w

-- How a table is called.
abbrev pub word_of : Table → List ℕ
word_of (Trace word) = word.now
word_of Externals = codes "External inputs"

-- The table has the fault.
abbrev pub Fails : Parts → Table → List (List (List ℕ)) → TraceFault → Type 0
Fails program (Trace word) records e = TraceFails program records e
Fails program Externals records e = ExternalFails program records e

-- The table fails at this record.
abbrev pub FailsThere : Parts → Table → List (List (List ℕ)) → List (List ℕ) → TraceFault → Type 0
FailsThere program (Trace word) records fields e = (fails : FailsAt (trace_tables program) records e) × (fails.bad ≡ fields)
FailsThere program Externals records fields e = (fails : FailsAt (external_tables program) records e) × (fails.bad ≡ fields)
