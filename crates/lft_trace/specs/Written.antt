-- The text of a trace table as it is written.
use Rattle.std.specs.Prelude.{ℕ, List, ◌∷◌, ◌++◌, map, decimal, slice_index_or, if◌then◌else◌, ◌==◌, []}
use Rattle.std.specs.{Fmt.signed_decimal, List.{concat, join_with_byte}}
use Rattle.lft_ir.specs.Parts.{Parts}
use Rattle.lft_ir.specs.declared.parts.{Name.{Name, TheVariants.{Port, Action}}, Value.{Value, TheVariants.{Bare, Int}}}
use Rattle.lft_ir.specs.declared.steps.row.{Row.Row, Step.{Step, TheVariants.{Start, Read, Write, Schedule, Stop, End}}}
use Rattle.lft_trace.specs.{Traces.{header, word}, declared.kind.RowKind.RowKind}
use Rattle.lft_trace.specs.declared.kind.RowKind.TheVariants as kind

-- the event of a step
abbrev pub event_of : Step → RowKind
event_of Start = kind.Start
event_of (Read n v) = kind.Read
event_of (Write n v) = kind.Write
event_of (Schedule n v delay) = kind.Schedule
event_of Stop = kind.Stop
event_of End = kind.End

-- the name of a port or action of the program
abbrev pub name_text : Parts → Name → List ℕ
name_text program (Port p) = slice_index_or program.names.ports p []
name_text program (Action a) = slice_index_or program.names.actions a []

-- a bare value is written as nothing
abbrev pub value_text : Value → List ℕ
value_text Bare = []
value_text (Int n) = signed_decimal n

-- no delay is written as nothing
abbrev pub delay_text : ℕ → List ℕ
delay_text delay = if delay == 0 then [] else decimal delay

-- the name, the value and the delay of a step
abbrev pub step_fields : Parts → Step → List (List ℕ)
step_fields program Start = [] ∷ [] ∷ [] ∷ []
step_fields program (Read n v) = name_text program n ∷ value_text v ∷ [] ∷ []
step_fields program (Write n v) = name_text program n ∷ value_text v ∷ [] ∷ []
step_fields program (Schedule n v delay) = name_text program n ∷ value_text v ∷ delay_text delay ∷ []
step_fields program Stop = [] ∷ [] ∷ [] ∷ []
step_fields program End = [] ∷ [] ∷ [] ∷ []

-- the fields of a row
abbrev pub row_fields : Parts → Row → List (List ℕ)
row_fields program row = word (event_of row.step) ∷ decimal row.worker ∷ decimal row.tag.time ∷ decimal row.tag.micro ∷ slice_index_or program.names.reactions row.reaction [] ∷ step_fields program row.step

-- the header, and then the fields of each row
abbrev pub written_records : Parts → List Row → List (List (List ℕ))
written_records program rows = header ∷ map (row_fields program) rows

-- a line of fields with a comma (byte 44) between each two, ended by a line feed (byte 10)
abbrev pub line : List (List ℕ) → List ℕ
line fields = join_with_byte 44 fields ++ (10 ∷ [])

-- the text of the rows: a line for the header, and then one for each row
abbrev pub table_text : Parts → List Row → List ℕ
table_text program rows = concat (map line (written_records program rows))
