-- The rows that a text tells, computed from it, so that a term can name them. They mean something only where its records are rows.
use Rattle.std.specs.Prelude.{ℕ, List, [], codes, Option, Some, None, option_and_then, option_map, position, filter_map, if◌then◌else◌, slice_index_or}
use Rattle.std.specs.Str.{bytes_eq}
use Rattle.lft_ir.specs.{Parts.Parts, declared.{parts.Name.{Name, TheVariants.{Port, Action}}, steps.row.{Row.Row, Step.Step}}}
use Rattle.lft_trace.specs.{Numbers.{number, number_or_zero, value}, Traces.TraceFields}
use Rattle.lft_trace.specs.declared.kind.RowKind.{RowKind, TheVariants.{Start, Read, Write, Schedule, Stop, End}}
use Rattle.lft_tables.specs.Records.{records_of}
use Rattle.lft_ir.specs.declared.steps.row.Step.TheVariants as step

-- the fields by their places
abbrev pub fields_in : List (List ℕ) → TraceFields
fields_in f = record { event = slice_index_or f 0 []; worker = slice_index_or f 1 []; time = slice_index_or f 2 []; microstep = slice_index_or f 3 []; reaction = slice_index_or f 4 []; name = slice_index_or f 5 []; value = slice_index_or f 6 []; delay = slice_index_or f 7 [] }

-- the event of a word
abbrev pub kind_in : List ℕ → Option RowKind
kind_in w =
    if bytes_eq w (codes "start")
    then Some Start
    else (if bytes_eq w (codes "read") then Some Read else (if bytes_eq w (codes "write") then Some Write else (if bytes_eq w (codes "schedule") then Some Schedule else (if bytes_eq w (codes "stop") then Some Stop else (if bytes_eq w (codes "end") then Some End else None)))))

-- where a text stands among names
abbrev pub number_among : List (List ℕ) → List ℕ → Option ℕ
number_among names text = position (bytes_eq text) names

-- what is there, else something else
abbrev pub or_else : Option Name → Option Name → Option Name
or_else (Some n) other = Some n
or_else None other = other

-- the port or action of a name
unfoldable pub thing_in : Parts → List ℕ → Option Name
thing_in program text = or_else (option_map Port (number_among program.names.ports text)) (option_map Action (number_among program.names.actions text))

-- the step of an event with these fields
abbrev pub step_in : Parts → RowKind → TraceFields → Option Step
step_in program Start c = Some step.Start
step_in program Read c = option_and_then (λ n. option_map (step.Read n) (value c.value)) (thing_in program c.name)
step_in program Write c = option_and_then (λ n. option_map (step.Write n) (value c.value)) (thing_in program c.name)
step_in program Schedule c = option_and_then (λ n. option_and_then (λ v. option_map (step.Schedule n v) (number_or_zero 1000000000000000000 c.delay)) (value c.value)) (thing_in program c.name)
step_in program Stop c = Some step.Stop
step_in program End c = Some step.End

-- the row of an event with these fields
abbrev pub row_of : Parts → TraceFields → RowKind → Option Row
row_of program c kind =
    option_and_then (λ worker. option_and_then (λ time. option_and_then (λ micro. option_and_then (λ reaction. option_map (λ step. record { tag = record { time = time; micro = micro }; worker = worker; reaction = reaction; step = step }) (step_in program kind c)) (number_among program.names.reactions c.reaction)) (number 1000000000 c.microstep)) (number 1000000000000000000 c.time)) (number 4294967295 c.worker)

-- the row of a record
unfoldable pub row_in : Parts → List (List ℕ) → Option Row
row_in program f = option_and_then (row_of program (fields_in f)) (kind_in (fields_in f).event)

-- the rows of a text's records
unfoldable pub rows_in : Parts → List ℕ → List Row
rows_in program text = filter_map (row_in program) (records_of text)
