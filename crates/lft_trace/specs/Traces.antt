-- Trace tables: the rows of their records, and their faults.
use Rattle.std.specs.Prelude.{◌≡◌, ◌≢◌, ◌⊎◌, ℕ, List, [], ◌∷◌, length, codes, Bool, true, false, not, ◌&&◌, ◌||◌, is_some, ◌==◌, Some}
use Rattle.lft_ir.specs.{Names.IsNamed, Parts.Parts}
use Rattle.lft_ir.specs.declared.{found.Found.Found, parts.{Name.{Name, TheVariants.{Port, Action}}, Value.Value}, steps.row.{Row.Row, Step.Step}}
use Rattle.lft_trace.specs.Numbers.{number, number_or_zero, value}
use Rattle.lft_trace.specs.declared.{fault.TraceFault.TraceFault, kind.RowKind.{RowKind, TheVariants.{Start, Read, Write, Schedule, Stop, End}}}
use Rattle.lft_tables.specs.Tables.{Fails, Holds, TableKind}
use Rattle.lft_ir.specs.declared.found.Found.TheVariants as found
use Rattle.lft_trace.specs.declared.fault.TraceFault.TheVariants as fault
use Rattle.lft_ir.specs.declared.steps.row.Step.TheVariants as step

-- the fields of a record of a trace table
pub record TraceFields : Type 0 where
  pub event : List ℕ
  pub worker : List ℕ
  pub time : List ℕ
  pub microstep : List ℕ
  pub reaction : List ℕ
  pub name : List ℕ
  pub value : List ℕ
  pub delay : List ℕ

abbrev pub in_order : TraceFields → List (List ℕ)
in_order c = c.event ∷ c.worker ∷ c.time ∷ c.microstep ∷ c.reaction ∷ c.name ∷ c.value ∷ c.delay ∷ []

-- the first record of a trace table
abbrev pub header : List (List ℕ)
header = codes "event" ∷ codes "worker" ∷ codes "time" ∷ codes "microstep" ∷ codes "reaction" ∷ codes "name" ∷ codes "value" ∷ codes "delay" ∷ []

-- how an event is written
abbrev pub word : RowKind → List ℕ
word Start = codes "start"
word Read = codes "read"
word Write = codes "write"
word Schedule = codes "schedule"
word Stop = codes "stop"
word End = codes "end"

-- a port or action as a thing that has a name
abbrev pub thing : Name → Found
thing (Port p) = found.Port p
thing (Action a) = found.Action a

-- a port or action of this name
abbrev pub IsThing : Parts → List ℕ → Name → Type 0
IsThing program text n = IsNamed program.names (thing n) text

-- the step of a record, by its event and its last three fields
abbrev pub IsStep : Parts → RowKind → TraceFields → Step → Type 0
IsStep program Start c s = (c.name ≡ []) × (c.value ≡ []) × (c.delay ≡ []) × (s ≡ step.Start)
IsStep program Read c s = (n : Name) × (v : Value) × IsThing program c.name n × (value c.value ≡ Some v) × (c.delay ≡ []) × (s ≡ step.Read n v)
IsStep program Write c s = (n : Name) × (v : Value) × IsThing program c.name n × (value c.value ≡ Some v) × (c.delay ≡ []) × (s ≡ step.Write n v)
IsStep program Schedule c s = (n : Name) × (v : Value) × (d : ℕ) × IsThing program c.name n × (value c.value ≡ Some v) × (number_or_zero 1000000000000000000 c.delay ≡ Some d) × (s ≡ step.Schedule n v d)
IsStep program Stop c s = (c.name ≡ []) × (c.value ≡ []) × (c.delay ≡ []) × (s ≡ step.Stop)
IsStep program End c s = (c.name ≡ []) × (c.value ≡ []) × (c.delay ≡ []) × (s ≡ step.End)

-- the row of a record with this event
pub record RowOf (program : Parts) (kind : RowKind) (c : TraceFields) (row : Row) : Type 0 where
  pub event : c.event ≡ word kind
  pub worker : number 4294967295 c.worker ≡ Some row.worker
  pub time : number 1000000000000000000 c.time ≡ Some row.tag.time
  pub microstep : number 1000000000 c.microstep ≡ Some row.tag.micro
  pub reaction : IsNamed program.names (found.Reaction row.reaction) c.reaction
  pub step : IsStep program kind c row.step

-- the row of a record
abbrev pub IsRow : Parts → List (List ℕ) → Row → Type 0
IsRow program fields row = (c : TraceFields) × (kind : RowKind) × (fields ≡ in_order c) × RowOf program kind c row

-- whether an event has a name and a value, and whether it has a delay
abbrev pub has_name : RowKind → Bool
has_name Start = false
has_name Read = true
has_name Write = true
has_name Schedule = true
has_name Stop = false
has_name End = false

abbrev pub has_delay : RowKind → Bool
has_delay Start = false
has_delay Read = false
has_delay Write = false
has_delay Schedule = true
has_delay Stop = false
has_delay End = false

-- each number that a record of this event has is one, and within its limit
abbrev pub has_numbers : RowKind → TraceFields → Bool
has_numbers kind c =
    is_some (number 4294967295 c.worker) && is_some (number 1000000000000000000 c.time) && is_some (number 1000000000 c.microstep)
    && (not (has_name kind) || is_some (value c.value)) && (not (has_delay kind) || is_some (number_or_zero 1000000000000000000 c.delay))

-- its reaction isn't one of the program, or the name that it has is of no port and no action
abbrev pub IsUnknown : Parts → RowKind → TraceFields → Type 0
IsUnknown program kind c =
    ((r : ℕ) → IsNamed program.names (found.Reaction r) c.reaction → ⊥) ⊎ ((has_name kind ≡ true) × ((n : Name) → IsThing program c.name n → ⊥))

abbrev pub is_empty : List ℕ → Bool
is_empty field = length field == 0

-- a field that must be empty isn't
abbrev pub is_filled : RowKind → TraceFields → Bool
is_filled kind c = (not (has_name kind) && (not (is_empty c.name) || not (is_empty c.value))) || (not (has_delay kind) && not (is_empty c.delay))

-- a record of this event
abbrev pub IsOf : RowKind → TraceFields → List (List ℕ) → Type 0
IsOf kind c fields = (fields ≡ in_order c) × (c.event ≡ word kind)

-- the fault of a record: the first that it has, in the order count, event, number, name, field in place
abbrev pub FaultAt : Parts → ℕ → List (List ℕ) → TraceFault → Type 0
FaultAt program line fields (fault.BadFieldCount n) = (n ≡ line) × (length fields ≢ 8)
FaultAt program line fields (fault.BadEvent n) = (n ≡ line) × (c : TraceFields) × (fields ≡ in_order c) × ((kind : RowKind) → c.event ≢ word kind)
FaultAt program line fields (fault.BadNumber n) = (n ≡ line) × (c : TraceFields) × (kind : RowKind) × IsOf kind c fields × (has_numbers kind c ≡ false)
FaultAt program line fields (fault.UnknownName n) = (n ≡ line) × (c : TraceFields) × (kind : RowKind) × IsOf kind c fields × (has_numbers kind c ≡ true) × IsUnknown program kind c
FaultAt program line fields (fault.FieldInPlace n) = (n ≡ line) × (c : TraceFields) × (kind : RowKind) × IsOf kind c fields × (has_numbers kind c ≡ true) × (IsUnknown program kind c → ⊥) × (is_filled kind c ≡ true)
FaultAt program line fields e = ⊥

-- trace tables: any rows may stand together
abbrev pub trace_tables : Parts → TableKind Row TraceFault
trace_tables program = record { header = header; Tells = IsRow program; Together = λ rows. Unit {0}; FaultAt = λ before. FaultAt program; no_header = fault.BadHeader; too_many = fault.TooManyRows }

-- the records are the header and those of the rows, one by one, and no more than a table may hold
abbrev pub Table : Parts → List (List (List ℕ)) → List Row → Type 0
Table program records rows = Holds (trace_tables program) records rows

-- the fault of records that are no trace table: no header, else the fault of the least line, else too many rows
abbrev pub TraceFails : Parts → List (List (List ℕ)) → TraceFault → Type 0
TraceFails program records e = Fails (trace_tables program) records e
