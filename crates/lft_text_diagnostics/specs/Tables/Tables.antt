-- Which field of a table is wrong, and how it is named.
use Rattle.std.specs.Prelude.{◌≡◌, ◌≢◌, ℕ, ◌+◌, ◌⊎◌, List, ◌++◌, Option, Some, None, slice_get, Bool, true, false, ◌||◌, bytes_eq, unwrap_or, codes, decimal, []}
use Rattle.csv.specs.Records.{field_at as at_place}
use Rattle.lft_ir.specs.{Names.IsNamed, Parts.Parts, declared.{found.Found.TheVariants.Reaction, parts.Name.Name}}
use Rattle.lft_trace.specs.{Numbers.{number, number_or_zero, value}, Traces.IsThing, declared.fault.TraceFault.TraceFault}
use Rattle.lft_text_diagnostics.specs.declared.tables.fields.Wrong.{Wrong}
use Rattle.lft_trace.specs.declared.fault.TraceFault.TheVariants as fault

-- The record with that number, the first one being number 1.
abbrev pub HasRecord : List (List (List ℕ)) → ℕ → List (List ℕ) → Type 0
HasRecord records n fields = (before : ℕ) × (n ≡ before + 1) × (slice_get records before ≡ Some fields)

-- The field of a record at a place, counted from 0; nothing where there is none.
abbrev pub field_at : List (List ℕ) → ℕ → List ℕ
field_at fields at = unwrap_or (at_place fields at) []

-- It names the field with that place and that name.
abbrev pub IsField : Wrong → ℕ → List ℕ → Type 0
IsField w at name = (w.at ≡ at) × (w.name.now ≡ name)

-- A field of a row of a trace isn't the number or the value that it has to be.
abbrev pub IsNoNumber : List (List ℕ) → Wrong → Type 0
IsNoNumber fields w =
    (IsField w 1 (codes "worker") × (number 4294967295 (field_at fields 1) ≡ None))
    ⊎ ((IsField w 2 (codes "time") × (number 1000000000000000000 (field_at fields 2) ≡ None))
    ⊎ ((IsField w 3 (codes "microstep") × (number 1000000000 (field_at fields 3) ≡ None))
    ⊎ ((IsField w 6 (codes "value") × (value (field_at fields 6) ≡ None))
    ⊎ (IsField w 7 (codes "delay") × (number_or_zero 1000000000000000000 (field_at fields 7) ≡ None)))))

-- The same of a record of external inputs.
abbrev pub IsNoNumberThere : List (List ℕ) → Wrong → Type 0
IsNoNumberThere fields w =
    (IsField w 1 (codes "time") × (number 1000000000000000000 (field_at fields 1) ≡ None))
    ⊎ ((IsField w 2 (codes "microstep") × (number 1000000000 (field_at fields 2) ≡ None))
    ⊎ (IsField w 4 (codes "value") × (value (field_at fields 4) ≡ None)))

-- A row of a trace names no reaction of the program, or no port and no action.
abbrev pub NamesNone : Parts → List (List ℕ) → Wrong → Type 0
NamesNone program fields w =
    (IsField w 4 (codes "reaction") × ((r : ℕ) → IsNamed program.names (Reaction r) (field_at fields 4) → ⊥))
    ⊎ (IsField w 5 (codes "name") × ((n : Name) → IsThing program (field_at fields 5) n → ⊥))

-- Rows with this event have a name and a value.
abbrev pub takes_name : List ℕ → Bool
takes_name event = bytes_eq event (codes "read") || (bytes_eq event (codes "write") || bytes_eq event (codes "schedule"))

-- The first field of a row that has one where nothing may stand: the name or the value, of an event that takes none, if it isn't empty; and else the delay.
abbrev pub IsFilled : List (List ℕ) → Wrong → Type 0
IsFilled fields w =
    (IsField w 5 (codes "name") × (takes_name (field_at fields 0) ≡ false) × (field_at fields 5 ≢ []))
    ⊎ ((IsField w 6 (codes "value") × (takes_name (field_at fields 0) ≡ false) × (field_at fields 5 ≡ []) × (field_at fields 6 ≢ []))
    ⊎ (IsField w 7 (codes "delay") × ((takes_name (field_at fields 0) ≡ true) ⊎ ((field_at fields 5 ≡ []) × (field_at fields 6 ≡ [])))))

-- The first field of a stop that has one: its name, if it isn't empty, and else its value.
abbrev pub IsFilledThere : List (List ℕ) → Wrong → Type 0
IsFilledThere fields w = (IsField w 3 (codes "name") × (field_at fields 3 ≢ [])) ⊎ (IsField w 4 (codes "value") × (field_at fields 3 ≡ []))

-- The field of a row of a trace that a fault is about.
abbrev pub IsWrong : Parts → TraceFault → List (List ℕ) → Wrong → Type 0
IsWrong program (fault.BadEvent n) fields w = IsField w 0 (codes "event")
IsWrong program (fault.BadNumber n) fields w = IsNoNumber fields w
IsWrong program (fault.UnknownName n) fields w = NamesNone program fields w
IsWrong program (fault.FieldInPlace n) fields w = IsFilled fields w
IsWrong program e fields w = ⊥

-- The field of a record of external inputs that a fault is about.
abbrev pub IsWrongThere : TraceFault → List (List ℕ) → Wrong → Type 0
IsWrongThere (fault.BadEvent n) fields w = IsField w 0 (codes "kind")
IsWrongThere (fault.BadNumber n) fields w = IsNoNumberThere fields w
IsWrongThere (fault.UnknownName n) fields w = IsField w 3 (codes "name")
IsWrongThere (fault.FieldInPlace n) fields w = IsFilledThere fields w
IsWrongThere e fields w = ⊥

-- The record of a fault that is of one field.
abbrev pub field_line : TraceFault → Option ℕ
field_line (fault.BadEvent n) = Some n
field_line (fault.BadNumber n) = Some n
field_line (fault.UnknownName n) = Some n
field_line (fault.FieldInPlace n) = Some n
field_line e = None

-- `TABLE, line L`
abbrev pub table_line_words : List ℕ → ℕ → List ℕ
table_line_words word line = word ++ codes ", line " ++ decimal line

-- the words go on from these
abbrev pub ContinuesFrom : List ℕ → List ℕ → Type 0
ContinuesFrom start words = (rest : List ℕ) × (words ≡ start ++ rest)

-- How the words of a fault begin: with the table, and the line of its record where it is of one.
abbrev pub heading : List ℕ → TraceFault → List ℕ
heading word fault.BadHeader = table_line_words word 1
heading word (fault.BadFieldCount n) = table_line_words word n
heading word (fault.BadEvent n) = table_line_words word n
heading word (fault.BadNumber n) = table_line_words word n
heading word (fault.UnknownName n) = table_line_words word n
heading word (fault.FieldInPlace n) = table_line_words word n
heading word (fault.DuplicateExternal n) = table_line_words word n
heading word (fault.TwoStops n) = table_line_words word n
heading word fault.NoStop = word
heading word fault.TooManyRows = word
heading word fault.NotCsv = []
heading word fault.NoMemory = []

-- `TABLE, line L, field K (NAME): `
abbrev pub field_words : List ℕ → ℕ → Wrong → List ℕ
field_words word line w = table_line_words word line ++ (codes ", field " ++ decimal (w.at + 1) ++ codes " (" ++ w.name.now ++ codes "): ")

-- The words begin with a field of the record with that number of which this holds.
pub record NamesField (records : List (List (List ℕ))) (word : List ℕ) (line : ℕ) (Holds : List (List ℕ) → Wrong → Type 0) (words : List ℕ) : Type 0 where
  pub fields : List (List ℕ)
  pub has_record : HasRecord records line fields
  pub wrong : Wrong
  pub holds : Holds fields wrong
  pub begins : ContinuesFrom (field_words word line wrong) words
