-- The lines of a log: rows and external inputs, below the header of a trace table that comes in pieces.
use Rattle.std.specs.Prelude.{◌≡◌, ◌≢◌, ◌⊎◌, ◌+◌, ℕ, List, ◌++◌, ◌∷◌, ◌<◌, length, codes, filter_map, Option, None, Some, slice_get, []}
use Rattle.std.specs.List.{AllZip}
use Rattle.csv.specs.Reading.{default_config, records}
use Rattle.memchr.specs.Find.{OccursAt, is_byte, places}
use Rattle.lft_tag.specs.declared.Tag.{Tag}
use Rattle.lft_ir.specs.{Parts.Parts, declared.steps.row.Row.Row as TheRow}
use Rattle.lft_trace.specs.LogTables.{IsLine, row_of}
use Rattle.lft_trace.specs.declared.{external_table.Entry.{Entry, TheVariants.{Happens, Stops}}, log_table.Line.{Line, TheVariants.{Row, Input}}}
use Rattle.lft_tables.specs.Parts.{EndsLine, HasNoQuote}
use Rattle.lft_monitor.specs.Follows.{IsPassed}
use Rattle.lft_log.specs.declared.fault.LogFault.{LogFault, TheVariants.{NotPlain, NotPlainInput, SecondHeader}}

-- the words of the header
abbrev pub header_words : List ℕ
header_words = codes "event,worker,time,microstep,reaction,name,value,delay"

-- a byte order mark
abbrev pub mark : List ℕ
mark = 239 ∷ 187 ∷ 191 ∷ []

-- the text is the header's words and a rest behind them, with a byte order mark before them or without
abbrev pub IsHeaderThen : List ℕ → List ℕ → Type 0
IsHeaderThen rest text = (text ≡ header_words ++ rest) ⊎ (text ≡ mark ++ (header_words ++ rest))

-- the line is the header; a carriage return may stand before its end
abbrev pub IsHead : List ℕ → Type 0
IsHead line = IsHeaderThen (10 ∷ []) line ⊎ IsHeaderThen (13 ∷ 10 ∷ []) line

-- the text is whole lines, or nothing
abbrev pub AreLines : List ℕ → Type 0
AreLines text = (text ≡ []) ⊎ EndsLine text

-- no line ends in the text
abbrev pub HasNoEnd : List ℕ → Type 0
HasNoEnd text = (i : ℕ) → slice_get text i ≢ Some 10

-- each carriage return stands before a line feed
abbrev pub ReturnsEnd : List ℕ → Type 0
ReturnsEnd text = (i : ℕ) → slice_get text i ≡ Some 13 → slice_get text (i + 1) ≡ Some 10

-- the text is plain: it has no quotation mark, no carriage return that doesn't end a line, and no line with the header's words
pub record ArePlain (text : List ℕ) : Type 0 where
  pub unquoted : HasNoQuote text
  pub returns : ReturnsEnd text
  pub headless : (i : ℕ) → ¬ OccursAt text header_words i

-- the header's words stand in the line
abbrev pub HasHeaderWords : List ℕ → Type 0
HasHeaderWords line = (i : ℕ) × OccursAt line header_words i

-- the text is one line, with its end
abbrev pub IsOneLine : List ℕ → Type 0
IsOneLine text = (line : List ℕ) × (text ≡ line ++ 10 ∷ []) × HasNoEnd line

-- the text begins with a line of which this is so
abbrev pub BeginsWithLine : (List ℕ → Type 0) → List ℕ → Type 0
BeginsWithLine P text = (line : List ℕ) × (rest : List ℕ) × (text ≡ line ++ rest) × IsOneLine line × P line

-- more than 1,048,576 bytes of one line begin the text
abbrev pub BeginsLong : List ℕ → Type 0
BeginsLong text = (line : List ℕ) × (rest : List ℕ) × (text ≡ line ++ rest) × HasNoEnd line × (1048576 < length line)

-- how many fields the line has: they stand between commas
abbrev pub fields : List ℕ → ℕ
fields line = length (places (is_byte 44) line) + 1

-- the line begins with the word
abbrev pub LineBeginsWith : List ℕ → List ℕ → Type 0
LineBeginsWith word line = (rest : List ℕ) × (line ≡ word ++ rest)

-- the line ends with the word
abbrev pub LineEndsWith : List ℕ → List ℕ → Type 0
LineEndsWith word line = (front : List ℕ) × (line ≡ front ++ word)

-- the line begins with the word of an external input, and has the fields of one
abbrev pub IsOfInput : List ℕ → Type 0
IsOfInput line = (LineBeginsWith (codes "event,") line ⊎ LineBeginsWith (codes "stop,") line) × (fields line ≡ 5)

-- the line has the fields of a row, of which the last is empty, and isn't that of a `schedule`, whose last field may be longer
abbrev pub IsWholeRow : List ℕ → Type 0
IsWholeRow line = (fields line ≡ 8) × LineEndsWith (codes ",") line × ¬ LineBeginsWith (codes "schedule,") line

-- the line has the fields of a stop, of which the last two are empty
abbrev pub IsWholeStop : List ℕ → Type 0
IsWholeStop line = (fields line ≡ 5) × LineEndsWith (codes ",,") line × LineBeginsWith (codes "stop,") line

-- nothing can be missing of the line but its line feed: it is the header, or a row or a stop whose last fields are empty
abbrev pub IsWholeLine : List ℕ → Type 0
IsWholeLine line = IsHead (line ++ 10 ∷ []) ⊎ IsWholeRow line ⊎ IsWholeStop line

-- the bytes are whole lines and a last one without its end, which may be nothing
pub record HasLast (bytes last : List ℕ) : Type 0 where
  pub lines : List ℕ
  pub parts : bytes ≡ lines ++ last
  pub are : AreLines lines
  pub open_line : HasNoEnd last

-- the last line counts, as if it had its end: nothing else can be missing of it
abbrev pub LastCounts : List ℕ → Type 0
LastCounts bytes = (last : List ℕ) × HasLast bytes last × IsWholeLine last

-- the last line counts for nothing, or there is none
abbrev pub LastIsLeft : List ℕ → Type 0
LastIsLeft bytes = (last : List ℕ) × HasLast bytes last × ¬ IsWholeLine last

-- the rows among lines, in their order
abbrev pub rows : List Line → List TheRow
rows lines = filter_map row_of lines

-- the external input of a line, if it is one
abbrev pub entry_of_line : Line → Option Entry
entry_of_line (Row row) = None
entry_of_line (Input entry) = Some entry

-- the external inputs among lines, in their order
abbrev pub inputs : List Line → List Entry
inputs lines = filter_map entry_of_line lines

-- the tag of an event or a stop
abbrev pub tag_of_entry : Entry → Tag
tag_of_entry (Happens e) = e.tag
tag_of_entry (Stops g) = g

-- behind these rows, no external input among the lines stands behind a row at a later tag
abbrev pub AreTimely : List TheRow → List Line → Type 0
AreTimely t [] = Unit {0}
AreTimely t (Row row ∷ lines) = AreTimely (t ++ row ∷ []) lines
AreTimely t (Input entry ∷ lines) = ¬ IsPassed t (tag_of_entry entry) × AreTimely t lines

-- the records of a text that stands below others: no byte order mark is taken off
abbrev pub records_below : List ℕ → List (List (List ℕ))
records_below text = records default_config text

-- the bytes are the header's line, whole lines that are plain, and a rest; the records of the whole lines are those of the log's lines, one by one, and others
pub record HoldSoFar (program : Parts) (bytes : List ℕ) (lines : List Line) (others : List (List (List ℕ))) (rest : List ℕ) : Type 0 where
  pub head : List ℕ
  pub body : List ℕ
  pub whole : bytes ≡ head ++ (body ++ rest)
  pub is_head : IsHead head
  pub are : AreLines body
  pub plain : ArePlain body
  pub first : List (List (List ℕ))
  pub under : records_below body ≡ first ++ others
  pub each : AllZip (IsLine program) first lines

-- the first lines of the bytes have more rows than a table may have
abbrev pub HasManyRows : Parts → List ℕ → Type 0
HasManyRows program bytes = (lines : List Line) × (others : List (List (List ℕ))) × (rest : List ℕ) × HoldSoFar program bytes lines others rest × (4000000 < length (rows lines))

-- the first of the records is one of which this is so
abbrev pub BeginsWithRecord : (List (List ℕ) → Type 0) → List (List (List ℕ)) → Type 0
BeginsWithRecord P records = (next : List (List ℕ)) × (more : List (List (List ℕ))) × (records ≡ next ∷ more) × P next

-- the fault is of a line that isn't plain, which has this number among rows, or that among external inputs
abbrev pub IsOddLine : ℕ → ℕ → LogFault → List ℕ → Type 0
IsOddLine row input (SecondHeader n) line = (n ≡ row) × HasHeaderWords line
IsOddLine row input (NotPlainInput n) line = (n ≡ input) × ¬ ArePlain line × ¬ HasHeaderWords line × IsOfInput line
IsOddLine row input (NotPlain n) line = (n ≡ row) × ¬ ArePlain line × ¬ HasHeaderWords line × ¬ IsOfInput line
IsOddLine row input f line = ⊥
