-- The number of a fault in its part.
use Rattle.std.specs.Prelude.{◌≡◌, ◌⊎◌, ℕ, List, Option, Some, None, string_bytes}
use Rattle.lft_syntax.specs.declared.fault.{LexFault.LexFault, SyntaxFault.SyntaxFault}
use Rattle.lft_graph.specs.declared.fault.GraphFault.{GraphFault}
use Rattle.lft_trace.specs.declared.fault.TraceFault.{TraceFault}
use Rattle.lft_load.specs.{Words.one_line, declared.fault.{Detail.Detail, Fault.Fault, Part.Part}}
use Rattle.lft_syntax.specs.declared.fault.LexFault.TheVariants as lex
use Rattle.lft_syntax.specs.declared.fault.SyntaxFault.TheVariants as syntax
use Rattle.lft_graph.specs.declared.fault.GraphFault.TheVariants as graph
use Rattle.lft_trace.specs.declared.fault.TraceFault.TheVariants as table
use Rattle.lft_load.specs.declared.fault.Detail.TheVariants as detail
use Rattle.lft_load.specs.declared.fault.Part.TheVariants as part

-- the number of a fault of a text that has no tokens
abbrev pub lex_number : LexFault → ℕ
lex_number (lex.BadChar at) = 1
lex_number lex.OpenComment = 2
lex_number lex.OpenCode = 3
lex_number lex.OpenString = 4
lex_number (lex.NumberTooLarge at) = 5
lex_number lex.TooLong = 6
lex_number lex.NoMemory = 7

-- the number of a fault of tokens that have no tree
abbrev pub syntax_number : SyntaxFault → ℕ
syntax_number (syntax.Unexpected token) = 1
syntax_number syntax.NoMemory = 2

-- the number of a fault of a program without a graph
abbrev pub graph_number : GraphFault → ℕ
graph_number (graph.CausalityLoop loop) = 1
graph_number graph.NoMemory = 2

-- the number of a fault of a trace table or of a table of external inputs
abbrev pub table_number : TraceFault → ℕ
table_number table.BadHeader = 1
table_number (table.BadFieldCount line) = 2
table_number (table.BadEvent line) = 3
table_number (table.BadNumber line) = 4
table_number (table.UnknownName line) = 5
table_number (table.FieldInPlace line) = 6
table_number (table.DuplicateExternal line) = 7
table_number table.NoStop = 8
table_number (table.TwoStops line) = 9
table_number table.TooManyRows = 10
table_number table.NotCsv = 11
table_number table.NoMemory = 12

-- a fault of this part and number, or of want of memory for its words
abbrev pub IsFaultOfPart : Fault → Part → ℕ → Type 0
IsFaultOfPart f p n = (f.part ≡ p) × (f.number ≡ n) ⊎ (f.part ≡ part.Memory) × (f.number ≡ 1)

-- the words that a fault tells beside its name, if it tells some
abbrev pub words_of : Detail → Option (List ℕ)
words_of (detail.Words words) = Some (string_bytes words)
words_of d = None

-- a fault of this part and number whose words are the path in one line, or of want of memory for them
abbrev pub IsFaultOfPath : Fault → Part → ℕ → List ℕ → Type 0
IsFaultOfPath f p n path =
    (f.part ≡ p) × (f.number ≡ n) × (words_of f.detail ≡ Some (one_line path))
    ⊎ (f.part ≡ part.Memory) × (f.number ≡ 1)
