-- Why two texts get no plan: the fault of the first layer that refuses.
use Rattle.std.specs.Prelude.{◌≡◌, ◌≢◌, ℕ, ◌+◌, ◌≤◌, ◌<◌, List, length, take, Bool, true, false, not, ◌&&◌, nat_eq}
use Rattle.lft_syntax.specs.{declared.{token.Token.Token, fault.{LexFault.LexFault, SyntaxFault.SyntaxFault}}, Lexes.{Lexes, LexFails}, Lexeme.Lexeme}
use Rattle.lft_syntax.specs.{View.lexemes, Grammar.Spells}
use Rattle.lft_tree.specs.Tree.{FileTree}
use Rattle.lft_resolve.specs.{declared.causes.ProgramFault.ProgramFault, Causes.{number_of as program_number, IsFirst, causes}}
use Rattle.lft_ir.specs.{Parts.Parts, Steps.Inputs.ExternalInputs}
use Rattle.lft_trace.specs.{declared.fault.TraceFault.TraceFault, Faults.is_told, ExternalTables.{ExternalTable, ExternalFails}}
use Rattle.lft_tables.specs.Records.{records_of}
use Rattle.lft_graph.specs.{Loops.IsLoop, declared.fault.GraphFault.GraphFault}
use Rattle.lft_load.specs.{Faults.{lex_number, syntax_number, graph_number, table_number, IsFaultOfPart}, Meaning.{IsTreeOf, IsProgramOf}}
use Rattle.lft_load.specs.declared.fault.{Fault.Fault, Part.Part}
use Rattle.lft_syntax.specs.declared.fault.SyntaxFault.TheVariants as syntax
use Rattle.lft_resolve.specs.declared.causes.ProgramFault.TheVariants as program
use Rattle.lft_graph.specs.declared.fault.GraphFault.TheVariants as graph
use Rattle.lft_load.specs.declared.fault.Part.TheVariants as part

-- a fault of this part and number is one of a program's text, of external inputs or of a trace, but for want of memory and records that can't be read
abbrev pub is_of_text : Part → ℕ → Bool
is_of_text part.Lex n = not (nat_eq n 7)
is_of_text part.Syntax n = not (nat_eq n 2)
is_of_text part.Program n = not (nat_eq n 16)
is_of_text part.Graph n = not (nat_eq n 2)
is_of_text part.Externals n = not (nat_eq n 11) && not (nat_eq n 12)
is_of_text part.Trace n = not (nat_eq n 11) && not (nat_eq n 12)
is_of_text part.Check n = false
is_of_text part.Pool n = false
is_of_text part.Cards n = false
is_of_text part.Write n = false
is_of_text part.Read n = false
is_of_text part.Bundle n = false
is_of_text part.Memory n = false
is_of_text part.Lower n = false

-- no text whose tokens begin with the first k of these has a tree
abbrev pub SyntaxFails : List ℕ → List Token → SyntaxFault → Type 0
SyntaxFails text tokens (syntax.Unexpected k) = (0 < k) × (k ≤ length tokens + 1) × ((others : List Lexeme) (tree : FileTree) → take k others ≡ take k (lexemes text tokens) → Spells tree others → ⊥)
SyntaxFails text tokens syntax.NoMemory = Unit {0}

-- the first cause of refusal of the tree
abbrev pub ProgramFails : FileTree → ProgramFault → Type 0
ProgramFails tree e = e ≢ program.NoMemory → IsFirst (causes tree) (program_number e)

-- the program has a causality loop
abbrev pub GraphFails : Parts → GraphFault → Type 0
GraphFails program (graph.CausalityLoop loop) = IsLoop program loop
GraphFails program graph.NoMemory = Unit {0}

-- the text has no tree: it has no tokens, or its tokens have none
pub data TreeRefusal (text : List ℕ) (f : Fault) : Type 0 where
  by_lex : (e : LexFault) → f.part ≡ part.Lex → f.number ≡ lex_number e → LexFails text e → TreeRefusal text f
  by_syntax : (e : SyntaxFault) (tokens : List Token) → f.part ≡ part.Syntax → f.number ≡ syntax_number e → length text ≤ 1048576 → Lexes text tokens → SyntaxFails text tokens e → TreeRefusal text f

-- the text has no flat program: it has no tree, or the tree has none
pub data ProgramRefusal (text : List ℕ) (f : Fault) : Type 0 where
  by_tree : TreeRefusal text f → ProgramRefusal text f
  by_flat : (e : ProgramFault) (tree : FileTree) → f.part ≡ part.Program → f.number ≡ program_number e → IsTreeOf text tree → ProgramFails tree e → ProgramRefusal text f

-- the flat program has no graph: it has a loop, whose reactions the fault names if there is memory for their names, or a growth was refused
abbrev pub GraphRefusal : Parts → Fault → Type 0
GraphRefusal program f = (e : GraphFault) × IsFaultOfPart f part.Graph (graph_number e) × GraphFails program e

-- a program has no plan under external inputs: they are no table, or it has no graph
pub data PlanRefusal (program : Parts) (externals : List ℕ) (f : Fault) : Type 0 where
  by_externals : (e : TraceFault) → f.part ≡ part.Externals → f.number ≡ table_number e → (is_told e ≡ true → ExternalFails program (records_of externals) e) → PlanRefusal program externals f
  by_graph : (given : ExternalInputs) → ExternalTable program (records_of externals) given → GraphRefusal program f → PlanRefusal program externals f

-- the two texts have no plan: the program's text has no flat program, or that has no plan
pub data LoadRefusal (text externals : List ℕ) (f : Fault) : Type 0 where
  by_program : ProgramRefusal text f → LoadRefusal text externals f
  by_plan : (program : Parts) → IsProgramOf text program → PlanRefusal program externals f → LoadRefusal text externals f
