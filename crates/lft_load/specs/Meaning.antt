-- What the texts of a program and of its external inputs mean.
use Rattle.std.specs.Prelude.{◌≡◌, ℕ, ◌≤◌, List, length}
use Rattle.lft_syntax.specs.{declared.token.Token.Token, Lexes.Lexes, View.lexemes, Grammar.Spells}
use Rattle.lft_tree.specs.Tree.{FileTree}
use Rattle.lft_ir.specs.Parts.{Parts}
use Rattle.lft_program.specs.Flattening.{IsFlatOf}
use Rattle.lft_graph.specs.Precedence.{HasNoLoop}
use Rattle.lft_tables.specs.Records.{records_of}
use Rattle.lft_trace.specs.ExternalTables.{ExternalTable}
use Rattle.lft_model.specs.Plans.{PlanParts}

-- x is the one thing of this kind
pub record IsOnly {X : Type 0} (P : X → Type 0) (x : X) : Type 0 where
  pub is : P x
  pub only : (y : X) → P y → y ≡ x

-- there is one thing of this kind, and so much is said of it
pub record OfOnly {X : Type 0} (P Said : X → Type 0) : Type 0 where
  pub it : X
  pub is_only : IsOnly P it
  pub said : Said it

-- the text is within its limit, and its tokens are those of the tree
pub record IsTreeOf (text : List ℕ) (tree : FileTree) : Type 0 where
  pub short : length text ≤ 1048576
  pub tokens : List Token
  pub lexed : Lexes text tokens
  pub spelled : Spells tree (lexemes text tokens)

-- the flat program of a text
pub record IsProgramOf (text : List ℕ) (program : Parts) : Type 0 where
  pub tree : FileTree
  pub is_tree : IsTreeOf text tree
  pub is_flat : IsFlatOf tree program

-- the plan of a program and a table of external inputs: no reaction precedes itself
pub record IsPlanUnder (program : Parts) (externals : List ℕ) (plan : PlanParts) : Type 0 where
  pub of_program : plan.program ≡ program
  pub no_loop : HasNoLoop program
  pub is_externals : ExternalTable program (records_of externals) plan.externals

-- the plan of a program's text and a table of external inputs
pub record IsPlanOf (text externals : List ℕ) (plan : PlanParts) : Type 0 where
  pub is_program : IsProgramOf text plan.program
  pub is_plan : IsPlanUnder plan.program externals plan
