-- What a tree's tables, nest and links are together. The contracts of the crate's own functions alone need this file.
use Rattle.std.specs.Prelude.{List, Any}
use Rattle.lft_tree.specs.Tree.{FileTree, reactors_of}
use Rattle.lft_resolve.specs.Causes.{HasLongTime}
use Rattle.lft_program.specs.inner.{Links.AreLinks, Nests.IsNest, Tables.{AreTables, IsLawful}}
use Rattle.lft_program.specs.declared.nesting.{linking.Linked.Linked, nest.Nest.Nest, tables.Tables.Tables}

-- the tables, the nest and the links are those of the tree, of which no cause of refusal in one reactor holds and no time is too long
pub record AreOfTree (tree : FileTree) (tables : Tables) (nest : Nest) (links : List Linked) : Type 0 where
  pub are_tables : AreTables tree tables
  pub is_lawful : IsLawful tree
  pub in_time : Any HasLongTime (reactors_of tree) → ⊥
  pub is_nest : IsNest tree tables nest
  pub are_links : AreLinks tree is_nest.located links
