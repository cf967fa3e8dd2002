-- The tables of a tree.
use Rattle.std.specs.Prelude.{◌≡◌, slice_get, Some}
use Rattle.lft_tree.specs.Tree.{FileTree, ReactorTree, reactors_of}
use Rattle.lft_resolve.specs.{Causes.{NoneHolds, first_causes, later_causes}, Instances.main_of}
use Rattle.lft_resolve.specs.inner.{Numbers.AreContents, Sheets.{AreParameters, AreConnections, AreDeclarations, AreReactions}}
use Rattle.lft_program.specs.declared.nesting.tables.Tables.{Tables}

-- the tables are those of the tree's reactors, and the number is that of its main one
pub record AreTables (tree : FileTree) (tables : Tables) : Type 0 where
  pub main : ReactorTree
  pub is_main : main_of tree ≡ Some main
  pub main_number : slice_get (reactors_of tree) tables.main ≡ Some main
  pub contents : AreContents (reactors_of tree) tables.contents.items
  pub parameters : AreParameters (reactors_of tree) tables.parameters.items
  pub connections : AreConnections (reactors_of tree) tables.connections.items
  pub declarations : AreDeclarations (reactors_of tree) tables.declarations.items
  pub reactions : AreReactions (reactors_of tree) tables.reactions.items

-- none of the causes that are looked for in each reactor alone holds of the tree
pub record IsLawful (tree : FileTree) : Type 0 where
  pub first : NoneHolds (first_causes (reactors_of tree))
  pub later : NoneHolds (later_causes (reactors_of tree))
