-- The tables of the names of a file's reactors. The contracts of the crate's own functions alone need this file.
use Rattle.std.specs.Prelude.{◌≡◌, List}
use Rattle.std.specs.Borrow.{Bor}
use Rattle.lft_tree.specs.{Tree.{FileTree, reactors_of}, declared.tree.Reactor.Reactor}
use Rattle.lft_resolve.specs.{inner.{References.reactor_trees, Tables.IsFile}, declared.file.ReactorTable.ReactorTable}

-- the reactors are those of the tree, and the tables theirs
pub record AreScopesOfTree (tree : FileTree) (items : List (Bor Reactor)) (table : ReactorTable) : Type 0 where
  pub reactors : reactor_trees items ≡ reactors_of tree
  pub file : IsFile (reactors_of tree) table
