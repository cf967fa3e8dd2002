-- Inside: the causes that are looked for before those of instances.
use Rattle.std.specs.Prelude.{ℕ, List, ◌∷◌, ◌++◌}
use Rattle.lft_tree.specs.Tree.{FileTree, reactors_of}
use Rattle.lft_resolve.specs.Causes.{RecursiveReactor, first_causes, later_causes}

-- the causes that are looked for in each reactor of the file, in the order in which they are answered
abbrev pub reactor_causes : FileTree → List (ℕ × Type 0)
reactor_causes tree = first_causes (reactors_of tree) ++ (5, RecursiveReactor (reactors_of tree)) ∷ later_causes (reactors_of tree)
