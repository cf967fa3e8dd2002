-- Names that have no place. The contracts of the crate's own functions alone need this file.
use Rattle.std.specs.Prelude.{◌≡◌, ℕ, List, Option, None, Any}
use Rattle.lft_tree.specs.Tree.{ReactorTree, InstanceTree, AssignmentTree, TimeTree, Written, Named}
use Rattle.lft_resolve.specs.{Causes.GivesUnknown, Instances.reactor_named, Kinds.times_in, inner.{Places.place_in, Sheets.parameter_place, Tables.IsFile}}
use Rattle.lft_resolve.specs.declared.{file.ReactorTable.ReactorTable, index.Index.Index}

-- the name of the time has none of these places
abbrev pub LacksPlace : (List ℕ → Option ℕ) → TimeTree → Type 0
LacksPlace places (Written t) = ⊥
LacksPlace places (Named name) = places name ≡ None

-- the parameter to which a value is given isn't in the index
abbrev pub LacksName : Index → AssignmentTree → Type 0
LacksName index a = place_in index a.name ≡ None

-- a time of the reactor is the name of no parameter
abbrev pub TimeLacksPlace : ReactorTree → Type 0
TimeLacksPlace r = Any (LacksPlace (parameter_place r)) (times_in r)

-- the instances are of reactors of the file, and what they are given are parameters of those
pub record AreInstancesOf (file : ReactorTable) (instances : List InstanceTree) : Type 0 where
  pub reactors : List ReactorTree
  pub is_file : IsFile reactors file
  pub known : Any (λ i. reactor_named reactors i.reactor ≡ None) instances → ⊥
  pub named : Any (GivesUnknown reactors) instances → ⊥
