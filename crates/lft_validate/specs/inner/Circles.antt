-- What reactors contain, for the walk from each into those. The contracts of the crate's own functions alone need this file.
use Rattle.std.specs.Prelude.{ℕ, List, [], Option, Some, None, slice_get}
use Rattle.lft_resolve.specs.declared.expansion.walk.Contents.{Contents}

-- the instances in a reactor, if there is one
abbrev pub instances_inside : Option Contents → List ℕ
instances_inside None = []
instances_inside (Some c) = c.instances.items

-- the instances in the reactor at a place
abbrev pub instances_in : List Contents → ℕ → List ℕ
instances_in table reactor = instances_inside (slice_get table reactor)
