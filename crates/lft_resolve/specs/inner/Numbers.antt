-- Reactors by number, counted from 0 in the order of the file.
use Rattle.std.specs.Prelude.{◌≡◌, ℕ, ◌+◌, List, [], ◌∷◌, Some, slice_get, is_some, if◌then◌else◌}
use Rattle.std.specs.List.{AllZip}
use Rattle.lft_tree.specs.Tree.{ReactorTree, InstanceTree, instances_of}
use Rattle.lft_resolve.specs.{declared.expansion.walk.Contents.Contents, Instances.reactor_named}

-- the instance is one of the reactor of this number
abbrev pub IsReactorNumberOf : List ReactorTree → InstanceTree → ℕ → Type 0
IsReactorNumberOf reactors i n = (r : ReactorTree) × (reactor_named reactors i.reactor ≡ Some r) × (slice_get reactors n ≡ Some r)

-- what the reactor contains, by number
abbrev pub IsContents : List ReactorTree → ReactorTree → Contents → Type 0
IsContents reactors r contents = AllZip (IsReactorNumberOf reactors) (instances_of r) contents.instances.items

-- what each reactor contains, in order
abbrev pub AreContents : List ReactorTree → List Contents → Type 0
AreContents reactors table = AllZip (IsContents reactors) reactors table

-- the numbers of the reactors that have a name, from this one on
abbrev pub numbers_of : ℕ → List ReactorTree → List ℕ
numbers_of n [] = []
numbers_of n (r ∷ rs) = if is_some r.name then n ∷ numbers_of (n + 1) rs else numbers_of (n + 1) rs
