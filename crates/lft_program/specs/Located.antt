-- The instances of a tree by number, and what they declare by number.
use Rattle.std.specs.Prelude.{◌≡◌, ℕ, List, map, flat_map, slice_get, Some}
use Rattle.std.specs.List.{enumerate_from}
use Rattle.lft_tree.specs.Tree.{FileTree, ReactorTree, ports_of, actions_of, timers_of}
use Rattle.lft_resolve.specs.{Expansion.Paths.{along, IsPreOrder}, Instances.{Inside, main_of, entered, main_instance, Thing, thing_at}}

-- an instance with its path
pub record Located : Type 0 where
  pub path : List ℕ
  pub inside : Inside

-- the instances of the tree: the paths that exist in pre-order, each with the instance that it leads to (handbook)
pub record AreLocated (tree : FileTree) (instances : List Located) : Type 0 where
  pub main : ReactorTree
  pub is_main : main_of tree ≡ Some main
  pub in_order : IsPreOrder (entered tree) (main_instance main) (map (λ i. i.path) instances)
  pub inside : (n : ℕ) (i : Located) → slice_get instances n ≡ Some i → along (entered tree) (main_instance main) i.path ≡ Some i.inside

-- a declaration of an instance, with the instance's number and its place among its kind there
pub record Declared (X : Type 0) : Type 0 where
  pub instance : ℕ
  pub located : Located
  pub place : ℕ
  pub item : X

-- the declarations of one kind of an instance with its number
abbrev pub declared_in : {X : Type 0} → (ReactorTree → List X) → ℕ × Located → List (Declared X)
declared_in {X} kind i = map (λ d. record { instance = i.0; located = i.1; place = d.0; item = d.1 }) (enumerate_from 0 (kind i.1.inside.reactor))

-- the declarations of one kind, by instance and then in order of declaration; each one's place here is its number
abbrev pub declared : {X : Type 0} → (ReactorTree → List X) → List Located → List (Declared X)
declared {X} kind instances = flat_map (declared_in kind) (enumerate_from 0 instances)

-- the same as things, where each has a name
abbrev pub declared_things : {X : Type 0} → (X → List ℕ) → List (Declared X) → List Thing
declared_things {X} name all = map (λ d. thing_at d.located.path (name d.item)) all

-- the ports, actions and timers of the instances as things, each at its number
abbrev pub ports_in : List Located → List Thing
ports_in instances = declared_things (λ x. x.name) (declared ports_of instances)

abbrev pub actions_in : List Located → List Thing
actions_in instances = declared_things (λ x. x.name) (declared actions_of instances)

abbrev pub timers_in : List Located → List Thing
timers_in instances = declared_things (λ x. x.name) (declared timers_of instances)
