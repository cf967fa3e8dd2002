-- The instances of a tree, by paths of `new` from the main reactor, and what names and connections in them mean.
use Rattle.std.specs.Prelude.{◌≡◌, ℕ, Bool, false, if◌then◌else◌, List, [], ◌∷◌, ◌++◌, Option, Some, None, map, find, position, slice_get, option_map, option_and_then, option_to_list, bytes_eq}
use Rattle.lft_tree.specs.Tree.{FileTree, ReactorTree, ParameterTree, ConnectionTree, AssignmentTree, TimeTree, Written, Named, RefTree, nanoseconds, reactors_of, instances_of, connections_of}
use Rattle.lft_resolve.specs.Expansion.Paths.{along}

-- ---- reactors

-- the test of a reactor with this name, if it has one, being called so
abbrev pub is_called : List ℕ → Option (List ℕ) → Bool
is_called name None = false
is_called name (Some other) = bytes_eq name other

-- the reactor of this name among these
abbrev pub reactor_named : List ReactorTree → List ℕ → Option ReactorTree
reactor_named reactors name = find (λ r. is_called name r.name) reactors

-- the main reactor
abbrev pub main_of : FileTree → Option ReactorTree
main_of tree = find (λ r. r.is_main) (reactors_of tree)

-- ---- instances and times

-- an instance: its reactor, and the values of its parameters in nanoseconds, in order of declaration
pub record Inside : Type 0 where
  pub reactor : ReactorTree
  pub values : List ℕ

-- the value of the parameter of this name
abbrev pub value_of : List ParameterTree → List ℕ → List ℕ → ℕ
value_of [] values name = 0
value_of (p ∷ ps) [] name = 0
value_of (p ∷ ps) (v ∷ vs) name = if bytes_eq name p.name then v else value_of ps vs name

-- a time, read with the parameters of an instance
abbrev pub time_in : Inside → TimeTree → ℕ
time_in x (Written t) = nanoseconds t
time_in x (Named name) = value_of x.reactor.parameters x.values name

-- the value that `new` gives a parameter, read in the instance that contains the new one; a parameter without one has its default
abbrev pub given_or_default : Inside → ParameterTree → Option AssignmentTree → ℕ
given_or_default outer p None = nanoseconds p.default
given_or_default outer p (Some a) = time_in outer a.value

-- the value of a parameter of an instance for which `new` gives these
abbrev pub given_in : Inside → List AssignmentTree → ParameterTree → ℕ
given_in outer given p = given_or_default outer p (find (λ a. bytes_eq p.name a.name) given)

-- the k-th instance that an instance contains (handbook)
abbrev pub entered : FileTree → Inside → ℕ → Option Inside
entered tree x k = option_and_then (λ i. option_map (λ r. record { reactor = r; values = map (given_in x i.given) r.parameters }) (reactor_named (reactors_of tree) i.reactor)) (slice_get (instances_of x.reactor) k)

-- the main instance: its parameters have their defaults
abbrev pub main_instance : ReactorTree → Inside
main_instance main = record { reactor = main; values = map (λ p. nanoseconds p.default) main.parameters }

-- the path leads to this instance
abbrev pub IsInside : FileTree → List ℕ → Inside → Type 0
IsInside tree path x = (main : ReactorTree) × (main_of tree ≡ Some main) × (along (entered tree) (main_instance main) path ≡ Some x)

-- ---- names

-- something that an instance declares under a name: the path of the instance, and the name
pub record Thing : Type 0 where
  pub path : List ℕ
  pub name : List ℕ

-- the thing of this path and name
abbrev pub thing_at : List ℕ → List ℕ → Thing
thing_at path name = record { path = path; name = name }

-- what a plain name stands for is the instance's own; what `x.y` stands for is y of the contained instance x
abbrev pub stands_inside : ReactorTree → List ℕ → List ℕ → Option (List ℕ) → Option Thing
stands_inside r path head None = Some (thing_at path head)
stands_inside r path head (Some name) = option_map (λ k. thing_at (path ++ k ∷ []) name) (position (λ i. bytes_eq head i.name) (instances_of r))

-- what a name in the reactor stands for, in the instance at the path
abbrev pub stands_for : ReactorTree → List ℕ → RefTree → Option Thing
stands_for r path ref = stands_inside r path ref.head ref.port

-- ---- connections

-- a connection of some instance joins the source to the destination with this delay, which is read in that instance
pub record Connects (tree : FileTree) (source destination : Thing) (delay : Option ℕ) : Type 0 where
  pub path : List ℕ
  pub inside : Inside
  pub is_inside : IsInside tree path inside
  pub number : ℕ
  pub connection : ConnectionTree
  pub is_connection : slice_get (connections_of inside.reactor) number ≡ Some connection
  pub place : ℕ
  pub from : RefTree
  pub to : RefTree
  pub is_from : slice_get connection.sources place ≡ Some from
  pub is_to : slice_get connection.destinations place ≡ Some to
  pub from_source : stands_for inside.reactor path from ≡ Some source
  pub to_destination : stands_for inside.reactor path to ≡ Some destination
  pub is_delay : option_map (time_in inside) connection.delay ≡ delay

-- a chain of one or more connections leads from the first to the last, with these delays in order
pub data Chain (tree : FileTree) : Thing → Thing → List ℕ → Type 0 where
  one : {a b : Thing} {delays : List ℕ} (delay : Option ℕ) → Connects tree a b delay → delays ≡ option_to_list delay → Chain tree a b delays
  more : {a b c : Thing} {delays : List ℕ} (first : List ℕ) (delay : Option ℕ) → Chain tree a b first → Connects tree b c delay → delays ≡ first ++ option_to_list delay → Chain tree a c delays
