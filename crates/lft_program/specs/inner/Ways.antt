-- Connections that form a loop or a chain, as a refusal tells them.
use Rattle.std.specs.Prelude.{◌≡◌, ◌≢◌, ℕ, ◌<◌, List, [], ◌∷◌, ◌++◌, Option, Some, slice_get, sum, option_map, option_to_list}
use Rattle.lft_tree.specs.Tree.{FileTree, reactors_of}
use Rattle.lft_resolve.specs.{declared.expansion.{joins.Site.Site, walk.Instance.Instance}, Causes.longest}
use Rattle.lft_resolve.specs.{Instances.{Inside, IsInside, Thing, stands_for, time_in}, inner.Sheets.{Single, singles_of}}
use Rattle.lft_program.specs.declared.nesting.linking.Way.{Way}

-- the single connection at the site leads from one thing to the other, and has this delay in its instance
pub record IsJoined (tree : FileTree) (instances : List Instance) (x : Site) (from to : Thing) (delay : Option ℕ) : Type 0 where
  pub path : List ℕ
  pub inside : Inside
  pub is_inside : IsInside tree path inside
  pub instance : Instance
  pub is_instance : slice_get instances x.number ≡ Some instance
  pub is_reactor : slice_get (reactors_of tree) instance.reactor ≡ Some inside.reactor
  pub single : Single
  pub is_single : slice_get (singles_of inside.reactor) x.place ≡ Some single
  pub from_source : stands_for inside.reactor path single.from ≡ Some from
  pub to_destination : stands_for inside.reactor path single.to ≡ Some to
  pub is_delay : option_map (time_in inside) single.delay ≡ delay

-- back along the single connections at these sites, one after another, one comes from the one thing to the other; their delays stand in the order of the connections
abbrev pub LeadBack : FileTree → List Instance → Thing → List Site → Thing → List ℕ → Type 0
LeadBack tree instances t [] a delays = (t ≡ a) × (delays ≡ [])
LeadBack tree instances t (x ∷ way) a delays = (from : Thing) × (delay : Option ℕ) × (first : List ℕ) × IsJoined tree instances x from t delay × LeadBack tree instances from way a first × (delays ≡ first ++ option_to_list delay)

-- connections of the program form a loop
abbrev pub IsRing : FileTree → Way → Type 0
IsRing tree w = (t : Thing) × (delays : List ℕ) × LeadBack tree w.instances.items t w.joins.items t delays × (w.joins.items ≢ [])

-- connections of the program form a chain, and their delays sum to more than the greatest time
abbrev pub IsLongChain : FileTree → Way → Type 0
IsLongChain tree w = (to : Thing) × (from : Thing) × (delays : List ℕ) × LeadBack tree w.instances.items to w.joins.items from delays × (longest < sum delays)
