-- The nest of a tree's instances.
use Rattle.std.specs.Prelude.{◌≡◌, ℕ, ◌≤◌, List, Any, map, length, slice_get, Some}
use Rattle.std.specs.List.{AllZip}
use Rattle.lft_tree.specs.Tree.{FileTree, ReactorTree, reactors_of, ports_of, timers_of, actions_of, reactions_of}
use Rattle.lft_resolve.specs.inner.Expansion.{Children.AreChildren, Contents.IsWalk, Numbers.{AreFirstNumbers, things}}
use Rattle.lft_resolve.specs.{declared.expansion.{numbering.Thing.Thing, walk.Instance.Instance}, Causes.HasLongTime}
use Rattle.lft_program.specs.{Located.{Located, AreLocated, Declared}, declared.nesting.{nest.{Nest.Nest, Numbering.Numbering}, tables.Tables.Tables}}

-- the instance's reactor, by number
abbrev pub IsInstanceOf : List ReactorTree → Located → Instance → Type 0
IsInstanceOf rs located instance = slice_get rs instance.reactor ≡ Some located.inside.reactor

-- how many things of a kind each reactor declares, and the numbers of the instances' first ones; there are no more than the limit
pub record IsNumbering {X : Type 0} (kind : ReactorTree → List X) (rs : List ReactorTree) (instances : List Instance) (limit : ℕ) (n : Numbering) : Type 0 where
  pub counts : n.counts.items ≡ map (λ r. length (kind r)) rs
  pub firsts : AreFirstNumbers n.counts.items instances n.firsts.items
  pub few : things n.counts.items instances ≤ limit

-- the instances of the tree by number, with their children, the values of their parameters, and the numbers of what they declare
pub record IsNest (tree : FileTree) (tables : Tables) (nest : Nest) : Type 0 where
  pub located : List Located
  pub are_located : AreLocated tree located
  pub walk : IsWalk tables.contents.items tables.main nest.instances.items
  pub paths : map (λ l. l.path) located ≡ walk.paths
  pub instances : AllZip (IsInstanceOf (reactors_of tree)) located nest.instances.items
  pub few : length nest.instances.items ≤ 10000
  pub children : AreChildren nest.instances.items nest.children
  pub values : (Any HasLongTime (reactors_of tree) → ⊥) → nest.values ≡ map (λ l. l.inside.values) located
  pub ports : IsNumbering ports_of (reactors_of tree) nest.instances.items 100000 nest.ports
  pub timers : IsNumbering timers_of (reactors_of tree) nest.instances.items 100000 nest.timers
  pub actions : IsNumbering actions_of (reactors_of tree) nest.instances.items 100000 nest.actions
  pub reactions : IsNumbering reactions_of (reactors_of tree) nest.instances.items 10000 nest.reactions

-- the thing has the instance and the place of the declaration
abbrev pub IsThingOf : {X : Type 0} → Declared X → Thing → Type 0
IsThingOf d thing = (thing.instance ≡ d.instance) × (thing.place ≡ d.place)
