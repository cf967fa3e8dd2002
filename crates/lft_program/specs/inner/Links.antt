-- Inside: how ports are reached.
use Rattle.std.specs.Prelude.{◌≡◌, ℕ, List, ◌∷◌, Some, map, length, slice_get, []}
use Rattle.lft_tree.specs.Tree.{FileTree}
use Rattle.lft_tag.specs.Shifts.{join_all, none}
use Rattle.lft_resolve.specs.{inner.Expansion.Sources.ChainOrigin, Causes.{ConnectionCycle, DelayTooLong}, Instances.Thing}
use Rattle.lft_program.specs.{Links.IsSource, Located.{Located, ports_in}, declared.nesting.linking.Linked.Linked}

-- one for each port of the instances: its source, the end of its chain of connections walked backwards, and the delays of the chain folded
pub record AreLinks (tree : FileTree) (instances : List Located) (links : List Linked) : Type 0 where
  pub as_long : length links ≡ length (ports_in instances)
  pub sources : (p : ℕ) (t : Thing) (l : Linked) → slice_get (ports_in instances) p ≡ Some t → slice_get links p ≡ Some l → IsSource tree (ports_in instances) t l.source
  pub origins : (p : ℕ) (l : Linked) → slice_get links p ≡ Some l → (delays : List ℕ) × ChainOrigin (map (λ k. k.source) links) p l.origin delays × (join_all none delays ≡ (l.shift.time, l.shift.steps))

-- the causes that are looked for in the connections of all instances, in the order in which they are answered
abbrev pub last_causes : FileTree → List (ℕ × Type 0)
last_causes tree = (10, ConnectionCycle tree) ∷ (14, DelayTooLong tree) ∷ []
