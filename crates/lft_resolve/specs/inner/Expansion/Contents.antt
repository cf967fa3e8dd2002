-- What reactors contain, by number, and the instances as a list.
use Rattle.std.specs.Prelude.{◌≡◌, ℕ, ◌<◌, List, [], ◌∷◌, ◌++◌, Option, Some, slice_get, length}
use Rattle.std.specs.Option.{option_and_then}
use Rattle.lft_resolve.specs.{Expansion.Paths.{along, IsPreOrder}, declared.expansion.walk.{Contents.Contents, Instance.Instance}}

-- the reactor of the k-th instance that a reactor contains
abbrev pub contained : List Contents → ℕ → ℕ → Option ℕ
contained table r k = option_and_then (λ c. slice_get c.instances.items k) (slice_get table r)

-- the n-th instance is the one at the path: its reactor is what the path leads to, the first has no step, and the path of a later one is that of its parent, an earlier instance, and its place there
pub record IsInstanceAtPath (table : List Contents) (main : ℕ) (paths : List (List ℕ)) (n : ℕ) (made : Instance) (path : List ℕ) : Type 0 where
  pub leads : along (contained table) main path ≡ Some made.reactor
  pub first : n ≡ 0 → path ≡ []
  pub later : 0 < n → (above : List ℕ) × (made.parent < n) × (slice_get paths made.parent ≡ Some above) × (above ++ made.place ∷ [] ≡ path)

-- the instances are those of the paths in pre-order
pub record IsWalk (table : List Contents) (main : ℕ) (made : List Instance) : Type 0 where
  pub paths : List (List ℕ)
  pub in_order : IsPreOrder (contained table) main paths
  pub as_long : length made ≡ length paths
  pub each : (n : ℕ) (m : Instance) (p : List ℕ) → slice_get made n ≡ Some m → slice_get paths n ≡ Some p → IsInstanceAtPath table main paths n m p

-- the instances are those of some main reactor, as a walk makes them
abbrev pub AreWalked : List Instance → Type 0
AreWalked made = (table : List Contents) × (main : ℕ) × IsWalk table main made
