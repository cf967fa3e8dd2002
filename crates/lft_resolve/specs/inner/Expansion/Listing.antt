-- The things of one kind, each at its number.
use Rattle.std.specs.Prelude.{◌≡◌, ℕ, ◌+◌, ◌<◌, List, Some, slice_get, length, take}
use Rattle.lft_resolve.specs.{inner.Expansion.Numbers.{count_of_things, things}, declared.expansion.{walk.Instance.Instance, numbering.Thing.Thing}}

-- as many as the instances have; the one at a place of instance n stands behind those of the instances before, by its place
pub record AreThingsListed (counts : List ℕ) (instances : List Instance) (all : List Thing) : Type 0 where
  pub as_long : length all ≡ things counts instances
  pub each : (n place : ℕ) (i : Instance) → slice_get instances n ≡ Some i → place < count_of_things counts i.reactor → slice_get all (things counts (take n instances) + place) ≡ Some (record { instance = n; place = place })
