-- The things that instances declare, numbered by instance and then by place.
use Rattle.std.specs.Prelude.{◌≡◌, ℕ, ◌+◌, ◌<◌, List, [], ◌∷◌, Some, slice_get, length, take, unwrap_or}
use Rattle.lft_resolve.specs.{Expansion.Paths.{along, IsMoreThan}, inner.Expansion.Contents.contained}
use Rattle.lft_resolve.specs.declared.expansion.walk.{Contents.Contents, Instance.Instance}

-- how many things a reactor declares
abbrev pub count_of_things : List ℕ → ℕ → ℕ
count_of_things counts r = unwrap_or (slice_get counts r) 0

-- how many things the instances have, each those that its reactor declares
abbrev pub things : List ℕ → List Instance → ℕ
things counts [] = 0
things counts (i ∷ rest) = count_of_things counts i.reactor + things counts rest

-- the number of each instance's first thing: how many things the instances before it have
pub record AreFirstNumbers (counts : List ℕ) (instances : List Instance) (firsts : List ℕ) : Type 0 where
  pub as_long : length firsts ≡ length instances
  pub each : (n first : ℕ) → slice_get firsts n ≡ Some first → first ≡ things counts (take n instances)

-- a thing by the path of its instance and its place: the path leads to a reactor that declares more things than the place
abbrev pub IsThingByPath : List Contents → ℕ → List ℕ → List ℕ × ℕ → Type 0
IsThingByPath table main counts thing = (r : ℕ) × (along (contained table) main thing.0 ≡ Some r) × (thing.1 < count_of_things counts r)

-- there are more things than the limit
abbrev pub HasMoreThings : List Contents → ℕ → List ℕ → ℕ → Type 0
HasMoreThings table main counts limit = IsMoreThan (IsThingByPath table main counts) limit
