-- The instances that each instance contains.
use Rattle.std.specs.Prelude.{◌≡◌, ℕ, ◌<◌, ◌↔◌, List, Option, Some, slice_get}
use Rattle.std.specs.Option.{option_and_then}
use Rattle.lft_resolve.specs.declared.expansion.walk.Instance.{Instance}

-- instance m is the one at this place of instance n
abbrev pub IsChild : List Instance → ℕ → ℕ → ℕ → Type 0
IsChild instances n place m = (i : Instance) × (slice_get instances m ≡ Some i) × (0 < m) × (i.parent ≡ n) × (i.place ≡ place)

-- the number in row n at this place, if there is one
abbrev pub child_of : List (List ℕ) → ℕ → ℕ → Option ℕ
child_of rows n place = option_and_then (λ row. slice_get row place) (slice_get rows n)

-- each row has the numbers of the instances that the instance of its number contains, by place
abbrev pub AreChildren : List Instance → List (List ℕ) → Type 0
AreChildren instances rows = (n place m : ℕ) → (child_of rows n place ≡ Some m) ↔ IsChild instances n place m
