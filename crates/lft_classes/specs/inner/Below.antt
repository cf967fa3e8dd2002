-- The reactors that the main one needs.
use Rattle.std.specs.Prelude.{◌≡◌, ℕ, Option, Some, slice_get}
use Rattle.std.specs.Option.{option_and_then}
use Rattle.lft_classes.specs.{declared.scopes.ReactorNames.ReactorNames, inner.{Built.{instance_of, members_at}, Chains.base_of}}

-- the number of the reactor of which the member of this number is an instance, among those that a reactor declares
abbrev pub instance_at : ReactorNames → ℕ → ℕ → Option ℕ
instance_at scopes r k = option_and_then (instance_of scopes) (slice_get (members_at scopes r) k)

-- the first reactor contains the other, or extends it, at any depth
pub data IsBelow (scopes : ReactorNames) (first : ℕ) : ℕ → Type 0 where
  itself : IsBelow scopes first first
  base : {r s : ℕ} (k : ℕ) → IsBelow scopes first r → base_of scopes r k ≡ Some s → IsBelow scopes first s
  inner : {r s : ℕ} (k : ℕ) → IsBelow scopes first r → instance_at scopes r k ≡ Some s → IsBelow scopes first s
