-- Why a reactor is refused.
use Rattle.std.proofs.Common.{◌≡◌, ℕ, inl, inr, List, [], ◌∷◌, Some, slice_get, suc, refl}
use Rattle.std.specs.Prelude.{flat_map}
use Rattle.lft_lists.proofs.Places.{get_append_cases}

-- what is listed of all is listed of one
pub listed_of : {X Y : Type 0} (f : X → List Y) (xs : List X) (i : ℕ) (y : Y) → slice_get (flat_map f xs) i ≡ Some y → (k : ℕ) × ((x : X) × (slice_get xs k ≡ Some x) × ((j : ℕ) × (slice_get (f x) j ≡ Some y)))
listed_of f [] i y at = absurd (cc)
listed_of f (x ∷ xs) i y at = elim (get_append_cases (f x) (flat_map f xs) i y at) [
  | inl here ↦ (0, (x, refl, (i, here)))
  | inr on ↦ (let rest = listed_of f xs on.0 y on.2 in (suc rest.0, (rest.1.0, rest.1.1, rest.1.2)))
]
