-- The roles in the order in which they stand in a member.
use Rattle.std.proofs.Common.{◌≡◌, ℕ, ◌<◌, List, [], ◌∷◌, Some, get_or, slice_get, refl, sym, ap, subst, ◌∙◌, arith}
use Rattle.std.proofs.lemmas.Option.{get_or_from_slice_get}
use Rattle.lft_resolve.specs.declared.kinds.Role.{Role, TheVariants.{Read, Effect, Source, Destination}}

abbrev pub roles : List Role
roles = Read ∷ Effect ∷ Source ∷ Destination ∷ []

abbrev pub place_of_role : Role → ℕ
place_of_role Read = 0
place_of_role Effect = 1
place_of_role Source = 2
place_of_role Destination = 3

pub place_within : (role : Role) → place_of_role role < 4
place_within Read = omega arith
place_within Effect = omega arith
place_within Source = omega arith
place_within Destination = omega arith

pub role_there : (role : Role) → slice_get roles (place_of_role role) ≡ Some role
role_there Read = refl
role_there Effect = refl
role_there Source = refl
role_there Destination = refl

-- what the role of this turn hasn't
pub last : (P : Role → Type 0) (k i : ℕ) (role : Role) → k ≡ i → slice_get roles k ≡ Some role → (P (get_or roles i Read) → ⊥) → P role → ⊥
last P k i role e at none p =
    let same : get_or roles i Read ≡ role = ap (λ n. get_or roles n Read) (sym e) ∙ get_or_from_slice_get roles k role Read at in
    none (subst P (sym same) p)
