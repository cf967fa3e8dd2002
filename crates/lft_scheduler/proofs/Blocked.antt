-- Which reactions are blocked, from the short lists.
use Rattle.std.specs.Prelude.{◌≡◌, ◌↔◌, ◌⊎◌, ℕ, List, Some, slice_get, Contains}
use Rattle.lft_scheduler.specs.{declared.turn.phase.Phase.{Phase, TheVariants.Waiting}, inner.Turns.IsPhasePending}

-- a is pending or blocked
abbrev pub IsBusy : List Phase → (ℕ → Type 0) → ℕ → Type 0
IsBusy phases IsBlocked a = IsPhasePending phases a ⊎ IsBlocked a

-- a reaction is blocked where one in its short list is pending or blocked, and only there
abbrev pub SpreadsAlong : List (List ℕ) → List Phase → (ℕ → Type 0) → Type 0
SpreadsAlong before phases IsBlocked = (r : ℕ) (list : List ℕ) → slice_get before r ≡ Some list → IsBlocked r ↔ ((b : ℕ) × Contains list b × IsBusy phases IsBlocked b)

-- r is waiting and not blocked
abbrev pub IsFree : List Phase → (ℕ → Type 0) → ℕ → Type 0
IsFree phases IsBlocked r = (slice_get phases r ≡ Some Waiting) × (¬ IsBlocked r)
