-- Where each input of a reaction stands, by its number. This serves the look-up of inputs alone.
use Rattle.std.specs.Prelude.{◌≡◌, ℕ, ◌<◌, List, length, Option, Some, MatchOption, slice_get}
use Rattle.std.specs.{BTreeMap.{BTreeMap, get}, Ordering.nat_cmp}
use Rattle.lft_ir.specs.declared.parts.Name.{Name, TheVariants.{Port, Action}}

-- a place of n among the first i names, if it is one of them
abbrev pub PlaceTo : ℕ → List Name → Name → Option ℕ → Type 0
PlaceTo i names n o = MatchOption o ((k : ℕ) → k < i → ¬ (slice_get names k ≡ Some n)) (λ k. slice_get names k ≡ Some n)

-- the one map has the places of the ports among the first i names, the other those of the actions
pub record AreSeatsTo (i : ℕ) (names : List Name) (ports actions : BTreeMap ℕ ℕ) : Type 0 where
  pub ports_at : (p : ℕ) → PlaceTo i names (Port p) (get nat_cmp ports p)
  pub actions_at : (a : ℕ) → PlaceTo i names (Action a) (get nat_cmp actions a)

-- the same of all names
abbrev pub AreSeats : List Name → BTreeMap ℕ ℕ → BTreeMap ℕ ℕ → Type 0
AreSeats names ports actions = AreSeatsTo (length names) names ports actions
