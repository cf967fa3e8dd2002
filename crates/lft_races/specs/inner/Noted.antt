-- What is known of the rows of a tag while they are gone through. The contracts of private functions alone need this file.
use Rattle.std.specs.Prelude.{◌≡◌, ◌↔◌, ℕ, ◌+◌, ◌<◌, ◌≤◌, ◌⊎◌, List, Option, MatchOption, Some, slice_get}
use Rattle.lft_tag.specs.declared.Tag.{Tag}
use Rattle.lft_ir.specs.{Parts.Parts, declared.steps.row.Row.Row}
use Rattle.lft_graph.specs.Sets.{Has}
use Rattle.lft_rows.specs.declared.slices.Slice.{Slice}
use Rattle.lft_model.specs.Runs.{Ran}
use Rattle.lft_races.specs.{Runs.{StartsAt, EndsAt}, Races.{NotEnded, IsUnfinished, IsRace}}

-- no row from place n on is at the tag of one before it
abbrev pub IsNew : List Row → ℕ → Type 0
IsNew t n = (j i : ℕ) (x y : Row) → j < n → n ≤ i → slice_get t j ≡ Some x → slice_get t i ≡ Some y → ¬ (x.tag ≡ y.tag)

-- each row is of a reaction below the number
abbrev pub AreBelow : List Row → ℕ → Type 0
AreBelow t n = (i : ℕ) (row : Row) → slice_get t i ≡ Some row → row.reaction < n

-- each end is of a run that starts
abbrev pub EndRuns : List Row → Type 0
EndRuns t = (j a : ℕ) (g : Tag) → EndsAt t g a j → Ran t g a

-- none of the numbers is above the place
abbrev pub AreUpTo : List ℕ → ℕ → Type 0
AreUpTo ends n = (a x : ℕ) → slice_get ends a ≡ Some x → x ≤ n

-- of the rows of the slice before a place: the number is the place past the first that ends a run of a, or none of the slice where none does
abbrev pub IsNoted : List Row → Slice → ℕ → ℕ → ℕ → Type 0
IsNoted t s place a x = ((x ≤ s.first) × NotEnded t s.tag a place) ⊎ ((i : ℕ) × (i + 1 ≡ x) × (s.first ≤ i) × (i < place) × EndsAt t s.tag a i × NotEnded t s.tag a i)

-- the same of each reaction
abbrev pub AreNoted : List Row → Slice → ℕ → List ℕ → Type 0
AreNoted t s place ends = (a x : ℕ) → slice_get ends a ≡ Some x → IsNoted t s place a x

-- the set has just the reactions with a run at g that no row before place i ends
abbrev pub HasUnfinished : List Row → Tag → ℕ → List ℕ → Type 0
HasUnfinished t g i set = (a : ℕ) → Has set a ↔ IsUnfinished t g a i

-- the set has just the reactions that start at the tag of the slice in a row before the place, and end there in no row of it
abbrev pub HasOpenReactions : List Row → Slice → ℕ → List ℕ → Type 0
HasOpenReactions t s place set = (a : ℕ) → Has set a ↔ (((k : ℕ) × (k < place) × StartsAt t s.tag a k) × NotEnded t s.tag a s.end)

-- the first race at the places from low on below high, if there is one
abbrev pub IsFirstIn : Parts → List Row → ℕ → ℕ → Option ℕ → Type 0
IsFirstIn program t low high o = MatchOption o ((i : ℕ) → low ≤ i → i < high → ¬ IsRace program t i) (λ i. IsRace program t i × (low ≤ i) × (i < high) × ((j : ℕ) → low ≤ j → j < high → IsRace program t j → i ≤ j))
