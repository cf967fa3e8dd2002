-- Where runs start, as the rows of a trace are read.
use Rattle.std.specs.Prelude.{◌≡◌, ℕ, ◌<◌, ◌≤◌, ◌⊎◌, List, Some, slice_get}
use Rattle.lft_tag.specs.{declared.Tag.Tag, Tags.{Before, UpTo}}
use Rattle.lft_ir.specs.declared.steps.row.Row.{Row}
use Rattle.lft_races.specs.Runs.{StartsAt}

-- p is 0 or the place of a start of r before place i, and no start of r before place i stands behind it
pub record IsLastStart (t : List Row) (i r p : ℕ) : Type 0 where
  pub starts : (p ≡ 0) ⊎ ((g : Tag) × (p < i) × StartsAt t g r p)
  pub last : (j : ℕ) (g : Tag) → j < i → StartsAt t g r j → j ≤ p

-- for each reaction the place of its last start before place i
abbrev pub AreLastStarts : List Row → ℕ → List ℕ → Type 0
AreLastStarts t i places = (r p : ℕ) → slice_get places r ≡ Some p → IsLastStart t i r p

-- no row before place i is after g
abbrev pub AreRowsUpTo : List Row → ℕ → Tag → Type 0
AreRowsUpTo t i g = (j : ℕ) (x : Row) → j < i → slice_get t j ≡ Some x → UpTo x.tag g

-- each row from place i on is after g
abbrev pub AreRowsAfter : List Row → ℕ → Tag → Type 0
AreRowsAfter t i g = (j : ℕ) (x : Row) → i ≤ j → slice_get t j ≡ Some x → Before g x.tag
