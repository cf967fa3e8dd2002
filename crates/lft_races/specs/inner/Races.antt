-- Inside: races: runs that start although one that precedes them at their tag hasn't ended.
use Rattle.std.specs.Prelude.{◌≡◌, ◌↔◌, ℕ, Bool, true, List, Some, slice_get}
use Rattle.lft_tag.specs.declared.Tag.{Tag}
use Rattle.lft_ir.specs.declared.steps.row.Row.{Row}
use Rattle.lft_races.specs.Races.{IsUnfinished}

-- of each reaction whether it has a run at g that no row before place i ends
abbrev pub AreUnfinished : List Row → Tag → ℕ → List Bool → Type 0
AreUnfinished t g i marks = (a : ℕ) → (slice_get marks a ≡ Some true) ↔ IsUnfinished t g a i
