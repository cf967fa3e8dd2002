-- Inside: the rows at a tag, the number of runs, and the tags that have one.
use Rattle.std.specs.Prelude.{◌≡◌, ℕ, ◌<◌, ◌≤◌, List, length, Some, slice_get}
use Rattle.lft_tag.specs.Tags.{UpTo}
use Rattle.lft_ir.specs.declared.steps.row.Row.{Row}
use Rattle.lft_rows.specs.declared.slices.Slice.{Slice}

-- tags never fall from row to row
abbrev pub Rises : List Row → Type 0
Rises t = (i j : ℕ) (x y : Row) → i < j → slice_get t i ≡ Some x → slice_get t j ≡ Some y → UpTo x.tag y.tag

-- the rows from the first place up to the end are just those at the tag
pub record IsSlice (t : List Row) (s : Slice) : Type 0 where
  pub some : s.first < s.end
  pub within : s.end ≤ length t
  pub at_tag : (i : ℕ) (row : Row) → slice_get t i ≡ Some row → s.first ≤ i → i < s.end → row.tag ≡ s.tag
  pub all : (i : ℕ) (row : Row) → slice_get t i ≡ Some row → row.tag ≡ s.tag → (s.first ≤ i) × (i < s.end)
