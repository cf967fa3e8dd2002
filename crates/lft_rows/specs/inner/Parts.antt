-- Rows in two parts.
use Rattle.std.specs.Prelude.{◌≡◌, ℕ, ◌+◌, List, length, Some, slice_get}
use Rattle.lft_tag.specs.Tags.{Before}
use Rattle.lft_ir.specs.declared.steps.row.Row.{Row}

-- the last row of the first list is at an earlier tag than the first of the second
abbrev pub RisesBetween : List Row → List Row → Type 0
RisesBetween u v = (k : ℕ) (x y : Row) → length u ≡ k + 1 → slice_get u k ≡ Some x → slice_get v 0 ≡ Some y → Before x.tag y.tag

-- each row of the first list is at an earlier tag than each of the second
abbrev pub AreEarlier : List Row → List Row → Type 0
AreEarlier u v = (i j : ℕ) (x y : Row) → slice_get u i ≡ Some x → slice_get v j ≡ Some y → Before x.tag y.tag
