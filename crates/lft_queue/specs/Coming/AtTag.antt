-- Rows at a tag, and rows before it.
use Rattle.std.specs.Prelude.{◌≡◌, ℕ, List, Some, slice_get}
use Rattle.lft_tag.specs.{declared.Tag.Tag, Tags.Before}
use Rattle.lft_ir.specs.declared.steps.row.Row.{Row}

-- each row is at an earlier tag than g
abbrev pub AreBefore : List Row → Tag → Type 0
AreBefore t g = (i : ℕ) (x : Row) → slice_get t i ≡ Some x → Before x.tag g

-- each row is at g
abbrev pub AreAt : List Row → Tag → Type 0
AreAt t g = (i : ℕ) (x : Row) → slice_get t i ≡ Some x → x.tag ≡ g
