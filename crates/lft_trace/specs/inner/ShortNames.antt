-- Names that are kept where they aren't long.
use Rattle.std.specs.Prelude.{◌≡◌, ◌<◌, ℕ, List, Some, slice_get, take}
use Rattle.lft_trace.specs.declared.short_name.ShortName.{ShortName}

-- each name that is kept is the text of the same number
abbrev pub AreShort : List (List ℕ) → List ShortName → Type 0
AreShort texts names = (n : ℕ) (short : ShortName) → slice_get names n ≡ Some short → 0 < short.len → slice_get texts n ≡ Some (take short.len short.bytes)
