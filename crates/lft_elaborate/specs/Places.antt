-- What references mean, how many places they have, and how wide members are, told by the shapes alone.
use Rattle.std.specs.Prelude.{ℕ, ℤ, pos, negsuc, Option, Some, None}

-- ---- widths
-- a number below 0 is no width
abbrev pub natural : ℤ → Option ℕ
natural (pos n) = Some n
natural (negsuc n) = None
