-- Lists by number.
use Rattle.std.specs.Prelude.{ℕ, List, [], slice_get, unwrap_or}

-- The list of a number, empty past the last one.
abbrev pub list_at : List (List ℕ) → ℕ → List ℕ
list_at lists n = unwrap_or (slice_get lists n) []
