-- Where a byte of a text stands, for people.
use Rattle.std.specs.Prelude.{◌≡◌, ℕ, ◌+◌, ◌<◌, ◌≤◌, ◌⊎◌, List, length, take, slice_index, slice_range, count_by, Bool, true, not, ◌==◌}
use Rattle.lft_lists.specs.Bytes.{within, is_in_line}
use Rattle.lft_text_diagnostics.specs.declared.place.LineColumn.{LineColumn}

-- The byte is a line feed.
abbrev pub is_feed : ℕ → Bool
is_feed b = b == 10

-- A letter begins with the byte: in UTF-8, one that isn't from 128 to 191.
abbrev pub begins_letter : ℕ → Bool
begins_letter b = not (within 128 191 b)

-- The line in which i stands begins at j: no line feed stands from j up to i, and one just before j, or nothing.
pub record BeginsLine (t : List ℕ) (j i : ℕ) : Type 0 where
  pub order : j ≤ i
  pub whole : (k : ℕ) → j ≤ k → k < i → is_in_line (slice_index t k) ≡ true
  pub first : (j ≡ 0) ⊎ ((k : ℕ) × (j ≡ k + 1) × (slice_index t k ≡ 10))

-- The line in which i stands ends at j: no line feed stands from i up to j, and one at j, or nothing.
pub record EndsLineAt (t : List ℕ) (i j : ℕ) : Type 0 where
  pub order : i ≤ j
  pub within_text : j ≤ length t
  pub whole : (k : ℕ) → i ≤ k → k < j → is_in_line (slice_index t k) ≡ true
  pub last : (j ≡ length t) ⊎ (slice_index t j ≡ 10)

-- The place of i: lines count by the line feeds before it, columns by the letters that begin before it in its line.
pub record IsPlace (t : List ℕ) (i : ℕ) (place : LineColumn) : Type 0 where
  pub line : place.line ≡ count_by is_feed (take i t) + 1
  pub column : place.column ≡ count_by begins_letter (slice_range t place.start i) + 1
  pub start : BeginsLine t place.start i
  pub end : EndsLineAt t i place.end
