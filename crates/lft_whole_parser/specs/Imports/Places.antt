-- Where the bytes of a file stand, for people.
use Rattle.std.specs.Prelude.{◌≡◌, ℕ, ◌+◌, List, Some, IsSomeAnd, count_by, length, slice_get, slice_range, take}
use Rattle.lft_text_diagnostics.specs.Places.{BeginsLine, begins_letter, is_feed}
use Rattle.lft_syntax.specs.declared.token.Token.{Token}
use Rattle.lft_whole.specs.declared.sources.source.Spot.{Spot}

-- The line and the column of a byte: lines count by the line feeds before it, columns by the letters that begin before it in its line.
pub record IsSpotOfByte (t : List ℕ) (at : ℕ) (spot : Spot) : Type 0 where
  pub start : ℕ
  pub begins : BeginsLine t start at
  pub line : spot.line ≡ count_by is_feed (take at t) + 1
  pub column : spot.column ≡ count_by begins_letter (slice_range t start at) + 1

-- Each token has the spot of its first byte, and behind them stands that of the end of the text.
pub record AreSpots (t : List ℕ) (tokens : List Token) (spots : List Spot) : Type 0 where
  pub many : length spots ≡ length tokens + 1
  pub begin : (k : ℕ) (token : Token) → slice_get tokens k ≡ Some token → IsSomeAnd (slice_get spots k) (IsSpotOfByte t token.start)
  pub end : IsSomeAnd (slice_get spots (length tokens)) (IsSpotOfByte t (length t))
