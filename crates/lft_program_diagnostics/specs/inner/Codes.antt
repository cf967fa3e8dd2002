-- What stands in the code of a program's text.
use Rattle.std.specs.Prelude.{◌≡◌, ℕ, ◌+◌, ◌<◌, ◌≤◌, List, IsSomeAnd, length, slice_get, slice_range}
use Rattle.lft_syntax.specs.declared.token.{Token.Token, TokenKind.TheVariants.Code}

-- The word stands somewhere in these bytes.
abbrev pub StandsIn : List ℕ → List ℕ → Type 0
StandsIn bytes word = (place : ℕ) × (place < length bytes) × (slice_range bytes place (place + length word) ≡ word)

-- The token is code of the text, and the word stands somewhere in it.
pub record IsCodeWith (t word : List ℕ) (code : Token) : Type 0 where
  pub is_code : code.kind ≡ Code
  pub order : code.start ≤ code.end
  pub within : code.end ≤ length t
  pub there : StandsIn (slice_range t code.start code.end) word

-- The word stands somewhere in code.
abbrev pub HasCodeWith : List ℕ → List Token → List ℕ → Type 0
HasCodeWith t tokens word = (i : ℕ) × IsSomeAnd (slice_get tokens i) (IsCodeWith t word)
