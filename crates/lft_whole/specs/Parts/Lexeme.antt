-- What stands at a place of a whole text.
use Rattle.std.specs.Prelude.{ℕ, List, slice_get, Bool, true, false, Option, Some, None, option_map}
use Rattle.lft_syntax.specs.{declared.token.Token.Token, Lexeme.{Lexeme, Letters}, View.lexeme_of}

-- a text with its tokens
pub record Source : Type 0 where
  pub text : List ℕ
  pub tokens : List Token

-- what stands at a place; at the end nothing does
unfoldable pub see : Source → ℕ → Option Lexeme
see s at = option_map (lexeme_of s.text) (slice_get s.tokens at)

-- the letters of a word
abbrev pub letters_in : Lexeme → Option (List ℕ)
letters_in (Letters word) = Some word
letters_in _ = None

-- it is a word, reserved or not
abbrev pub is_word : Option Lexeme → Bool
is_word (Some (Letters _)) = true
is_word _ = false
