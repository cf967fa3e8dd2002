-- What contracts see of the tokens of a text.
use Rattle.std.specs.Prelude.{ℕ, List, map, slice_range}
use Rattle.lft_syntax.specs.declared.token.{Token.Token, TokenKind.TokenKind}
use Rattle.lft_syntax.specs.Lexeme.{Lexeme, Code, Text, Letters, Number, Decimal, Arrow, TildeArrow, Symbol}
use Rattle.lft_syntax.specs.declared.token.TokenKind.TheVariants as kinds

abbrev pub lexeme_from : TokenKind → List ℕ → Lexeme
lexeme_from kinds.Code bytes = Code
lexeme_from kinds.Text bytes = Text
lexeme_from kinds.Name bytes = Letters bytes
lexeme_from (kinds.Number n) bytes = Number n
lexeme_from kinds.Decimal bytes = Decimal
lexeme_from kinds.Arrow bytes = Arrow
lexeme_from kinds.TildeArrow bytes = TildeArrow
lexeme_from (kinds.Symbol b) bytes = Symbol b

-- what a token of the text is to the grammar
abbrev pub lexeme_of : List ℕ → Token → Lexeme
lexeme_of text token = lexeme_from token.kind (slice_range text token.start token.end)

-- the tokens of a text, as the grammar sees them
unfoldable pub lexemes : List ℕ → List Token → List Lexeme
lexemes text tokens = map (lexeme_of text) tokens
