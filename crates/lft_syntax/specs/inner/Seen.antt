-- What the parser sees of a token.
use Rattle.std.specs.Prelude.{ℕ, List, Option, Some, None, IsAscii}
use Rattle.lft_syntax.specs.{declared.input.Seen.Seen, Lexeme.{Lexeme, Code, Text, Letters, Number, Decimal, Arrow, TildeArrow, Symbol}}
use Rattle.lft_syntax.specs.declared.input.Seen.TheVariants as seen

-- the token as the grammar has it: its kind, its letters or number or sign
abbrev pub seen_as : Seen → Lexeme
seen_as seen.Code = Code
seen_as seen.Text = Text
seen_as (seen.Letters bytes) = Letters bytes.now
seen_as (seen.Number n) = Number n
seen_as seen.Decimal = Decimal
seen_as seen.Arrow = Arrow
seen_as seen.TildeArrow = TildeArrow
seen_as (seen.Symbol b) = Symbol b

-- its letters, if it has some, are such
abbrev pub OfLetters : (List ℕ → Type 0) → Lexeme → Type 0
OfLetters P (Letters bytes) = P bytes
OfLetters P _ = Unit {0}

-- letters are ASCII
abbrev pub letters_ascii : Seen → Type 0
letters_ascii s = OfLetters IsAscii (seen_as s)

-- the token that stands there, if there is one, as the grammar has it
abbrev pub seen_there : Option Seen → Option Lexeme
seen_there None = None
seen_there (Some s) = Some (seen_as s)
