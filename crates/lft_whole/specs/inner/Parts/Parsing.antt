-- What the parser has of the grammar: the text with its tokens, and what it answers.
use Rattle.std.specs.Prelude.{ℕ, ◌<◌, ◌≤◌, length}
use Rattle.lft_tree.specs.Identifiers.{IsIdentifier}
use Rattle.lft_syntax.specs.{declared.input.Seen.Seen, inner.Seen.{seen_as, OfLetters}}
use Rattle.lft_whole.specs.{declared.{parts.lexed.LexedText.LexedText, fault.TreeFault.TreeFault}, Parts.Lexeme.Source, Places.IsAmong}

-- the text with its tokens, as the grammar sees it
abbrev pub source : LexedText → Source
source input = record { text = input.text.now; tokens = input.tokens.now }

-- how many tokens there are
abbrev pub count : LexedText → ℕ
count input = length input.tokens.now

-- the place is one of a token, or the end
abbrev pub Within : LexedText → ℕ → Type 0
Within input at = at ≤ count input

-- a place further on, which is one of a token, or the end
abbrev pub Further : LexedText → ℕ → ℕ → Type 0
Further input at next = (at < next) × (next ≤ count input)

-- the same place or one further on
abbrev pub NotBefore : LexedText → ℕ → ℕ → Type 0
NotBefore input at next = (at ≤ next) × (next ≤ count input)

-- the fault is of a token
abbrev pub Refuses : LexedText → TreeFault → Type 0
Refuses input fault = IsAmong input.tokens.now fault

-- letters are an identifier
abbrev pub AreLetters : Seen → Type 0
AreLetters s = OfLetters IsIdentifier (seen_as s)
