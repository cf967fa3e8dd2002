-- Why a program's text has no tree.
use Rattle.std.specs.Prelude.{◌≡◌, ℕ, ◌+◌, ◌-◌, ◌<◌, List, length, take, slice_get, Some}
use Rattle.lft_tree.specs.Tree.{FileTree}
use Rattle.lft_syntax.specs.{declared.token.Token.Token, Lexes.{Lexes, LexFails, IsRefusedAt}, Lexeme.Lexeme, Grammar.Spells, View.lexemes}
use Rattle.lft_text_diagnostics.specs.declared.refusal.{TextCause.{TextCause, TheVariants.{Lex, Token as AtToken, End}}, TextRefusal.TextRefusal}

-- These are the tokens of the text, and no tree begins with so many of them.
pub record HasNoTree (t : List ℕ) (tokens : List Token) (number : ℕ) : Type 0 where
  pub lexes : Lexes t tokens
  pub none : (others : List Lexeme) (tree : FileTree) → take number others ≡ take number (lexemes t tokens) → Spells tree others → ⊥

-- It has more bytes than a program's text may have.
abbrev pub IsLong : List ℕ → Type 0
IsLong t = 1048576 < length t

-- What is said of the bytes from start up to end: the text is cut into tokens up to there and no further; or they are the token with that number, and no tree begins with so many; or the text ends there, before its tree does.
abbrev pub TellsCause : List ℕ → ℕ → ℕ → TextCause → Type 0
TellsCause t start end (Lex fault) = IsRefusedAt t start × LexFails t fault × (end ≡ start + 1)
TellsCause t start end (AtToken number kind) = (tokens : List Token) × HasNoTree t tokens number × (slice_get tokens (number - 1) ≡ Some (record { kind = kind; start = start; end = end }))
TellsCause t start end (End number) = (tokens : List Token) × HasNoTree t tokens number × (length tokens < number) × (start ≡ length t) × (end ≡ length t)

-- It tells why the text has no tree.
abbrev pub IsRefusal : List ℕ → TextRefusal → Type 0
IsRefusal t refusal = TellsCause t refusal.start refusal.end refusal.why
