-- What is told of a program's text that has no tree.
use Rattle.std.specs.Prelude.{◌≡◌, ℕ, ◌⊎◌, ◌++◌, List, codes, decimal, length, slice_range}
use Rattle.lft_syntax.specs.declared.{fault.LexFault.LexFault, token.TokenKind.TokenKind}
use Rattle.lft_text_diagnostics.specs.{Candidates.{CanStandAt, IsWholeHelp}, Diagnostics.told_words, Places.IsPlace}
use Rattle.lft_text_diagnostics.specs.{Quotes.{marked_line, program_place_words, spelled_bytes}, Refusals.{IsLong, IsRefusal}}
use Rattle.lft_text_diagnostics.specs.declared.place.LineColumn.{LineColumn}
use Rattle.lft_text_diagnostics.specs.declared.refusal.{TextRefusal.TextRefusal, TextCause.{TextCause, TheVariants.{Lex, Token, End}}}
use Rattle.lft_syntax.specs.declared.fault.LexFault.TheVariants as fault
use Rattle.lft_syntax.specs.declared.token.TokenKind.TheVariants as kind

-- What is said of a place from which on a text has no tokens.
abbrev pub fault_words : LexFault → List ℕ
fault_words (fault.BadChar byte) = codes "no token begins so."
fault_words fault.OpenComment = codes "this comment is never closed."
fault_words fault.OpenCode = codes "this code is never closed."
fault_words fault.OpenString = codes "this string is never closed."
fault_words (fault.NumberTooLarge start) = codes "this number is too large."
fault_words fault.TooLong = codes "the text is too long."
fault_words fault.NoMemory = codes "memory was refused."

-- How a token is named: by its bytes, but for code and strings.
abbrev pub token_words : TokenKind → List ℕ → List ℕ
token_words kind.Code bytes = codes "this code"
token_words kind.Text bytes = codes "this string"
token_words _ bytes = spelled_bytes bytes

-- What is said of a token that can't stand where it is.
abbrev pub standing_words : TokenKind → List ℕ → List ℕ
standing_words k bytes = token_words k bytes ++ codes " can't stand here."

-- What is wrong at some bytes.
abbrev pub why_words : TextCause → List ℕ → List ℕ
why_words (Lex e) bytes = fault_words e
why_words (Token number k) bytes = standing_words k bytes
why_words (End number) bytes = codes "the text ends too soon."

-- The words are the line and the column of the refusal, what is wrong there, the line with a mark, and the help.
pub record SaysAt (t : List ℕ) (r : TextRefusal) (help words : List ℕ) : Type 0 where
  pub place : LineColumn
  pub is_place : IsPlace t r.start place
  pub whole : words ≡ told_words (program_place_words place) (why_words r.why (slice_range t r.start r.end)) (marked_line t place r.start r.end) help

-- The words begin with the place of the refusal and what is wrong there. What they list behind the marked line as what could stand there can.
abbrev pub IsToldAt : List ℕ → TextRefusal → List ℕ → Type 0
IsToldAt t r words = (help : List ℕ) × IsWholeHelp (CanStandAt t r.why) help × SaysAt t r help words

-- What is told of a text with so many bytes, which are too many.
abbrev pub long_words : ℕ → List ℕ
long_words n = codes "Program: the text has " ++ decimal n ++ codes " bytes, and may have " ++ decimal 1048576 ++ codes ".\n"

-- The words tell why the text has no tree: of a long one how long it is, of another one where it is refused.
abbrev pub TellsProgram : List ℕ → List ℕ → Type 0
TellsProgram t words = (IsLong t × (words ≡ long_words (length t))) ⊎ ((r : TextRefusal) × IsRefusal t r × IsToldAt t r words)
