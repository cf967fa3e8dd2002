-- What can stand where a program's text is refused, and how it is listed.
use Rattle.std.specs.Prelude.{◌≡◌, ℕ, ◌-◌, ◌⊎◌, List, ◌∷◌, ◌++◌, Option, codes, flat_map, take, []}
use Rattle.std.specs.List.{All}
use Rattle.lft_syntax.specs.{declared.token.Token.Token, Lexes.Lexes, Lexeme.{Lexeme, Code, Text, Letters, Number, Arrow, Symbol}, Grammar.CanFollow}
use Rattle.lft_syntax.specs.View.{lexemes}
use Rattle.lft_text_diagnostics.specs.Quotes.{spelled_bytes, way_through_words}
use Rattle.lft_text_diagnostics.specs.declared.{refusal.TextCause.{TextCause, TheVariants.{Lex, Token as AtToken, End}}, candidate.Candidate.Candidate}
use Rattle.lft_text_diagnostics.specs.declared.candidate.Candidate.TheVariants as candidate

-- A token of the candidate, as the grammar sees it.
abbrev pub candidate_token : Candidate → Lexeme
candidate_token candidate.Name = Letters (codes "x")
candidate_token candidate.Unit = Letters (codes "ms")
candidate_token candidate.TypeTime = Letters (codes "time")
candidate_token candidate.Import = Letters (codes "import")
candidate_token candidate.From = Letters (codes "from")
candidate_token candidate.Number = Number 1
candidate_token candidate.Code = Code
candidate_token candidate.Text = Text
candidate_token (candidate.Symbol sign) = Symbol sign
candidate_token candidate.Arrow = Arrow
candidate_token candidate.Member = Letters (codes "timer")
candidate_token candidate.Reactor = Letters (codes "reactor")
candidate_token candidate.Action = Letters (codes "action")
candidate_token candidate.Startup = Letters (codes "startup")
candidate_token candidate.New = Letters (codes "new")
candidate_token candidate.After = Letters (codes "after")

-- How such a token is written; of numbers, codes and strings one.
abbrev pub lexeme_words : Lexeme → List ℕ
lexeme_words (Letters letters) = letters
lexeme_words (Symbol sign) = sign ∷ []
lexeme_words (Number n) = codes "1"
lexeme_words Code = codes "{= =}"
lexeme_words Text = codes "\"\""
lexeme_words Arrow = codes "->"
lexeme_words _ = []

-- What a candidate is called: by its token, where it has no words of its own.
abbrev pub candidate_words : Candidate → List ℕ
candidate_words candidate.Name = codes "a name"
candidate_words candidate.Unit = codes "a unit of time (ns us ms s min h d week)"
candidate_words candidate.TypeTime = codes "the type `time`"
candidate_words candidate.Number = codes "a number"
candidate_words candidate.Code = codes "code, {= .. =}"
candidate_words candidate.Text = codes "a string"
candidate_words candidate.Member = codes "a member of the reactor, as `timer` or `reaction`"
candidate_words other = spelled_bytes (lexeme_words (candidate_token other))

-- The candidate can stand behind the first tokens of the text, so many: a tree can be spelled that begins with those and its token.
abbrev pub CanStand : List ℕ → ℕ → Candidate → Type 0
CanStand t count candidate = (tokens : List Token) × Lexes t tokens × CanFollow (take count (lexemes t tokens)) (candidate_token candidate)

-- It can stand in place of the token that is refused, or at the end. Where there are no tokens, nothing can.
abbrev pub CanStandAt : List ℕ → TextCause → Candidate → Type 0
CanStandAt t (Lex fault) candidate = ⊥
CanStandAt t (AtToken number kind) candidate = CanStand t (number - 1) candidate
CanStandAt t (End number) candidate = CanStand t (number - 1) candidate

-- Candidates behind a first one.
abbrev pub other_candidate_words : Candidate → List ℕ
other_candidate_words candidate = codes ", " ++ candidate_words candidate

-- The line that lists what could stand there.
abbrev pub could_words : List Candidate → List ℕ
could_words [] = []
could_words (x ∷ xs) = codes "  There could stand: " ++ candidate_words x ++ flat_map other_candidate_words xs ++ codes ".\n"

-- Nothing, or lines of what is left out of the language further on.
abbrev pub IsLeftOut : List ℕ → Type 0
IsLeftOut words = (words ≡ []) ⊎ ((lines : List ℕ) × (words ≡ codes "  Further on these are left out:\n" ++ lines))

-- The words list candidates that can stand, and then tell a way out, if there is one.
abbrev pub IsHelp : (Candidate → Type 0) → List ℕ → Type 0
IsHelp Can words = (candidates : List Candidate) × All Can candidates × ((way : Option (List ℕ)) × (words ≡ could_words candidates ++ way_through_words way))

-- Such words, and behind them nothing or what is left out further on.
abbrev pub IsWholeHelp : (Candidate → Type 0) → List ℕ → Type 0
IsWholeHelp Can words = (help : List ℕ) × IsHelp Can help × ((more : List ℕ) × IsLeftOut more × (words ≡ help ++ more))
