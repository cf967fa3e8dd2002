-- What could stand in place of a token.
use Rattle.std.specs.Prelude.{◌≡◌, ◌<◌, ◌++◌, ◌∷◌, ℕ, List, [], Result, Ok, Err}
use Rattle.lft_syntax.specs.declared.token.Token.{Token}
use Rattle.lft_whole.specs.{Pieces.tokens_of, declared.fault.TreeFault.TreeFault, Parts.Tree.FileTree}
use Rattle.lft_whole_parser.specs.Files.{reads}
use Rattle.lft_text_diagnostics.specs.{Candidates.{candidate_token, lexeme_words}, declared.candidate.Candidate.Candidate}
use Rattle.lft_whole.specs.declared.fault.TreeFault.TheVariants as faults

-- What is read has a tree, or is refused behind the token of this number.
abbrev pub GoesPast : ℕ → Result FileTree TreeFault → Type 0
GoesPast token (Ok tree) = Unit {0}
GoesPast token (Err (faults.Unexpected at)) = token < at
GoesPast token (Err (faults.Package at)) = token < at
GoesPast token (Err faults.NoMemory) = ⊥

-- The text is read further than that token.
abbrev pub IsReadPast : List ℕ → ℕ → Type 0
IsReadPast t token = (tokens : List Token) × (tokens_of t ≡ Ok tokens) × GoesPast token (reads t tokens)

-- With the candidate behind it, and a blank between, the front of a text is read further than its last token, which is the candidate's.
abbrev pub CanStandLast : List ℕ → ℕ → Candidate → Type 0
CanStandLast front token candidate = IsReadPast ((front ++ 32 ∷ []) ++ lexeme_words (candidate_token candidate)) token
