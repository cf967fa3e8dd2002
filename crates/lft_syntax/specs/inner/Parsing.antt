-- For the parser's own contracts. No public contract names these.
use Rattle.std.specs.Prelude.{◌≡◌, ℕ, ◌+◌, ◌≤◌, List, [], ◌∷◌, codes, Option, Some, None, Result, Ok, Err}
use Rattle.lft_syntax.specs.{declared.{input.Input.Input, parse_error.ParseError.ParseError}, Lexeme.Lexeme, View.lexemes, inner.View.Fails}

-- the tokens, as the grammar sees them
abbrev pub words : Input → List Lexeme
words input = lexemes input.text.now input.tokens.now

-- the reserved words, in three parts
abbrev pub outer_words : List (List ℕ)
outer_words = codes "target" ∷ codes "preamble" ∷ codes "private" ∷ codes "public" ∷ codes "main" ∷ codes "reactor" ∷ []

abbrev pub declaring_words : List (List ℕ)
declaring_words = codes "mutable" ∷ codes "input" ∷ codes "output" ∷ codes "timer" ∷ codes "logical" ∷ codes "physical" ∷ []

abbrev pub other_words : List (List ℕ)
other_words = codes "action" ∷ codes "state" ∷ codes "reaction" ∷ codes "startup" ∷ codes "shutdown" ∷ codes "new" ∷ codes "after" ∷ []

-- what is read in a group is the rest, with so many brackets open, or ends with this token
abbrev pub Steps : ℕ → (ℕ → Result (Unit {0} × ℕ) ℕ) → Result (Option ℕ) ParseError → Result (Unit {0} × ℕ) ℕ → Type 0
Steps at rest (Ok (Some depth)) read = read ≡ rest depth
Steps at rest (Ok None) read = read ≡ Ok (tt, at + 1)
Steps at rest (Err e) read = Fails e read

-- no more than so many are open
abbrev pub shallow : ℕ → Option ℕ → Type 0
shallow most (Some depth) = depth ≤ most
shallow most None = Unit {0}
