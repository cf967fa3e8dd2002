-- Where parts of a program's tree end among the tokens of its text.
use Rattle.std.specs.Prelude.{◌≡◌, ℕ, ◌+◌, List, Option, Some, None}
use Rattle.lft_syntax.specs.{Lexeme.Lexeme, Placed.{StandInRow, row_tokens, IsWord}}

-- the part begins at the token i, and ends before j
abbrev pub Takes : {X : Type 0} → (ℕ → X → Type 0) → (X → ℕ) → ℕ → X → ℕ → Type 0
Takes Stands tokens i x j = Stands i x × (j ≡ i + tokens x)

-- the list begins at the token i, and ends before j
abbrev pub TakeRow : {X : Type 0} → (ℕ → X → Type 0) → (X → ℕ) → ℕ → List X → ℕ → Type 0
TakeRow Stands tokens = Takes (StandInRow Stands tokens) (row_tokens tokens)

-- the first place if there is a name, else the other
abbrev pub place_or : Option (List ℕ) → ℕ → ℕ → ℕ
place_or None own other = other
place_or (Some name) own other = own

-- a name of the main reactor, which may be left out, begins at the token i and ends before j
abbrev pub MainNameStands : List Lexeme → ℕ → Option (List ℕ) → ℕ → Type 0
MainNameStands ws i None j = j ≡ i
MainNameStands ws i (Some name) j = IsWord ws i name × (j ≡ i + 1)
