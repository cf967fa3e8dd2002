-- Texts that can be cut: at the end of a line, where no quote stands before.
use Rattle.std.specs.Prelude.{◌≡◌, ◌≢◌, ℕ, List, ◌∷◌, ◌++◌, Some, slice_get, []}

-- no byte is a quotation mark
abbrev pub HasNoQuote : List ℕ → Type 0
HasNoQuote text = (i : ℕ) → slice_get text i ≢ Some 34

-- the last byte is a line feed
abbrev pub EndsLine : List ℕ → Type 0
EndsLine text = (line : List ℕ) × (text ≡ line ++ 10 ∷ [])
