-- Inside: the names of a program's things, and what a text names.
use Rattle.std.specs.Prelude.{◌≡◌, ℕ, List, Some, slice_get}

-- no text stands in the list twice
abbrev pub HasNoTwice : List (List ℕ) → Type 0
HasNoTwice texts = (i j : ℕ) (text : List ℕ) → slice_get texts i ≡ Some text → slice_get texts j ≡ Some text → i ≡ j
