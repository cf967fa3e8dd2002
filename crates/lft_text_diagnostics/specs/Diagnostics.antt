-- What is told of a refusal, as it is printed.
use Rattle.std.specs.Prelude.{◌≡◌, ℕ, List, ◌++◌, codes}

-- The place and what is wrong there in a line, the lines that are quoted, and what helps.
abbrev pub told_words : List ℕ → List ℕ → List ℕ → List ℕ → List ℕ
told_words place sentence lines help = place ++ sentence ++ codes "\n" ++ lines ++ help

-- The words say this of this place, whatever they quote and whatever helps.
abbrev pub SaysOf : List ℕ → List ℕ → List ℕ → Type 0
SaysOf place sentence words = (lines : List ℕ) × (help : List ℕ) × (words ≡ told_words place sentence lines help)
