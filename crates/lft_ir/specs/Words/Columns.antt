-- Words in columns.
use Rattle.std.specs.Prelude.{ℕ, ◌-◌, List, ◌++◌, length, replicate}

-- so many blanks
abbrev pub blanks : ℕ → List ℕ
blanks count = replicate count 32

-- the blanks that words lack to a width
abbrev pub fill : ℕ → List ℕ → List ℕ
fill width words = blanks (width - length words)

-- words, and the blanks behind them that they lack to a width
abbrev pub padded : ℕ → List ℕ → List ℕ
padded width words = words ++ fill width words
