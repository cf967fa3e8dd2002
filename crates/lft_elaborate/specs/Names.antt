-- How the things that a name stands for are written.
use Rattle.std.specs.Prelude.{[], ℕ, List, ◌++◌, Option, Some, None, codes, decimal}

-- the number, if there is one, stands in brackets
abbrev pub tail : Option ℕ → List ℕ
tail None = []
tail (Some number) = codes "[" ++ decimal number ++ codes "]"
