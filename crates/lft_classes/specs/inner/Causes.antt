-- Where a program ends.
use Rattle.std.specs.Prelude.{◌-◌, ℕ, List, [], ◌∷◌, length}
use Rattle.lft_whole.specs.declared.sources.source.SourceFile.{SourceFile}

-- the number of the token at which the first file ends
abbrev pub last_token : List SourceFile → ℕ
last_token [] = 0
last_token (file ∷ files) = length file.spots.items - 1
