-- Which lines of a part of a text are printed.
use Rattle.std.specs.Prelude.{ℕ, zero, suc, Bool, true, false, List, [], ◌∷◌, ◌++◌, codes, decimal, count_by, nat_eq, if◌then◌else◌}

-- how many lines end in some bytes
abbrev pub line_ends : List ℕ → ℕ
line_ends bytes = count_by (λ byte. nat_eq byte 10) bytes

-- `More lines, which --all prints: N`, where lines are left out
abbrev pub left_out : List ℕ → List ℕ
left_out [] = []
left_out (byte ∷ bytes) = codes "  More lines, which `--all` prints: " ++ decimal (line_ends (byte ∷ bytes)) ++ codes "\n"

-- the first n lines of a text, and how many others there are
abbrev pub shortened : ℕ → List ℕ → List ℕ
shortened zero bytes = left_out bytes
shortened (suc n) [] = []
shortened (suc n) (byte ∷ bytes) = byte ∷ shortened (if nat_eq byte 10 then n else suc n) bytes

-- what is printed of a part: all of it, or the first 60 lines and how many others there are
abbrev pub shown_part : Bool → List ℕ → List ℕ
shown_part true bytes = bytes
shown_part false bytes = shortened 60 bytes
