-- The bytes that begin what a text is cut into.
use Rattle.std.specs.Prelude.{ℕ, Bool, ◌==◌, ◌||◌}
use Rattle.lft_lists.specs.Bytes.{within, is_digit}

-- space, tab, LF, FF and CR
abbrev pub is_gap : ℕ → Bool
is_gap b = (b == 32) || (b == 9) || (b == 13) || (b == 10) || (b == 12)

-- the digits and the letters from A to F
abbrev pub is_hexadecimal : ℕ → Bool
is_hexadecimal b = is_digit b || within 65 70 b || within 97 102 b
