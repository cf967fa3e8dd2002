-- The numbers that fields write.
use Rattle.std.specs.Prelude.{ℕ, ◌+◌, ◌-◌, ◌*◌, List, [], ◌∷◌, if◌then◌else◌, ◌==◌, ◌&&◌, nat_le, Option, Some, None, option_map, pos, neg_ℤ}
use Rattle.std.specs.{Char.is_ascii_digit, List.list_all}
use Rattle.lft_ir.specs.declared.parts.Value.{Value, TheVariants.{Bare, Int}}

-- the number that more digits write after a number
abbrev pub digits_after : ℕ → List ℕ → ℕ
digits_after n [] = n
digits_after n (d ∷ ds) = digits_after (n * 10 + (d - 48)) ds

-- an unsigned number: one or more digits, and at most the limit
abbrev pub number : ℕ → List ℕ → Option ℕ
number limit [] = None
number limit (d ∷ ds) = if list_all is_ascii_digit (d ∷ ds) && nat_le (digits_after 0 (d ∷ ds)) limit then Some (digits_after 0 (d ∷ ds)) else None

-- a number, or 0 where the field is empty
abbrev pub number_or_zero : ℕ → List ℕ → Option ℕ
number_or_zero limit [] = Some 0
number_or_zero limit (d ∷ ds) = number limit (d ∷ ds)

-- a value: bare where the field is empty, else digits, or `-` (byte 45) and digits, in the range of i64
abbrev pub value : List ℕ → Option Value
value [] = Some Bare
value (c ∷ rest) =
    if c == 45
    then option_map (λ n. Int (neg_ℤ (pos n))) (number 9223372036854775808 rest)
    else option_map (λ n. Int (pos n)) (number 9223372036854775807 (c ∷ rest))
