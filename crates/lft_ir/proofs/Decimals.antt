-- A number, as it is written, is of bytes that may stand in names.
use Rattle.std.proofs.Common.{ℕ, ◌+◌, ◌%◌, ◌<◌, ◌^◌, [], All, arith}
use Rattle.std.{specs.Fmt.decimal, proofs.lemmas.{Bool.Decides.nat_tests, Fmt.decimal_by_steps, List.Elements.{All-nil, All-cons, All-push}}}
use Rattle.lft_ir.specs.Names.{IsNameByte}

-- a digit by its value
digit_fits : (n : ℕ) → n < 10 → IsNameByte (48 + n)
digit_fits n low = grind (arith, nat_tests)

-- each digit of a number
pub All-decimal : (n : ℕ) → n < 2 ^ 64 → All IsNameByte (decimal n)
All-decimal =
    decimal_by_steps (λ n ds. All IsNameByte ds)
    (λ n low. All-cons IsNameByte (48 + n) [] (digit_fits n low) (All-nil IsNameByte))
    (λ n ds big fits. All-push IsNameByte ds (48 + n % 10) fits (digit_fits (n % 10) (omega arith)))
