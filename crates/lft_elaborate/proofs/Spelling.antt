-- A name with a number is one.
use Rattle.std.proofs.Common.{◌≡◌, ℕ, zero, suc, ◌+◌, ◌/◌, ◌%◌, ◌<◌, ◌==◌, Bool, true, false, List, [], ◌∷◌, ◌++◌, Option, Some, None, All, cond, refl, sym, subst, arith}
use Rattle.std.specs.Prelude.{nat_lt}
use Rattle.std.specs.Fmt.{decimal, digit_glyph, digits, digits_onto}
use Rattle.std.proofs.lemmas.{Bool.{cond-true, Decides.nat_tests}, List.Elements.{All-nil, All-cons, All-append}}
use Rattle.lft_lists.specs.Bytes.{is_part}
use Rattle.lft_tree.{specs.Identifiers.{IsIdentifier, IsName}, proofs.Names.IsName-identifier}
use Rattle.lft_elaborate.specs.Names.{tail}

abbrev IsPart : ℕ → Type 0
IsPart b = is_part b ≡ true

either : (b : Bool) (xs ys : List ℕ) → All IsPart xs → All IsPart ys → All IsPart (cond b xs ys)
either true xs ys h g = h
either false xs ys h g = g

digit : (d : ℕ) → d < 10 → IsPart (48 + d)
digit d low = grind (arith, nat_tests)

glyph : (n : ℕ) → IsPart (digit_glyph false (n % 10))
glyph n =
    let low : n % 10 < 10 = omega arith in
    let below : nat_lt (n % 10) 10 ≡ true = grind (arith, nat_tests) in
    subst IsPart (sym (cond-true (nat_lt (n % 10) 10) (48 + n % 10) (87 + n % 10) below)) (digit (n % 10) low)

digits_part : (k n : ℕ) (ds : List ℕ) → All IsPart ds → All IsPart (digits_onto k 10 false n ds)
digits_part zero n ds h = h
digits_part (suc k) n ds h =
    let more = All-cons IsPart (digit_glyph false (n % 10)) ds (glyph n) h in
    either (n / 10 == 0) _ _ more (digits_part k (n / 10) _ more)

number_part : (n : ℕ) → All IsPart (decimal n)
unfolding digits
number_part n = digits_part 64 n [] (All-nil IsPart)

tail_part : (number : Option ℕ) → All IsPart (tail number)
tail_part None = All-nil IsPart
tail_part (Some n) = All-cons IsPart 91 (decimal n ++ 93 ∷ []) refl (All-append IsPart (decimal n) (93 ∷ []) (number_part n) (All-cons IsPart 93 [] refl (All-nil IsPart)))

pub IsName-spelled : (name : List ℕ) (number : Option ℕ) → IsIdentifier name → IsName (name ++ tail number)
IsName-spelled [] number is = absurd is
IsName-spelled (c ∷ cs) number is = let whole = IsName-identifier (c ∷ cs) is in (whole.0, All-append IsPart cs (tail number) whole.1 (tail_part number))
