-- A number that was written is read as itself.
use Rattle.std.proofs.Common.{◌≡◌, ◌∙◌, ℕ, zero, suc, ◌+◌, ◌-◌, ◌*◌, ◌^◌, ◌<◌, ◌≤◌, List, [], ◌∷◌, length, true, false, Some, refl, ap, arith, rules, nat_le, decimal, pos, negsuc}
use Rattle.std.specs.Prelude.{◌==◌}
use Rattle.std.specs.{Char.{digit_value, is_ascii_digit}, List.list_all, Str.Parse.{AllDigits, digits_value, digits_value_after}}
use Rattle.std.proofs.lemmas.{Bool.{ne_eqb, Decides.nat_tests}, Fmt.decimal_is_IsNumeral, Str.{digit_value_digit, Parse.digit_from_value}}
use Rattle.lft_ir.specs.declared.parts.Value.{Value, TheVariants.{Bare, Int}}
use Rattle.lft_trace.specs.{Numbers.{digits_after, number, number_or_zero, value}, inner.SeenWriting.IsWord, Written.{delay_text, value_text}}

-- digits of std are digits here, and write the same number
all_digits : (ds : List ℕ) → AllDigits 10 ds → list_all is_ascii_digit ds ≡ true
all_digits [] h = refl
all_digits (c ∷ cs) h =
    let d = digit_from_value c h.0 in
    let e : is_ascii_digit c ≡ true = grind (arith, nat_tests, d) in
    rw e (all_digits cs h.1)

same_value : (n : ℕ) (ds : List ℕ) → AllDigits 10 ds → digits_after n ds ≡ digits_value_after 10 n ds
same_value n [] h = refl
same_value n (c ∷ cs) h =
    let k = digit_from_value c h.0 in
    let e : c - 48 ≡ digit_value c = omega (arith, digit_value_digit c k) in
    ap (λ (d : ℕ). digits_after (n * 10 + d) cs) e ∙ same_value (n * 10 + digit_value c) cs h.1

numeral : (limit n : ℕ) (ds : List ℕ) → 0 < length ds → AllDigits 10 ds → digits_value 10 ds ≡ n → n ≤ limit → number limit ds ≡ Some n
numeral limit n [] some h e le = absurd (omega arith)
numeral limit n (d ∷ ds) some h e le =
    let a = all_digits (d ∷ ds) h in
    let v : digits_after 0 (d ∷ ds) ≡ n = same_value 0 (d ∷ ds) h ∙ e in
    let l : nat_le n limit ≡ true = search rules in
    rw (a, v, l) refl

pub number_back : (limit n : ℕ) → n ≤ limit → n < 2 ^ 64 → number limit (decimal n) ≡ Some n
number_back limit n le small =
    let d = decimal_is_IsNumeral n small in
    numeral limit n (decimal n) d.0.0 d.0.1 d.1 le

pub delay_back : (delay : ℕ) → delay ≤ 1000000000000000000 → number_or_zero 1000000000000000000 (delay_text delay) ≡ Some delay
delay_back zero le = refl
delay_back (suc n) le =
    let d = decimal_is_IsNumeral (suc n) (omega arith) in
    let e = ne_eqb (suc n) 0 (λ z. cc z) in
    rw e (or_zero (decimal (suc n)) d.0.0 (number_back 1000000000000000000 (suc n) le (omega arith)))
  where
    or_zero : (ds : List ℕ) → 0 < length ds → number 1000000000000000000 ds ≡ Some (suc n) → number_or_zero 1000000000000000000 ds ≡ Some (suc n)
    or_zero [] some h = absurd (omega arith)
    or_zero (c ∷ cs) some h = h

positive : (n : ℕ) (ds : List ℕ) → 0 < length ds → AllDigits 10 ds → number 9223372036854775807 ds ≡ Some n → value ds ≡ Some (Int (pos n))
positive n [] some h e = absurd (omega arith)
positive n (c ∷ cs) some h e =
    let d = digit_from_value c h.0 in
    let no : (c == 45) ≡ false = ne_eqb c 45 (λ z. omega (arith, d, z)) in
    rw (no, e) refl

pub value_back : (v : Value) → IsWord v → value (value_text v) ≡ Some v
value_back Bare w = refl
value_back (Int (pos n)) w =
    let w : n < 2 ^ 63 = w in
    let d = decimal_is_IsNumeral n (omega (arith, w)) in
    positive n (decimal n) d.0.0 d.0.1 (number_back 9223372036854775807 n (omega (arith, w)) (omega (arith, w)))
value_back (Int (negsuc n)) w =
    let w : n < 2 ^ 63 = w in
    let e = number_back 9223372036854775808 (suc n) (omega (arith, w)) (omega (arith, w)) in
    rw e refl
