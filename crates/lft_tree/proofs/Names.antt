-- An identifier is a name, and so is one with a number in brackets.
use Rattle.std.proofs.Common.{◌≡◌, ℕ, ◌+◌, ◌%◌, ◌<◌, ◌^◌, true, List, [], ◌∷◌, ◌++◌, All, refl, arith}
use Rattle.std.specs.Fmt.{decimal}
use Rattle.std.proofs.lemmas.{Bool.Decides.nat_tests, Fmt.decimal_by_steps, List.Elements.{All-nil, All-cons, All-push, All-append, All-weaker}}
use Rattle.lft_lists.specs.Bytes.{is_word, is_part}
use Rattle.lft_tree.specs.Identifiers.{IsIdentifier, IsName}

word_is_part : (b : ℕ) → is_word b ≡ true → is_part b ≡ true
word_is_part b e = rw e refl

pub IsName-identifier : (name : List ℕ) → IsIdentifier name → IsName name
IsName-identifier [] is = absurd is
IsName-identifier (c ∷ cs) is = (is.0, All-weaker (λ b. is_word b ≡ true) (λ b. is_part b ≡ true) word_is_part cs is.1)

digit_is_part : (n : ℕ) → n < 10 → is_part (48 + n) ≡ true
digit_is_part n low = grind (arith, nat_tests)

decimal_is_part : (n : ℕ) → n < 2 ^ 64 → All (λ b. is_part b ≡ true) (decimal n)
decimal_is_part =
    decimal_by_steps (λ n ds. All (λ b. is_part b ≡ true) ds)
    (λ n low. All-cons (λ b. is_part b ≡ true) (48 + n) [] (digit_is_part n low) (All-nil (λ b. is_part b ≡ true)))
    (λ n ds big parts. All-push (λ b. is_part b ≡ true) ds (48 + n % 10) parts (digit_is_part (n % 10) (omega arith)))

pub IsName-numbered : (name : List ℕ) (n : ℕ) → IsIdentifier name → n < 2 ^ 64 → IsName (name ++ 91 ∷ (decimal n ++ 93 ∷ []))
IsName-numbered [] n is low = absurd is
IsName-numbered (c ∷ cs) n is low =
    let P : ℕ → Type 0 = λ b. is_part b ≡ true in
    let close : All P (93 ∷ []) = All-cons P 93 [] refl (All-nil P) in
    let number : All P (decimal n ++ 93 ∷ []) = All-append P (decimal n) (93 ∷ []) (decimal_is_part n low) close in
    let ending : All P (91 ∷ (decimal n ++ 93 ∷ [])) = All-cons P 91 (decimal n ++ 93 ∷ []) refl number in
    (is.0, All-append P cs (91 ∷ (decimal n ++ 93 ∷ [])) (All-weaker (λ b. is_word b ≡ true) P word_is_part cs is.1) ending)
