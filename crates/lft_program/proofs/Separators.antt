-- The last dot or `#` of a full name parts the name of the instance from what follows.
use Rattle.std.proofs.Common.{◌≡◌, ℕ, ◌+◌, ◌%◌, ◌<◌, ◌^◌, suc, true, List, [], ◌∷◌, ◌++◌, All, codes, refl, sym, ap, subst, ◌∙◌, true≢false, arith, ◌⊎◌, inl, inr}
use Rattle.std.{specs.Fmt.decimal, proofs.lemmas.Fmt.decimal_by_steps}
use Rattle.lft_lists.specs.Bytes.{is_letter, is_part}
use Rattle.lft_tree.specs.Identifiers.{IsName}

-- a dot or `#`
abbrev pub IsSeparator : ℕ → Type 0
IsSeparator b = (b ≡ 46) ⊎ (b ≡ 35)

-- no byte is a dot or `#`
abbrev pub HasNoSeparator : List ℕ → Type 0
HasNoSeparator [] = Unit {0}
HasNoSeparator (b ∷ bs) = (IsSeparator b → ⊥) × HasNoSeparator bs

-- a dot or `#`, and then none
pub record IsEnding (bs : List ℕ) : Type 0 where
  pub separator : ℕ
  pub rest : List ℕ
  pub whole : bs ≡ separator ∷ rest
  pub separates : IsSeparator separator
  pub last : HasNoSeparator rest

pub separator_inside : (before after : List ℕ) (b : ℕ) → IsSeparator b → HasNoSeparator (before ++ b ∷ after) → ⊥
separator_inside [] after b is none = none.0 is
separator_inside (x ∷ before) after b is none = separator_inside before after b is none.1

-- two texts that are the same have the same before their last separators, and from there on
pub last_separator : (c d s t : List ℕ) (a b : ℕ) → IsSeparator a → IsSeparator b → HasNoSeparator s → HasNoSeparator t → c ++ a ∷ s ≡ d ++ b ∷ t → (c ≡ d) × (a ∷ s ≡ b ∷ t)
last_separator [] [] s t a b _ _ _ _ same = (refl, same)
last_separator [] (y ∷ d) s t a b _ is none _ same =
    let inside : s ≡ d ++ b ∷ t = cc in
    absurd (separator_inside d t b is (subst HasNoSeparator inside none))
last_separator (x ∷ c) [] s t a b is _ _ none same =
    let inside : t ≡ c ++ a ∷ s = cc in
    absurd (separator_inside c s a is (subst HasNoSeparator inside none))
last_separator (x ∷ c) (y ∷ d) s t a b is_a is_b none_s none_t same =
    let head : x ≡ y = cc in
    let tail : c ++ a ∷ s ≡ d ++ b ∷ t = cc in
    let rest = last_separator c d s t a b is_a is_b none_s none_t tail in
    ((let front = rest.0 in cc), rest.1)

pub same_ending : (c d s t : List ℕ) → IsEnding s → IsEnding t → c ++ s ≡ d ++ t → (c ≡ d) × (s ≡ t)
same_ending c d s t x y same =
    let both : c ++ x.separator ∷ x.rest ≡ d ++ y.separator ∷ y.rest = sym (ap (λ l. c ++ l) x.whole) ∙ same ∙ ap (λ l. d ++ l) y.whole in
    let parts = last_separator c d x.rest y.rest x.separator y.separator x.separates y.separates x.last y.last both in
    (parts.0, x.whole ∙ parts.1 ∙ sym y.whole)

part_separates : (b : ℕ) → is_part b ≡ true → IsSeparator b → ⊥
part_separates b word (inl dot) = let no : is_part 46 ≡ true = subst (λ x. is_part x ≡ true) dot word in true≢false (sym no)
part_separates b word (inr hash) = let no : is_part 35 ≡ true = subst (λ x. is_part x ≡ true) hash word in true≢false (sym no)

letter_separates : (b : ℕ) → is_letter b ≡ true → IsSeparator b → ⊥
letter_separates b letter (inl dot) = let no : is_letter 46 ≡ true = subst (λ x. is_letter x ≡ true) dot letter in true≢false (sym no)
letter_separates b letter (inr hash) = let no : is_letter 35 ≡ true = subst (λ x. is_letter x ≡ true) hash letter in true≢false (sym no)

parts_separate : (bs : List ℕ) → All (λ d. is_part d ≡ true) bs → HasNoSeparator bs
parts_separate [] all = tt
parts_separate (b ∷ bs) all = (part_separates b (all 0 b (omega arith)), parts_separate bs (λ k d low. all (suc k) d (omega arith)))

pub HasNoSeparator-name : (name : List ℕ) → IsName name → HasNoSeparator name
HasNoSeparator-name [] is = absurd is
HasNoSeparator-name (c ∷ cs) is = (letter_separates c is.0, parts_separate cs is.1)

HasNoSeparator-push : (bs : List ℕ) (b : ℕ) → HasNoSeparator bs → (IsSeparator b → ⊥) → HasNoSeparator (bs ++ b ∷ [])
HasNoSeparator-push [] b none is = (is, tt)
HasNoSeparator-push (x ∷ bs) b none is = (none.0, HasNoSeparator-push bs b none.1 is)

digit_separates : (n : ℕ) → n < 10 → IsSeparator (48 + n) → ⊥
digit_separates n low (inl dot) = omega arith
digit_separates n low (inr hash) = omega arith

pub HasNoSeparator-decimal : (n : ℕ) → n < 2 ^ 64 → HasNoSeparator (decimal n)
HasNoSeparator-decimal =
    decimal_by_steps (λ n ds. HasNoSeparator ds)
    (λ n low. (digit_separates n low, tt))
    (λ n ds big none. HasNoSeparator-push ds (48 + n % 10) none (digit_separates (n % 10) (omega arith)))

pub HasNoSeparator-main : HasNoSeparator (codes "main")
HasNoSeparator-main = (part_separates 109 refl, (part_separates 97 refl, (part_separates 105 refl, (part_separates 110 refl, tt))))
