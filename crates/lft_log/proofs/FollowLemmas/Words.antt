-- Words of a tag.
use Rattle.std.proofs.Common.{◌≡◌, ◌≢◌, ◌+◌, ◌-◌, ◌∙◌, ◌<◌, ◌≤◌, ℕ, zero, suc, Bool, true, false, ◌&&◌, if◌then◌else◌, nat_le, List, [], ◌∷◌, ◌++◌, Some, None, length, take, drop, slice_range, slice_get, slice_index, refl, sym, ap, subst, arith, rules, add-one}
use Rattle.std.{specs.{Char.is_ascii_digit, List.list_all}, proofs.lemmas.{Bool.eqb-true, List.{length-append, length-drop, take_all}, Option.slice_get-get_or}}
use Rattle.lft_trace.specs.Numbers.{digits_after, number}
use Rattle.memchr.specs.Find.{IsFirstByte, is_byte}

cut : (xs : List ℕ) (k x : ℕ) → slice_get xs k ≡ Some x → xs ≡ take k xs ++ x ∷ drop (suc k) xs
cut [] k x e = absurd (cc)
cut (y ∷ xs) zero x e = let s : y ≡ x = cc in ap (λ z. z ∷ xs) s
cut (y ∷ xs) (suc k) x e = ap (λ zs. y ∷ zs) (cut xs k x e)

-- a text on both sides of a byte in it
pub parts_at : (text : List ℕ) (b k : ℕ) → IsFirstByte (is_byte b) text (Some k) → text ≡ slice_range text 0 k ++ b ∷ slice_range text (k + 1) (length text)
parts_at text b k is =
    let at : slice_get text k ≡ Some b = slice_get-get_or text k 0 is.0.high ∙ ap (λ (x : ℕ). Some x) (eqb-true (slice_index text k) b is.1) in
    let front : k ≡ k - 0 = omega arith in
    let long : length (drop (k + 1) text) ≤ length text - (k + 1) = omega (arith, length-drop (k + 1) text) in
    cut text k b at
    ∙ ap (λ (n : ℕ). take n text ++ b ∷ drop (suc k) text) front
    ∙ ap (λ (n : ℕ). slice_range text 0 k ++ b ∷ drop n text) (sym (add-one k))
    ∙ ap (λ (xs : List ℕ). slice_range text 0 k ++ b ∷ xs) (sym (take_all (length text - (k + 1)) (drop (k + 1) text) long))

some_if : (b c : Bool) (m n : ℕ) → (if b && c then Some m else None) ≡ Some n → b ≡ true
some_if true c m n e = refl
some_if false c m n e = absurd (cc)

all_digits : (limit n : ℕ) (ds : List ℕ) → number limit ds ≡ Some n → list_all is_ascii_digit ds ≡ true
all_digits limit n [] e = refl
all_digits limit n (d ∷ ds) e = some_if (list_all is_ascii_digit (d ∷ ds)) (nat_le (digits_after 0 (d ∷ ds)) limit) (digits_after 0 (d ∷ ds)) n e

-- the comma behind a text
comma_behind : (xs rest : List ℕ) → slice_get (xs ++ 44 ∷ rest) (length xs) ≡ Some 44
comma_behind [] rest = refl
comma_behind (x ∷ xs) rest = comma_behind xs rest

passes : (xs : List ℕ) (i : ℕ) → slice_get xs i ≡ Some 44 → is_byte 44 (slice_index xs i) ≡ true
passes [] i e = absurd (cc)
passes (x ∷ xs) zero e = let s : x ≡ 44 = cc in rw s refl
passes (x ∷ xs) (suc i) e = passes xs i e

-- the first comma behind digits
behind_digits : (ds rest : List ℕ) (k : ℕ) → list_all is_ascii_digit ds ≡ true → slice_get (ds ++ 44 ∷ rest) k ≡ Some 44
    → ((i : ℕ) → i < k → slice_get (ds ++ 44 ∷ rest) i ≢ Some 44) → (take k (ds ++ 44 ∷ rest) ≡ ds) × (drop (suc k) (ds ++ 44 ∷ rest) ≡ rest)
behind_digits [] rest zero all at first = (refl, refl)
behind_digits [] rest (suc k) all at first = absurd (first 0 (omega arith) refl)
behind_digits (d ∷ ds) rest zero all at first =
    let s : d ≡ 44 = cc in
    let none : list_all is_ascii_digit (d ∷ ds) ≡ false = rw s refl in
    absurd (cc)
behind_digits (d ∷ ds) rest (suc k) all at first =
    let more = behind_digits ds rest k (search rules) at (λ i h. first (suc i) (omega (arith, h))) in
    (ap (λ xs. d ∷ xs) more.0, more.1)

-- a text without a comma has no two parts
pub no_comma : (words xs rest : List ℕ) → words ≡ xs ++ 44 ∷ rest → IsFirstByte (is_byte 44) words None → ⊥
no_comma words xs rest e none =
    let there = ap (λ (ys : List ℕ). slice_get ys (length xs)) e ∙ comma_behind xs rest in
    let long : length xs < length words = omega (arith, ap (λ (ys : List ℕ). length ys) e, length-append xs (44 ∷ rest)) in
    none (length xs) (omega arith) long (passes words (length xs) there)

-- where one part is a number, the first comma stands between the parts
pub parts_same : (words ds rest : List ℕ) (limit n k : ℕ) → words ≡ ds ++ 44 ∷ rest → number limit ds ≡ Some n → IsFirstByte (is_byte 44) words (Some k)
    → (slice_range words 0 k ≡ ds) × (slice_range words (k + 1) (length words) ≡ rest)
parts_same words ds rest limit n k e is_number is =
    let at : slice_get words k ≡ Some 44 = slice_get-get_or words k 0 is.0.high ∙ ap (λ (x : ℕ). Some x) (eqb-true (slice_index words k) 44 is.1) in
    let first : (i : ℕ) → i < k → slice_get words i ≢ Some 44 = λ i h there. is.0.before i (omega arith) h (passes words i there) in
    let parts = behind_digits ds rest k (all_digits limit n ds is_number)
    (subst (λ (xs : List ℕ). slice_get xs k ≡ Some 44) e at)
    (subst (λ (xs : List ℕ). (i : ℕ) → i < k → slice_get xs i ≢ Some 44) e first) in
    let front : k - 0 ≡ k = omega arith in
    let long : length (drop (k + 1) words) ≤ length words - (k + 1) = omega (arith, length-drop (k + 1) words) in (
      ap (λ (m : ℕ). take m words) front ∙ ap (λ (xs : List ℕ). take k xs) e ∙ parts.0,
      take_all (length words - (k + 1)) (drop (k + 1) words) long ∙ ap (λ (m : ℕ). drop m words) (add-one k) ∙ ap (λ (xs : List ℕ). drop (suc k) xs) e ∙ parts.1,
    )
