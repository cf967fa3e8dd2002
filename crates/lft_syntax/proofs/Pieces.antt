-- How far a piece reaches.
use Rattle.std.proofs.Common.{◌≡◌, ℕ, ◌+◌, ◌<◌, ◌≤◌, Bool, true, false, List, length, Option, Some, None, if◌then◌else◌, refl, sym, ap, ◌∙◌, arith, inl, inr}
use Rattle.std.specs.Prelude.{slice_get, slice_index, nat_eq, ◌&&◌, ◌||◌}
use Rattle.std.proofs.lemmas.{Option.{slice_get_within, slice_get-get_or}, Bool.{and_parts, eqb-true}}
use Rattle.lft_syntax.specs.declared.token.TokenKind.{TokenKind}
use Rattle.lft_syntax.specs.declared.form.Form.{Form, TheVariants.{Space, LineComment, StarComment, Code, Text, Name, Digits, Arrow, Symbol, Unknown}}
use Rattle.lft_syntax.specs.Lexes.{Run, Quoted, ends, escaped, plain, form_of, Reads, Piece}
use Rattle.lft_syntax.proofs.Once.{three_ways}
use Rattle.lft_lists.specs.Bytes.{within, is_space, is_in_line, is_letter, is_digit, is_word, is_byte}

-- what is known of the first two bytes of a form
abbrev pub Begins : ℕ → Option ℕ → Form → Type 0
Begins b next LineComment = is_in_line b ≡ true
Begins b next Name = is_letter b ≡ true
Begins b next Digits = is_digit b ≡ true
Begins b next Arrow = (b ≡ 45) × (next ≡ Some 62)
Begins b next _ = Unit {0}

either : (P : Form → Type 0) (c : Bool) (x y : Form) → (c ≡ true → P x) → P y → P (if c then x else y)
either P true x y here there = here refl
either P false x y here there = there

hash_in_line : (b : ℕ) → nat_eq b 35 ≡ true → is_in_line b ≡ true
hash_in_line b e = let at : b ≡ 35 = eqb-true b 35 e in ap is_in_line at

slash_in_line : (b : ℕ) (next : Option ℕ) → (nat_eq b 47 && is_byte 47 next) ≡ true → is_in_line b ≡ true
slash_in_line b next e = let at : b ≡ 47 = eqb-true b 47 (and_parts (nat_eq b 47) (is_byte 47 next) e).0 in ap is_in_line at

pub letter_in_word : (b : ℕ) → is_letter b ≡ true → is_word b ≡ true
letter_in_word b e = ap (λ (x : Bool). x || is_digit b) e

byte_there : (b : ℕ) (o : Option ℕ) → is_byte b o ≡ true → o ≡ Some b
byte_there b None e = absurd cc
byte_there b (Some c) e = ap Some (eqb-true c b e)

arrow_there : (b : ℕ) (next : Option ℕ) → (nat_eq b 45 && is_byte 62 next) ≡ true → (b ≡ 45) × (next ≡ Some 62)
arrow_there b next e = both (nat_eq b 45) (is_byte 62 next) e (eqb-true b 45) (byte_there 62 next)
  where
    both : (x y : Bool) → (x && y) ≡ true → (x ≡ true → b ≡ 45) → (y ≡ true → next ≡ Some 62) → (b ≡ 45) × (next ≡ Some 62)
    both true y e f g = (f refl, g e)
    both false y e f g = absurd cc

-- each form begins so
pub begins : (b : ℕ) (next : Option ℕ) → Begins b next (form_of b next)
begins b next =
    let P = λ (f : Form). Begins b next f in
    either P (is_space b) Space _ (λ e. tt)
    (either P (nat_eq b 35) LineComment _ (hash_in_line b)
    (either P (nat_eq b 47 && is_byte 47 next) LineComment _ (slash_in_line b next)
    (either P (nat_eq b 47 && is_byte 42 next) StarComment _ (λ e. tt)
    (either P (nat_eq b 123 && is_byte 61 next) Code _ (λ e. tt)
    (either P (nat_eq b 34) Text _ (λ e. tt)
    (either P (is_letter b) Name _ (λ e. e)
    (either P (is_digit b) Digits _ (λ e. e)
    (either P (nat_eq b 45 && is_byte 62 next) Arrow _ (arrow_there b next)
    (either P (within 33 126 b) Symbol Unknown (λ e. tt) tt)))))))))

true_is_false : true ≡ false → ⊥
true_is_false e = cc

-- the byte that a piece begins with, as it is read
pub read_there : (t : List ℕ) (i b : ℕ) → slice_get t i ≡ Some b → slice_index t i ≡ b
read_there t i b e = let h = slice_get-get_or t i 0 (slice_get_within t i b e) in cc

-- a run over a byte of its class goes past it
run_further : (p : ℕ → Bool) (t : List ℕ) (i j b : ℕ) → slice_get t i ≡ Some b → p b ≡ true → Run p t i j → i < j
run_further p t i j b e yes_there run = elim (three_ways i j) [
  | inl lt ↦ lt
  | inr o ↦ elim o [
    | inl same ↦
        let inside : j < length t = let lt = slice_get_within t i b e in omega arith in
        let stopped : p (slice_index t i) ≡ false = ap (λ (n : ℕ). p (slice_index t n)) same ∙ run.stops inside in
        let gone_on : p (slice_index t i) ≡ true = ap p (read_there t i b e) ∙ yes_there in
        absurd (true_is_false (sym gone_on ∙ stopped))
    | inr gt ↦ let order = run.order in absurd (omega arith)
  ]
]

-- a string goes past its quote, within the text
quoted_further : (t : List ℕ) {i j : ℕ} → Quoted t i j → i < j
quoted_further t (ends s e) = omega arith
quoted_further t (escaped s more) = let h = quoted_further t more in omega arith
quoted_further t (plain s x y more) = let h = quoted_further t more in omega arith

quoted_within : (t : List ℕ) {i j : ℕ} → Quoted t i j → j ≤ length t
quoted_within t (ends {i = i} s e) = let lt = slice_get_within t i 34 s in omega arith
quoted_within t (escaped s more) = quoted_within t more
quoted_within t (plain s x y more) = quoted_within t more

reads_further : (t : List ℕ) (i b : ℕ) (f : Form) (j : ℕ) (kind : Option TokenKind) → slice_get t i ≡ Some b → Begins b (slice_get t (i + 1)) f → Reads t i b f j kind → i < j
reads_further t i b Space j kind e h r = omega (arith, r.0)
reads_further t i b LineComment j kind e h r = run_further is_in_line t i j b e h r.0
reads_further t i b StarComment j kind e h r = omega (arith, r.0.order, r.0.past)
reads_further t i b Code j kind e h r = omega (arith, r.0.order, r.0.past)
reads_further t i b Text j kind e h r = let lt = quoted_further t r.0 in omega arith
reads_further t i b Name j kind e h r = run_further is_word t i j b e (letter_in_word b h) r.0
reads_further t i b Digits j kind e h r = run_further is_digit t i j b e h r.0
reads_further t i b Arrow j kind e h r = omega (arith, r.0)
reads_further t i b Symbol j kind e h r = omega (arith, r.0)
reads_further t i b Unknown j kind e h r = absurd r

reads_within : (t : List ℕ) (i b : ℕ) (f : Form) (j : ℕ) (kind : Option TokenKind) → slice_get t i ≡ Some b → Begins b (slice_get t (i + 1)) f → Reads t i b f j kind → j ≤ length t
reads_within t i b Space j kind e h r = let lt = slice_get_within t i b e in omega (arith, r.0)
reads_within t i b LineComment j kind e h r = r.0.within
reads_within t i b StarComment j kind e h r = let lt = slice_get_within t (r.0.place + 1) 47 r.0.there.1 in omega (arith, r.0.past)
reads_within t i b Code j kind e h r = let lt = slice_get_within t (r.0.place + 1) 125 r.0.there.1 in omega (arith, r.0.past)
reads_within t i b Text j kind e h r = quoted_within t r.0
reads_within t i b Name j kind e h r = r.0.within
reads_within t i b Digits j kind e h r = r.0.within
reads_within t i b Arrow j kind e h r = let lt = slice_get_within t (i + 1) 62 h.1 in omega (arith, r.0)
reads_within t i b Symbol j kind e h r = let lt = slice_get_within t i b e in omega (arith, r.0)
reads_within t i b Unknown j kind e h r = absurd r

-- each piece takes a byte, and lies in the text
pub piece_further : (t : List ℕ) (i : ℕ) (kind : Option TokenKind) (j : ℕ) → Piece t i kind j → i < j
piece_further t i kind j p = reads_further t i p.byte (form_of p.byte (slice_get t (i + 1))) j kind p.there (begins p.byte (slice_get t (i + 1))) p.reads

pub piece_within : (t : List ℕ) (i : ℕ) (kind : Option TokenKind) (j : ℕ) → Piece t i kind j → j ≤ length t
piece_within t i kind j p = reads_within t i p.byte (form_of p.byte (slice_get t (i + 1))) j kind p.there (begins p.byte (slice_get t (i + 1))) p.reads
