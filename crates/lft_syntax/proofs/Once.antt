-- A text is cut in one way.
use Rattle.std.proofs.Common.{◌≡◌, ℕ, ◌+◌, ◌<◌, ◌≤◌, ◌^◌, ◌≢◌, Bool, true, false, List, length, Option, Some, refl, sym, ap, subst, ◌∙◌, arith, inl, inr}
use Rattle.std.specs.Prelude.{slice_get, ◌⊎◌}
use Rattle.std.proofs.lemmas.{Option.slice_get_within, Bool.cases_order}
use Rattle.lft_syntax.proofs.Options.{some}
use Rattle.lft_syntax.specs.declared.token.{Token.Token, TokenKind.TokenKind}
use Rattle.lft_syntax.specs.declared.form.Form.{Form, TheVariants.{Space, LineComment, StarComment, Code, Text, Name, Digits, Arrow, Symbol, Unknown}}
use Rattle.lft_syntax.specs.declared.fault.LexFault.{LexFault}
use Rattle.lft_syntax.specs.Lexes.{Run, PastPair, Quoted, ends, escaped, plain, value, form_of, Reads, with_token, Piece, Cut, done, piece, Lexes, IsFault, FaultAt, Faults}
use Rattle.lft_lists.specs.Bytes.{is_in_line, is_word, is_digit, is_byte}
use Rattle.lft_syntax.specs.declared.token.TokenKind.TheVariants as kinds
use Rattle.lft_syntax.specs.declared.fault.LexFault.TheVariants as faults

three_from : (a b : ℕ) → (a ≡ b) ⊎ ((a < b) ⊎ (b < a)) → (a < b) ⊎ ((a ≡ b) ⊎ (b < a))
three_from a b (inl e) = inr (inl e)
three_from a b (inr (inl lt)) = inl lt
three_from a b (inr (inr gt)) = inr (inr gt)

pub three_ways : (a b : ℕ) → (a < b) ⊎ ((a ≡ b) ⊎ (b < a))
three_ways a b = three_from a b (cases_order a b)

run_before : (p : ℕ → Bool) (t : List ℕ) (i j k : ℕ) → Run p t i j → Run p t i k → j < k → ⊥
run_before p t i j k a b lt = let yes_there = b.each j a.order lt in let none_there = a.stops (let w = b.within in omega arith) in cc (yes_there, none_there)

run_once : (p : ℕ → Bool) (t : List ℕ) (i j k : ℕ) → Run p t i j → Run p t i k → j ≡ k
run_once p t i j k a b = elim (three_ways j k) [
  | inl lt ↦ absurd (run_before p t i j k a b lt)
  | inr o ↦ elim o [ inl e ↦ e | inr gt ↦ absurd (run_before p t i k j b a gt) ]
]

pair_once : (x y : ℕ) (t : List ℕ) (i j k : ℕ) → PastPair x y t i j → PastPair x y t i k → j ≡ k
pair_once x y t i j k a b = elim (three_ways a.place b.place) [
  | inl lt ↦ absurd (b.first a.place a.order lt a.there)
  | inr o ↦ elim o [ inl e ↦ a.past ∙ ap (λ (n : ℕ). n + 2) e ∙ sym b.past | inr gt ↦ absurd (a.first b.place b.order gt b.there) ]
]

-- a quote is no backslash
pub apart : (o : Option ℕ) → o ≡ Some 34 → o ≡ Some 92 → ⊥
apart o q b = let f : true ≡ false = sym (ap (is_byte 34) q) ∙ ap (is_byte 34) b in cc f

some_is : (x y : ℕ) → some x ≡ some y → x ≡ y
some_is x y e = cc

pub at_quote : (t : List ℕ) {i j : ℕ} → Quoted t i j → slice_get t i ≡ Some 34 → j ≡ i + 1
at_quote t (ends a e) q = e
at_quote t (escaped {i = i} a more) q = absurd (apart (slice_get t i) q a)
at_quote t (plain {b = b} a x y more) q = absurd (x (some_is b 34 (sym a ∙ q)))

pub at_slash : (t : List ℕ) {i j : ℕ} → Quoted t i j → slice_get t i ≡ Some 92 → Quoted t (i + 2) j
at_slash t (ends {i = i} a e) q = absurd (apart (slice_get t i) a q)
at_slash t (escaped a more) q = more
at_slash t (plain {b = b} a x y more) q = absurd (y (some_is b 92 (sym a ∙ q)))

pub at_plain : (t : List ℕ) {i j : ℕ} (b : ℕ) → Quoted t i j → slice_get t i ≡ Some b → b ≢ 34 → b ≢ 92 → Quoted t (i + 1) j
at_plain t b (ends a e) q x y = absurd (x (some_is b 34 (sym q ∙ a)))
at_plain t b (escaped a more) q x y = absurd (y (some_is b 92 (sym q ∙ a)))
at_plain t b (plain a z w more) q x y = more

quoted_once : (t : List ℕ) {i j k : ℕ} → Quoted t i j → Quoted t i k → j ≡ k
quoted_once t (ends a e) other = e ∙ sym (at_quote t other a)
quoted_once t (escaped a more) other = quoted_once t more (at_slash t other a)
quoted_once t (plain {b = b} a x y more) other = quoted_once t more (at_plain t b other a x y)

-- ---- pieces

abbrev number_kind : ℕ → Option TokenKind
number_kind n = Some (kinds.Number n)

-- where a piece of a form ends is one place, and its kind is one
reads_once : (t : List ℕ) (i b : ℕ) (f : Form) (j k : ℕ) (x y : Option TokenKind) → Reads t i b f j x → Reads t i b f k y → (j ≡ k) × (x ≡ y)
reads_once t i b Space j k x y p q = (p.0 ∙ sym q.0, p.1 ∙ sym q.1)
reads_once t i b LineComment j k x y p q = (run_once is_in_line t i j k p.0 q.0, p.1 ∙ sym q.1)
reads_once t i b StarComment j k x y p q = (pair_once 42 47 t (i + 2) j k p.0 q.0, p.1 ∙ sym q.1)
reads_once t i b Code j k x y p q = (pair_once 61 125 t (i + 2) j k p.0 q.0, p.1 ∙ sym q.1)
reads_once t i b Text j k x y p q = (quoted_once t p.0 q.0, p.1 ∙ sym q.1)
reads_once t i b Name j k x y p q = (run_once is_word t i j k p.0 q.0, p.1 ∙ sym q.1)
reads_once t i b Digits j k x y p q = let e = run_once is_digit t i j k p.0 q.0 in (e, p.2 ∙ ap (λ (n : ℕ). number_kind (value t i n)) e ∙ sym q.2)
reads_once t i b Arrow j k x y p q = (p.0 ∙ sym q.0, p.1 ∙ sym q.1)
reads_once t i b Symbol j k x y p q = (p.0 ∙ sym q.0, p.1 ∙ sym q.1)
reads_once t i b Unknown j k x y p q = absurd p

-- a fault stands where no piece does
large_value : (t : List ℕ) (i j k : ℕ) → j ≡ k → 2 ^ 64 ≤ value t i j → value t i k < 2 ^ 64 → ⊥
large_value t i j k e le lt = let v : value t i j ≡ value t i k = ap (value t i) e in omega arith

fault_reads : (t : List ℕ) (i b : ℕ) (f : Form) (j : ℕ) (kind : Option TokenKind) (fault : LexFault) → IsFault t i f fault → Reads t i b f j kind → ⊥
fault_reads t i b StarComment j kind faults.OpenComment p q = p j q.0
fault_reads t i b Code j kind faults.OpenCode p q = p j q.0
fault_reads t i b Text j kind faults.OpenString p q = p j q.0
fault_reads t i b Digits j kind (faults.NumberTooLarge n) p q = let e = run_once is_digit t i p.1.0 j p.1.1 q.0 in large_value t i p.1.0 j e p.1.2 q.1
fault_reads t i b Unknown j kind fault p q = q
fault_reads t i b _ j kind _ p q = absurd p

-- ---- whole texts

past_end : (t : List ℕ) (i b : ℕ) → i ≡ length t → slice_get t i ≡ Some b → ⊥
past_end t i b e s = let lt = slice_get_within t i b s in omega arith

same_piece : (t : List ℕ) (i m n : ℕ) (k l : Option TokenKind) → Piece t i k m → Piece t i l n → (m ≡ n) × (k ≡ l)
same_piece t i m n k l p q =
    let b : q.byte ≡ p.byte = some_is q.byte p.byte (sym q.there ∙ p.there) in
    let here : Reads t i p.byte (form_of p.byte (slice_get t (i + 1))) n l = subst (λ (x : ℕ). Reads t i x (form_of x (slice_get t (i + 1))) n l) b q.reads in
    reads_once t i p.byte (form_of p.byte (slice_get t (i + 1))) m n k l p.reads here

-- there is one cutting of the whole text
pub cut_once : (t : List ℕ) {i j k : ℕ} {a b : List Token} → Cut t i a j → j ≡ length t → Cut t i b k → k ≡ length t → a ≡ b
cut_once t done e done f = refl
cut_once t (done {i = i}) e (piece p rest) f = absurd (past_end t i p.byte e p.there)
cut_once t (piece {i = i} p rest) e done f = absurd (past_end t i p.byte f p.there)
cut_once t (piece {i = i} {m = m} {kind = k} {tokens = xs} p rest) e (piece {m = n} {j = o} {kind = l} {tokens = ys} q more) f =
    let s = same_piece t i m n k l p q in
    let more_here = subst (λ (x : ℕ). Cut t x ys o) (sym s.0) more in
    let tail = cut_once t rest e more_here f in
    ap (with_token k i m) tail ∙ ap (λ (o : Option TokenKind). with_token o i m ys) s.1 ∙ ap (λ (o : ℕ). with_token l i o ys) s.0

-- what is cut up to i is a front of each cutting of the whole text
front_cut : (t : List ℕ) {s i j : ℕ} {a b : List Token} → Cut t s a i → i ≤ length t → Cut t s b j → j ≡ length t → (rest : List Token) × Cut t i rest j
front_cut t {b = b} done le whole e = (b, whole)
front_cut t (piece {i = i} p rest) le done e = absurd (past_end t i p.byte e p.there)
front_cut t (piece {i = i} {m = m} {kind = k} p rest) le (piece {m = n} {j = o} {kind = l} {tokens = ys} q more) e =
    let s = same_piece t i m n k l p q in
    front_cut t rest le (subst (λ (x : ℕ). Cut t x ys o) (sym s.0) more) e

-- where a piece begins no fault does
piece_or_fault : (t : List ℕ) (i m : ℕ) (kind : Option TokenKind) (fault : LexFault) → Piece t i kind m → FaultAt t i fault → ⊥
piece_or_fault t i m kind fault p f =
    let b : f.byte ≡ p.byte = some_is f.byte p.byte (sym f.there ∙ p.there) in
    let here : IsFault t i (form_of p.byte (slice_get t (i + 1))) fault = subst (λ (x : ℕ). IsFault t i (form_of x (slice_get t (i + 1))) fault) b f.refused in
    fault_reads t i p.byte (form_of p.byte (slice_get t (i + 1))) m kind fault here p.reads

no_cut_at : (t : List ℕ) {i j : ℕ} {rest : List Token} (fault : LexFault) → FaultAt t i fault → Cut t i rest j → j ≡ length t → ⊥
no_cut_at t fault f (done {i = i}) e = past_end t i f.byte e f.there
no_cut_at t fault f (piece {i = i} {m = m} {kind = kind} p rest) e = piece_or_fault t i m kind fault p f

-- a text with a fault isn't cut
pub fault_or_cut : (t : List ℕ) (fault : LexFault) (tokens : List Token) → Faults t fault → Lexes t tokens → ⊥
fault_or_cut t fault tokens f whole =
    let inside = slice_get_within t f.0 f.3.byte f.3.there in
    let rest = front_cut t f.2 (omega arith) whole refl in
    no_cut_at t fault f.3 rest.1 refl

abbrev too_large : ℕ → LexFault
too_large i = faults.NumberTooLarge i

abbrev bad_char : ℕ → LexFault
bad_char i = faults.BadChar i

-- the fault that a form can have
the_fault : ℕ → Form → LexFault
the_fault i StarComment = faults.OpenComment
the_fault i Code = faults.OpenCode
the_fault i Text = faults.OpenString
the_fault i Digits = faults.NumberTooLarge i
the_fault i _ = faults.BadChar i

fault_is : (t : List ℕ) (i : ℕ) (f : Form) (fault : LexFault) → IsFault t i f fault → fault ≡ the_fault i f
unfolding the_fault
fault_is t i StarComment faults.OpenComment p = refl
fault_is t i Code faults.OpenCode p = refl
fault_is t i Text faults.OpenString p = refl
fault_is t i Digits (faults.NumberTooLarge k) p = ap (λ (n : ℕ). too_large n) p.0
fault_is t i Unknown (faults.BadChar k) p = ap (λ (n : ℕ). bad_char n) p
fault_is t i _ _ p = absurd p

same_fault : (t : List ℕ) (i : ℕ) (one two : LexFault) → FaultAt t i one → FaultAt t i two → one ≡ two
same_fault t i one two p q =
    let b : q.byte ≡ p.byte = some_is q.byte p.byte (sym q.there ∙ p.there) in
    let form-is = ap (λ (x : ℕ). the_fault i (form_of x (slice_get t (i + 1)))) b in
    fault_is t i (form_of p.byte (slice_get t (i + 1))) one p.refused ∙ sym form-is ∙ sym (fault_is t i (form_of q.byte (slice_get t (i + 1))) two q.refused)

two_faults : (t : List ℕ) {s i j : ℕ} {a b : List Token} (one two : LexFault) → Cut t s a i → FaultAt t i one → Cut t s b j → FaultAt t j two → one ≡ two
two_faults t one two (done {i = i}) f done g = same_fault t i one two f g
two_faults t one two (done {i = i}) f (piece {m = m} {kind = kind} p rest) g = absurd (piece_or_fault t i m kind one p f)
two_faults t one two (piece {i = i} {m = m} {kind = kind} p rest) f done g = absurd (piece_or_fault t i m kind two p g)
two_faults t one two (piece {i = i} {m = m} {kind = k} p rest) f (piece {m = n} {j = o} {kind = l} {tokens = ys} q more) g =
    let s = same_piece t i m n k l p q in
    two_faults t one two rest f (subst (λ (x : ℕ). Cut t x ys o) (sym s.0) more) g

-- a text has one fault at most
pub fault_once : (t : List ℕ) (one two : LexFault) → Faults t one → Faults t two → one ≡ two
fault_once t one two p q = two_faults t one two p.2 p.3 q.2 q.3
