-- Where lines end.
use Rattle.std.proofs.Common.{◌≡◌, ◌≢◌, ◌+◌, ◌-◌, ◌<◌, ◌≤◌, inl, inr, ℕ, zero, suc, Bool, true, false, List, [], ◌∷◌, ◌++◌, Some, None, length, take, drop, slice_get, slice_index, slice_range, refl, sym, ap, subst, ◌∙◌, arith, add-one}
use Rattle.std.proofs.lemmas.{Bool.{eq-eqb, eqb-true}, Option.{get_or_from_slice_get, slice_get-get_or, slice_get_within}}
use Rattle.std.proofs.lemmas.List.{append-nil, append_assoc, length-take-le}
use Rattle.std.proofs.Math.Seq.{drop-append_seam}
use Rattle.memchr.specs.Find.{IsLastByte, Nowhere, Passes, is_byte}
use Rattle.lft_ir.proofs.Ranges.{slice_get-drop, slice_get-take}
use Rattle.lft_lists.proofs.Picked.{take_next}
use Rattle.lft_tables.specs.Parts.{EndsLine}
use Rattle.lft_log.specs.Logs.{AreLines, HasNoEnd, IsHead}

-- the first of a list
pub range_take : {X : Type 0} (xs : List X) (n : ℕ) → slice_range xs 0 n ≡ take n xs
range_take xs n = let e : n - 0 ≡ n = omega arith in ap (λ (k : ℕ). take k xs) e

-- the byte that a search finds
pub byte_there : (text : List ℕ) (b k : ℕ) → k < length text → Passes (is_byte b) text k → slice_get text k ≡ Some b
byte_there text b k within is = slice_get-get_or text k 0 within ∙ ap (λ (x : ℕ). Some x) (eqb-true (slice_index text k) b is)

-- a byte that a search finds nowhere in a range
pub no_byte : (text : List ℕ) (b i j : ℕ) → Nowhere (Passes (is_byte b) text) i j → (k : ℕ) → i ≤ k → k < j → slice_get text k ≢ Some b
no_byte text b i j none k up down e = none k up down (eq-eqb (slice_index text k) b (get_or_from_slice_get text k b 0 e))

-- no line ends before the first end
pub none_before : (text : List ℕ) (n : ℕ) → n ≤ length text → Nowhere (Passes (is_byte 10) text) 0 n → HasNoEnd (take n text)
none_before text n within none i e =
    let long : length (take n text) ≡ n = length-take-le n text within in
    let l = slice_get_within (take n text) i 10 e in
    let in_it : i < n = omega (arith, long, l) in
    no_byte text 10 0 n none i (omega arith) in_it (sym (slice_get-take text n i in_it) ∙ e)

-- what ends with a line feed is a line
pub ends_line : (text : List ℕ) (k : ℕ) → slice_get text k ≡ Some 10 → EndsLine (take (k + 1) text)
ends_line text k e = (take k text, ap (λ (n : ℕ). take n text) (add-one k) ∙ take_next text k 10 e)

-- up to the last end of a line there are whole lines
pub up_to_last : (text : List ℕ) (k : ℕ) → IsLastByte (is_byte 10) text (Some k) → AreLines (take (k + 1) text)
up_to_last text k is = inr (ends_line text k (byte_there text 10 k is.0.high is.1))

-- and behind it none ends
pub behind_last : (text : List ℕ) (k : ℕ) → IsLastByte (is_byte 10) text (Some k) → HasNoEnd (drop (k + 1) text)
behind_last text k is i e =
    let at : slice_get text (k + 1 + i) ≡ Some 10 = sym (slice_get-drop text (k + 1) i) ∙ e in
    no_byte text 10 (k + 1) (length text) is.0.after (k + 1 + i) (omega arith) (slice_get_within text (k + 1 + i) 10 at) at

pub none_ends : (text : List ℕ) → IsLastByte (is_byte 10) text None → HasNoEnd text
none_ends text is i e = no_byte text 10 0 (length text) is i (omega arith) (slice_get_within text i 10 e) e

-- lines behind lines
pub lines_both : (a b : List ℕ) → AreLines a → AreLines b → AreLines (a ++ b)
lines_both a b x (inl e) = subst AreLines (sym (ap (λ (z : List ℕ). a ++ z) e ∙ append-nil a)) x
lines_both a b x (inr l) = inr (a ++ l.0, ap (λ (z : List ℕ). a ++ z) l.1 ∙ sym (append_assoc a l.0 (10 ∷ [])))

-- what is left of whole lines is whole lines
pub lines_left : (text : List ℕ) (n : ℕ) → AreLines text → AreLines (drop n text)
lines_left text n (inl e) = inl (ap (drop n) e ∙ none_left n)
  where
    none_left : (n : ℕ) → (let x : List ℕ = [] in drop n x ≡ [])
    none_left zero = refl
    none_left (suc n) = refl
lines_left text n (inr l) = subst (λ (x : List ℕ). AreLines (drop n x)) (sym l.1) (left l.0 n)
  where
    left : (line : List ℕ) (n : ℕ) → AreLines (drop n (line ++ 10 ∷ []))
    left line zero = inr (line, refl)
    left [] (suc zero) = inl refl
    left [] (suc (suc n)) = inl refl
    left (c ∷ line) (suc n) = left line n

-- what ends with a line is a line
pub ends_behind : (a b : List ℕ) → EndsLine b → EndsLine (a ++ b)
ends_behind a b l = (a ++ l.0, ap (λ (z : List ℕ). a ++ z) l.1 ∙ sym (append_assoc a l.0 (10 ∷ [])))

-- the lines below a header
pub lines_below : (b : Bool) (lines body : List ℕ) → (b ≡ true → body ≡ lines) → (b ≡ false → (head : List ℕ) × (lines ≡ head ++ body) × IsHead head) → AreLines lines → AreLines body
lines_below true lines body same above are = subst AreLines (sym (same refl)) are
lines_below false lines body same above are =
    let h = above refl in
    subst AreLines (drop-append_seam h.0 body) (subst (λ (x : List ℕ). AreLines (drop (length h.0) x)) h.1 (lines_left lines (length h.0) are))

-- a byte that is in neither of two texts isn't in one behind the other
pub never_both : (c : ℕ) (a b : List ℕ) → ((i : ℕ) → slice_get a i ≢ Some c) → ((i : ℕ) → slice_get b i ≢ Some c) → (i : ℕ) → slice_get (a ++ b) i ≢ Some c
never_both c [] b x y i = y i
never_both c (d ∷ a) b x y zero = x zero
never_both c (d ∷ a) b x y (suc i) = never_both c a b (λ j. x (suc j)) y i
