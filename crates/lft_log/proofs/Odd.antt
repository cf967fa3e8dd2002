-- The first line that isn't plain.
use Rattle.std.proofs.Common.{◌≡◌, ◌+◌, ◌-◌, ◌<◌, ◌≤◌, ◌∙◌, ◌⊎◌, inl, inr, ℕ, zero, suc, Bool, true, false, List, [], ◌∷◌, ◌++◌, Option, None, Some, length, min, take, drop, slice_get, slice_index, slice_range, refl, sym, ap, subst, arith, add-one, length-append}
use Rattle.std.specs.Prelude.{◌==◌, ◌↔◌, IsTrue, is_some}
use Rattle.std.proofs.lemmas.{Bool.{eq-eqb, eqb-true, false≢true}, List.{append_assoc, length-take-le, take-append-drop}}
use Rattle.std.proofs.lemmas.Option.{get_or_from_slice_get, slice_get-get_or, slice_get_within}
use native.Mathlib.Decide.{dec_lt}
use Rattle.memchr.specs.Find.{FindsNeedle, OccursAt}
use Rattle.lft_ir.proofs.Ranges.{slice_get-drop, slice_get-take}
use Rattle.lft_lists.proofs.{Picked.take_next, Places.{get_append_cases, get_last, get_left}}
use Rattle.lft_tables.specs.Parts.{EndsLine}
use Rattle.lft_log.specs.Logs.{ArePlain, BeginsLong, BeginsWithLine, HasNoEnd, IsHead, IsOddLine, IsOneLine, HasHeaderWords, header_words}
use Rattle.lft_log.specs.{inner.Logs.{BeginsOdd, IsLoneReturn}, declared.fault.LogFault.LogFault}
use Rattle.lft_log.proofs.{Ends.{never_both, range_take}, Plain.words_line}

-- up to the first end there is one line
pub one_line : (lines : List ℕ) (n : ℕ) → EndsLine lines → n ≤ length lines → HasNoEnd (take n lines) → (n < length lines → slice_get lines n ≡ Some 10) → (n < length lines) × IsOneLine (take (n + 1) lines)
one_line lines n (body, e) within none end = (some, (take n lines, ap (λ (k : ℕ). take k lines) (add-one n) ∙ take_next lines n 10 (end some), none))
  where
    last : slice_get lines (length body) ≡ Some 10
    last = subst (λ (x : List ℕ). slice_get x (length body) ≡ Some 10) (sym e) (get_last body 10)

    go : Dec (n < length lines) → n < length lines
    go (yes l) = l
    go (no m) = let l = slice_get_within lines (length body) 10 last in absurd (none (length body) (slice_get-take lines n (length body) (omega (arith, l, m)) ∙ last))

    some : n < length lines
    some = go (dec_lt n (length lines))

-- why a line isn't plain from a place on
abbrev pub IsOddAt : List ℕ → ℕ → Type 0
IsOddAt lines odd = (slice_get lines odd ≡ Some 34) ⊎ IsLoneReturn lines odd ⊎ OccursAt lines header_words odd

-- the line at the first such place, where no line ends before it
module _ (lines : List ℕ) (n odd : ℕ) (up : n ≤ odd) (none : HasNoEnd (drop n (slice_range lines 0 odd))) (is : odd < length lines → IsOddAt lines odd) (line rest : List ℕ) (e : drop n lines ≡ line ++ rest) (body : List ℕ) (one : line ≡ body ++ 10 ∷ []) (plain : ArePlain line) where
  long : length line ≡ length body + 1
  long = ap (λ (x : List ℕ). length x) one ∙ length-append body (10 ∷ [])

  there : (j : ℕ) → slice_get lines (n + j) ≡ slice_get (line ++ rest) j
  there j = sym (slice_get-drop lines n j) ∙ ap (λ (x : List ℕ). slice_get x j) e

  in_lines : (j c : ℕ) → slice_get line j ≡ Some c → slice_get lines (n + j) ≡ Some c
  in_lines j c p = there j ∙ get_left line rest j c p

  in_line : (i j c : ℕ) → n + j ≡ i → j < length line → slice_get lines i ≡ Some c → slice_get line j ≡ Some c
  in_line i j c at l p = go (get_append_cases line rest j c (sym (there j) ∙ ap (slice_get lines) at ∙ p))
    where
      go : (slice_get line j ≡ Some c) ⊎ ((k : ℕ) × (j ≡ length line + k) × (slice_get rest k ≡ Some c)) → slice_get line j ≡ Some c
      go (inl q) = q
      go (inr (k, f, q)) = absurd (omega (arith, f, l))

  end_at : slice_get lines (n + length body) ≡ Some 10
  end_at = in_lines (length body) 10 (subst (λ (x : List ℕ). slice_get x (length body) ≡ Some 10) (sym one) (get_last body 10))

  before : odd ≤ n + length body
  before = go (dec_lt (n + length body) odd)
    where
      go : Dec (n + length body < odd) → odd ≤ n + length body
      go (no m) = omega (arith, m)
      go (yes l) = absurd (none (length body) (slice_get-drop (slice_range lines 0 odd) n (length body) ∙ ap (λ (x : List ℕ). slice_get x (n + length body)) (range_take lines odd) ∙ slice_get-take lines odd (n + length body) l ∙ end_at))

  in_it : n + length body < length lines
  in_it = slice_get_within lines (n + length body) 10 end_at

  at : n + (odd - n) ≡ odd
  at = omega (arith, up)

  -- the header's words stand in this line
  words_in : OccursAt lines header_words odd → OccursAt line header_words (odd - n)
  words_in o = record { fits = fits; reads = reads }
    where
      inside : Dec (n + length body < odd + length header_words) → odd + length header_words ≤ n + length body
      inside (no m) = omega (arith, m)
      inside (yes l) =
          let place : odd + (n + length body - odd) ≡ n + length body = omega (arith, before) in
          let short : n + length body - odd < length header_words = omega (arith, before, l) in
          absurd (words_line (n + length body - odd) short (sym (o.reads (n + length body - odd) short) ∙ ap (slice_index lines) place ∙ get_or_from_slice_get lines (n + length body) 10 0 end_at))

      all : odd + length header_words ≤ n + length body
      all = inside (dec_lt (n + length body) (odd + length header_words))

      fits : odd - n + length header_words ≤ length line
      fits = omega (arith, all, long, up)

      reads : (j : ℕ) → j < length header_words → slice_index line (odd - n + j) ≡ slice_index header_words j
      reads j l =
          let c = slice_index lines (odd + j) in
          let place : n + (odd - n + j) ≡ odd + j = omega (arith, up) in
          get_or_from_slice_get line (odd - n + j) c 0 (in_line (odd + j) (odd - n + j) c place (omega (arith, fits, l)) (slice_get-get_or lines (odd + j) 0 (omega (arith, all, in_it, l)))) ∙ o.reads j l

  not_plain : ⊥
  not_plain = go (is (omega (arith, before, in_it)))
    where
      short : odd - n < length line
      short = omega (arith, before, long, up)

      go : IsOddAt lines odd → ⊥
      go (inl quote) = plain.unquoted (odd - n) (in_line odd (odd - n) 34 at short quote)
      go (inr (inl lone)) =
          let next : n + (odd - n + 1) ≡ odd + 1 = omega (arith, up) in
          lone.1 (ap (slice_get lines) (sym next) ∙ in_lines (odd - n + 1) 10 (plain.returns (odd - n) (in_line odd (odd - n) 13 at short lone.0)))
      go (inr (inr words)) = plain.headless (odd - n) (words_in words)

pub begins_odd : (lines : List ℕ) (n odd : ℕ) → n ≤ odd → HasNoEnd (drop n (slice_range lines 0 odd)) → (odd < length lines → IsOddAt lines odd) → BeginsOdd (drop n lines)
begins_odd lines n odd up none is line rest e (body, one, no_end) plain = not_plain lines n odd up none is line rest e body one plain

-- the first place that isn't plain
pub first_odd : (lines : List ℕ) (quote alone words odd : ℕ) → odd ≡ min (min quote alone) words → odd < length lines → (quote < length lines → slice_get lines quote ≡ Some 34) → (alone < length lines → IsLoneReturn lines alone) → (words < length lines → OccursAt lines header_words words) → IsOddAt lines odd
first_odd lines quote alone words odd e within is_quote is_alone is_words = go (dec_lt words (min quote alone)) (dec_lt alone quote)
  where
    go : Dec (words < min quote alone) → Dec (alone < quote) → IsOddAt lines odd
    go (yes l) d = let same : words ≡ odd = omega (arith, e, l) in inr (inr (subst (OccursAt lines header_words) same (is_words (subst (λ (n : ℕ). n < length lines) (sym same) within))))
    go (no m) (yes l) = let same : alone ≡ odd = omega (arith, e, l, m) in inr (inl (subst (IsLoneReturn lines) same (is_alone (subst (λ (n : ℕ). n < length lines) (sym same) within))))
    go (no m) (no k) = let same : quote ≡ odd = omega (arith, e, k, m) in inl (subst (λ (n : ℕ). slice_get lines n ≡ Some 34) same (is_quote (subst (λ (n : ℕ). n < length lines) (sym same) within)))

-- the fault of the first line
pub odd_line : (lines : List ℕ) (n row input : ℕ) (f : LogFault) → IsOneLine (take n lines) → (¬ ArePlain (slice_range lines 0 n) → IsOddLine row input f (slice_range lines 0 n)) → BeginsOdd lines → BeginsWithLine (IsOddLine row input f) lines
odd_line lines n row input f one is odd =
    let parted = sym (take-append-drop n lines) in
    (take n lines, drop n lines, parted, one, subst (IsOddLine row input f) (range_take lines n) (is (λ plain. odd (take n lines) (drop n lines) parted one (subst ArePlain (range_take lines n) plain))))

-- a search for the header's words
pub words_there : (line : List ℕ) (r : Option ℕ) (b : Bool) → b ≡ is_some r → FindsNeedle line header_words 0 r → IsTrue b ↔ HasHeaderWords line
words_there line None b e none = ((λ yes. absurd (false≢true (sym e ∙ yes))), λ h. absurd (none h.0 (omega arith) (let fits = h.1.fits in omega (arith, fits)) h.1))
words_there line (Some k) b e found = ((λ yes. (k, found.1)), λ h. e)

-- more text behind
pub line_longer : (P : List ℕ → Type 0) (text more : List ℕ) → BeginsWithLine P text → BeginsWithLine P (text ++ more)
line_longer P text more (line, rest, e, one, p) = (line, rest ++ more, ap (λ (x : List ℕ). x ++ more) e ∙ append_assoc line rest more, one, p)

pub long_longer : (text more : List ℕ) → BeginsLong text → BeginsLong (text ++ more)
long_longer text more (line, rest, e, none, long) = (line, rest ++ more, ap (λ (x : List ℕ). x ++ more) e ∙ append_assoc line rest more, none, long)

-- what is of no line yet is too long with the front of a piece
pub long_piece : (rest piece : List ℕ) (n : ℕ) → HasNoEnd rest → n ≤ length piece → HasNoEnd (take n piece) → 1048576 < length rest + n → BeginsLong (rest ++ piece)
long_piece rest piece n none within front long = (
  rest ++ take n piece,
  drop n piece,
  ap (λ (x : List ℕ). rest ++ x) (sym (take-append-drop n piece)) ∙ sym (append_assoc rest (take n piece) (drop n piece)),
  never_both 10 rest (take n piece) none front,
  let l = length-append rest (take n piece) in let m : length (take n piece) ≡ n = length-take-le n piece within in omega (arith, l, m, long),
)

-- the text has a first line
abbrev HasFirst : List ℕ → Type 0
HasFirst text = (line : List ℕ) × (rest : List ℕ) × (text ≡ line ++ rest) × IsOneLine line

first_of : (text : List ℕ) (i : ℕ) → slice_get text i ≡ Some 10 → HasFirst text
first_of [] i e = absurd (cc e)
first_of (c ∷ text) i e = go (first_of text) (c == 10) refl i e
  where
    no_end : (body : List ℕ) → (c == 10) ≡ false → HasNoEnd body → HasNoEnd (c ∷ body)
    no_end body other none zero f = false≢true (sym other ∙ eq-eqb c 10 (cc f))
    no_end body other none (suc j) f = none j f

    go : ((j : ℕ) → slice_get text j ≡ Some 10 → HasFirst text) → (b : Bool) → (c == 10) ≡ b → (i : ℕ) → slice_get (c ∷ text) i ≡ Some 10 → HasFirst (c ∷ text)
    go later true same i e = (c ∷ [], text, refl, ([], ap (λ (x : ℕ). x ∷ []) (eqb-true c 10 same), λ j f. absurd (cc f)))
    go later false same zero e = absurd (false≢true (sym same ∙ eq-eqb c 10 (cc e)))
    go later false same (suc i) e =
        let (line, rest, parted, (body, one, none)) = later i e in
        (c ∷ line, rest, ap (λ (x : List ℕ). c ∷ x) parted, (c ∷ body, ap (λ (x : List ℕ). c ∷ x) one, no_end body same none))

-- the first of lines that begin with no header
pub no_head : (lines : List ℕ) → EndsLine lines → ((head rest : List ℕ) → lines ≡ head ++ rest → ¬ IsHead head) → BeginsWithLine (λ line. ¬ IsHead line) lines
no_head lines (body, e) none =
    let p = first_of lines (length body) (subst (λ (x : List ℕ). slice_get x (length body) ≡ Some 10) (sym e) (get_last body 10)) in
    (p.0, p.1, p.2, p.3, none p.0 p.1 p.2)
