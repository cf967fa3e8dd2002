-- Which lines are plain.
use Rattle.std.proofs.Common.{◌≡◌, ◌≢◌, ◌+◌, ◌-◌, ◌<◌, ◌≤◌, ◌∙◌, ◌⊎◌, inl, inr, ℕ, zero, suc, Bool, true, false, List, [], ◌∷◌, ◌++◌, Some, length, take, drop, slice_range, get_or, slice_get, refl, sym, ap, subst, arith, length-append}
use Rattle.std.specs.Prelude.{◌==◌, if◌then◌else◌}
use Rattle.std.proofs.lemmas.{List.{get_or-append-add, get_or-take, length-take, length-take-le, take-take}, Bool.{eq-eqb, false≢true}, Option.slice_get_within}
use Rattle.std.proofs.Math.{ListN.get_or-append, Seq.get_or-append_seam}
use Rattle.lft_ir.proofs.Ranges.{slice_get-take}
use Rattle.lft_lists.proofs.Places.{get_append_cases, get_last, get_left, get_right, same_some}
use native.Mathlib.Decide.{dec_lt}
use Rattle.lft_log.{proofs.Ends.{never_both, range_take}, specs.Logs.{AreLines, ArePlain, ReturnsEnd, header_words}}
use Rattle.memchr.specs.Find.{OccursAt}

-- whole lines of a front
pub front_up : (text : List ℕ) (n odd : ℕ) → n ≤ length (slice_range text 0 odd) → n ≤ odd
front_up text n odd within = let l = length-take (odd - 0) (drop 0 text) in omega (arith, l, within)

pub front_of : (text : List ℕ) (n odd : ℕ) → n ≤ length (slice_range text 0 odd) → AreLines (take n (slice_range text 0 odd)) → AreLines (take n text)
front_of text n odd within are = let up = front_up text n odd within in subst AreLines (ap (take n) (range_take text odd) ∙ take-take n odd text up) are

-- a byte of a front
front_get : (text : List ℕ) (n i c : ℕ) → slice_get (take n text) i ≡ Some c → n ≤ length text → (i < n) × (slice_get text i ≡ Some c)
front_get text n i c e within =
    let long : length (take n text) ≡ n = length-take-le n text within in
    let in_it : i < length (take n text) = slice_get_within (take n text) i c e in
    let inside : i < n = omega (arith, long, in_it) in
    (inside, sym (slice_get-take text n i inside) ∙ e)

-- the last byte of whole lines
last_is : (text : List ℕ) (n : ℕ) → n ≤ length text → AreLines (take n text) → 0 < n → slice_get text (n - 1) ≡ Some 10
last_is text n within (inl e) some = let long : length (take n text) ≡ n = length-take-le n text within in let none : length (take n text) ≡ 0 = ap (λ (x : List ℕ). length x) e in absurd (omega (arith, long, none, some))
last_is text n within (inr (line, e)) some =
    let long : length (take n text) ≡ n = length-take-le n text within in
    let one : length (line ++ 10 ∷ []) ≡ length line + 1 = length-append line (10 ∷ []) in
    let both = ap (λ (x : List ℕ). length x) e in
    let place : length line ≡ n - 1 = omega (arith, long, one, both) in
    (front_get text n (n - 1) 10 (subst (λ (k : ℕ). slice_get (take n text) k ≡ Some 10) place (subst (λ (x : List ℕ). slice_get x (length line) ≡ Some 10) (sym e) (get_last line 10))) within).1

-- ---- lines behind lines

-- no byte is a line feed
is_in_line : List ℕ → Bool
is_in_line [] = true
is_in_line (c ∷ text) = if c == 10 then false else is_in_line text

never_there : (text : List ℕ) → is_in_line text ≡ true → (i : ℕ) → i < length text → get_or text i 0 ≡ 10 → ⊥
unfolding is_in_line
never_there [] e i l at = absurd (omega (arith, l))
never_there (c ∷ text) e zero l at = go (c == 10) refl e
  where
    go : (b : Bool) → (c == 10) ≡ b → (if b then false else is_in_line text) ≡ true → ⊥
    go true same f = false≢true f
    go false same f = false≢true (sym same ∙ eq-eqb c 10 at)
never_there (c ∷ text) e (suc i) l at = go (c == 10) e (λ f. never_there text f i (omega (arith, l)) at)
  where
    go : (b : Bool) → (if b then false else is_in_line text) ≡ true → (is_in_line text ≡ true → ⊥) → ⊥
    go true f later = false≢true f
    go false f later = later f

-- no line ends among the header's words
pub words_line : (i : ℕ) → i < length header_words → get_or header_words i 0 ≡ 10 → ⊥
unfolding is_in_line
words_line i l at = never_there header_words refl i l at

pub returns_both : (a b : List ℕ) → ReturnsEnd a → ReturnsEnd b → ReturnsEnd (a ++ b)
returns_both a b x y i e = go (get_append_cases a b i 13 e)
  where
    go : (slice_get a i ≡ Some 13) ⊎ ((j : ℕ) × (i ≡ length a + j) × (slice_get b j ≡ Some 13)) → slice_get (a ++ b) (i + 1) ≡ Some 10
    go (inl p) = get_left a b (i + 1) 10 (x i p)
    go (inr (j, at, p)) =
        let next : i + 1 ≡ length a + (j + 1) = omega (arith, at) in
        ap (slice_get (a ++ b)) next ∙ get_right a b (j + 1) ∙ y j p

pub words_both : (a b : List ℕ) → AreLines a → ((i : ℕ) → ¬ OccursAt a header_words i) → ((i : ℕ) → ¬ OccursAt b header_words i) → (i : ℕ) → ¬ OccursAt (a ++ b) header_words i
words_both a b are x y i o = go (dec_lt (length a) (i + length header_words)) (dec_lt i (length a))
  where
    all : length (a ++ b) ≡ length a + length b
    all = length-append a b

    go : Dec (length a < i + length header_words) → Dec (i < length a) → ⊥
    go (no m) d = x i (record { fits = omega (arith, m); reads = λ j l. sym (get_or-append a b 0 (i + j) (omega (arith, l, m))) ∙ o.reads j l })
    go (yes l) (no m) =
        let fits = o.fits in
        let e : length a + (i - length a) ≡ i = omega (arith, m) in
        y (i - length a) (record {
          fits = omega (arith, fits, all, m);
          reads = λ j k. let f : length a + (i - length a + j) ≡ i + j = omega (arith, e) in sym (get_or-append-add a b (i - length a + j) 0) ∙ ap (λ (n : ℕ). get_or (a ++ b) n 0) f ∙ o.reads j k;
        })
    go (yes l) (yes m) = seam are
      where
        seam : AreLines a → ⊥
        seam (inl e) = let none : length a ≡ 0 = ap (λ (z : List ℕ). length z) e in absurd (omega (arith, none, m))
        seam (inr (line, e)) =
            let long : length a ≡ length line + 1 = ap (λ (z : List ℕ). length z) e ∙ length-append line (10 ∷ []) in
            let place : i + (length line - i) ≡ length line = omega (arith, long, m) in
            let short : length line - i < length header_words = omega (arith, long, l, m) in
            let ends : get_or a (length line) 0 ≡ 10 = ap (λ (z : List ℕ). get_or z (length line) 0) e ∙ get_or-append_seam line 10 [] 0 in
            words_line (length line - i) short (sym (o.reads (length line - i) short) ∙ ap (λ (n : ℕ). get_or (a ++ b) n 0) place ∙ get_or-append a b 0 (length line) (omega (arith, long)) ∙ ends)

-- plain lines behind plain lines
pub plain_both : (a b : List ℕ) → AreLines a → ArePlain a → ArePlain b → ArePlain (a ++ b)
plain_both a b are x y = record {
  unquoted = never_both 34 a b x.unquoted y.unquoted;
  returns = returns_both a b x.returns y.returns;
  headless = words_both a b are x.headless y.headless;
}

-- no lines are plain
pub no_lines : ArePlain []
no_lines = record { unquoted = λ i e. absurd (cc e); returns = λ i e. absurd (cc e); headless = λ i o. let fits = o.fits in absurd (omega (arith, fits)) }

-- ---- the lines before the first that isn't plain

pub plain_front : (text : List ℕ) (n quote alone words : ℕ) → n ≤ length text → n ≤ quote → n ≤ alone → n ≤ words → ((i : ℕ) → i < quote → slice_get text i ≢ Some 34) → ((i : ℕ) → i < alone → slice_get text i ≡ Some 13 → slice_get text (i + 1) ≡ Some 10) → ((i : ℕ) → i < words → ¬ OccursAt text header_words i) → AreLines (take n text) → ArePlain (take n text)
plain_front text n quote alone words within up_quote up_alone up_words quotes returns heads are = record {
  unquoted = λ i e. let f = front_get text n i 34 e within in let l = f.0 in quotes i (omega (arith, l, up_quote)) f.1;
  returns = λ i e.
      let f = front_get text n i 13 e within in
      let l = f.0 in
      let last = last_is text n within are (omega (arith, l)) in
      let ends = returns i (omega (arith, l, up_alone)) f.1 in
      let inside : i + 1 < n = before i l f.1 last in
      slice_get-take text n (i + 1) inside ∙ ends;
  headless = λ i o.
      let long : length (take n text) ≡ n = length-take-le n text within in
      let fits = o.fits in
      heads i (omega (arith, long, fits, up_words)) (record { fits = omega (arith, long, fits, within); reads = λ j l. sym (get_or-take n text (i + j) 0 (omega (arith, long, fits, l))) ∙ o.reads j l });
}
  where
    before : (i : ℕ) → i < n → slice_get text i ≡ Some 13 → slice_get text (n - 1) ≡ Some 10 → i + 1 < n
    before i l e last = go (dec_lt (i + 1) n)
      where
        go : Dec (i + 1 < n) → i + 1 < n
        go (yes m) = m
        go (no m) =
            let place : i ≡ n - 1 = omega (arith, l, m) in
            let same : 13 ≡ 10 = same_some (slice_get text (n - 1)) 13 10 (subst (λ (k : ℕ). slice_get text k ≡ Some 13) place e) last in
            absurd (omega (arith, same))
