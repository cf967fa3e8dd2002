-- Escaped bytes in strings, and strings that end on their line.
use Rattle.std.proofs.Common.{◌≡◌, ℕ, zero, suc, ◌+◌, ◌-◌, ◌<◌, ◌≤◌, Bool, true, false, List, [], ◌∷◌, length, Option, Some, None, Result, Ok, Err, ◌⊎◌, inl, inr, if◌then◌else◌, refl, sym, ap, subst, ◌∙◌, arith}
use Rattle.std.specs.Prelude.{not, ◌&&◌, ◌||◌, codes}
use Rattle.std.proofs.lemmas.Bool.{and_parts, or_from}
use Rattle.lft_whole.specs.{Pieces.{stands, first_in, is_escaped, closes, past_or_line, past_in_line, past_or_next}, inner.Pieces.QuoteNothing}
use Rattle.lft_whole.proofs.Searches.{NonePass, none_more, none_in, found_in, none_says, found_says}

-- a string that begins here has escaped nothing yet
pub escape_starts : (t : List ℕ) (i : ℕ) → is_escaped t i (i - i) ≡ false
unfolding is_escaped
escape_starts t i = let e : i - i ≡ 0 = omega arith in rw e refl

-- one byte further
pub escape_next : (t : List ℕ) (i j : ℕ) → i ≤ j → is_escaped t i (j + 1 - i) ≡ (not (is_escaped t i (j - i)) && stands (codes "\\") t j)
unfolding is_escaped
escape_next t i j le =
    let e : j + 1 - i ≡ suc (j - i) = omega arith in
    let f : i + (j - i) ≡ j = omega arith in
    ap (is_escaped t i) e ∙ ap (λ (n : ℕ). not (is_escaped t i (j - i)) && stands (codes "\\") t n) f

-- what a loop knows: whether the next byte is escaped, and whether closing bytes stand here
pub escape_kept : (t : List ℕ) (i j : ℕ) (escaped slash out : Bool) → i ≤ j → escaped ≡ is_escaped t i (j - i) → slash ≡ stands (codes "\\") t j → out ≡ (not escaped && slash) → out ≡ is_escaped t i (j + 1 - i)
escape_kept t i j escaped slash out le e s o = o ∙ rw (e, s) (sym (escape_next t i j le))

pub closes_is : (closing t : List ℕ) (i j : ℕ) (escaped here out : Bool) → escaped ≡ is_escaped t i (j - i) → here ≡ stands closing t j → out ≡ (not escaped && here) → out ≡ closes closing t i j
closes_is closing t i j escaped here out e s o = o ∙ rw (e, s) refl

-- where one byte is escaped, a string that begins behind it escapes the same bytes
pub same_escapes : (t : List ℕ) (i p n : ℕ) → i ≤ p → is_escaped t i (p - i) ≡ true → is_escaped t (p + 1) n ≡ is_escaped t i (p + 1 + n - i)
unfolding is_escaped
same_escapes t i p zero le e =
    let here : p + 1 + 0 - i ≡ p + 1 - i = omega arith in
    sym (ap (is_escaped t i) here ∙ escape_next t i p le ∙ ap (λ (b : Bool). not b && stands (codes "\\") t p) e)
same_escapes t i p (suc n) le e =
    let here : p + 1 + suc n - i ≡ p + 1 + n + 1 - i = omega arith in
    ap (λ (b : Bool). not b && stands (codes "\\") t (p + 1 + n)) (same_escapes t i p n le e) ∙ sym (ap (is_escaped t i) here ∙ escape_next t i (p + 1 + n) (omega arith))

-- the closing quote of a string, or the end of its line
abbrev pub ends_line : ℕ → List ℕ → ℕ → ℕ → Bool
ends_line q t i j = closes (q ∷ []) t i j || closes (10 ∷ []) t i j

-- a string from i on ends at e with its line
pub record LineEnds (q : ℕ) (t : List ℕ) (i e : ℕ) : Type 0 where
  pub none : NonePass (ends_line q t i) i e
  pub end : (e ≡ length t) ⊎ ((i ≤ e) × (e < length t) × (ends_line q t i e ≡ true) × (stands (q ∷ []) t e ≡ false))

error_is : (x y : ℕ) → (let a : Result ℕ ℕ = Err x in a) ≡ Err y → x ≡ y
error_is x y h = cc

seen_else : (q : ℕ) (t : List ℕ) (j e : ℕ) (b : Bool) → stands (q ∷ []) t j ≡ b → (let r : Result ℕ ℕ = if b then Ok (j + 1) else Err j in r) ≡ Err e → (j ≡ e) × (stands (q ∷ []) t j ≡ false)
seen_else q t j e true s h = absurd cc
seen_else q t j e false s h = (error_is j e h, s)

line_seen : (q : ℕ) (t : List ℕ) (i e : ℕ) (o : Option ℕ) → first_in t (ends_line q t i) i ≡ o → past_or_line q t o ≡ Err e → LineEnds q t i e
line_seen q t i e None f h =
    let same : length t ≡ e = error_is (length t) e h in
    let none = none_says (ends_line q t i) (length t - i) i f in
    record { none = λ k a b. none k a (omega arith); end = inl (sym same) }
line_seen q t i e (Some j) f h =
    let seen = seen_else q t j e (stands (q ∷ []) t j) refl h in
    let is = found_says (ends_line q t i) (length t - i) i j f in
    subst (λ (n : ℕ). LineEnds q t i n) seen.0 (record { none = is.3; end = inr (is.0, omega (arith, is.0, is.1), is.2, seen.1) })

pub line_says : (q : ℕ) (t : List ℕ) (i e : ℕ) → past_in_line q t i ≡ Err e → LineEnds q t i e
line_says q t i e h = line_seen q t i e (first_in t (ends_line q t i) i) refl h

past_line : (q : ℕ) (t : List ℕ) (i e : ℕ) → NonePass (ends_line q t i) i e → (e ≡ length t) ⊎ ((i ≤ e) × (e < length t) × (ends_line q t i e ≡ true) × (stands (q ∷ []) t e ≡ false)) → past_in_line q t i ≡ Err e
past_line q t i e none (inl same) = ap (past_or_line q t) (none_in t (ends_line q t i) i (λ k a b. none k a (omega arith))) ∙ ap (let f : ℕ → Result ℕ ℕ = λ n. Err n in f) (sym same)
past_line q t i e none (inr at) =
    ap (past_or_line q t) (found_in t (ends_line q t i) i e at.0 at.1 at.2 none) ∙ rw at.3 refl

pub line_is : (q : ℕ) (t : List ℕ) (i e : ℕ) → LineEnds q t i e → past_in_line q t i ≡ Err e
line_is q t i e l = past_line q t i e l.none l.end

-- a string that ends at its quote, and one that ends with its line
pub quote_found : (q : ℕ) (t : List ℕ) (i j : ℕ) → i ≤ j → j < length t → NonePass (ends_line q t i) i j → closes (q ∷ []) t i j ≡ true → past_in_line q t i ≡ Ok (j + 1)
quote_found q t i j le lt none here =
    let quote : stands (q ∷ []) t j ≡ true = (and_parts (not (is_escaped t i (j - i))) (stands (q ∷ []) t j) here).1 in
    ap (past_or_line q t) (found_in t (ends_line q t i) i j le lt (ap (λ (b : Bool). b || closes (10 ∷ []) t i j) here) none) ∙ rw quote refl

not_there : (a b c : Bool) → (not a && b) ≡ false → (not a && c) ≡ true → b ≡ false
not_there true b c h s = absurd cc
not_there false b c h s = h

pub line_found : (q : ℕ) (t : List ℕ) (i j : ℕ) → i ≤ j → j < length t → NonePass (ends_line q t i) i j → closes (q ∷ []) t i j ≡ false → closes (10 ∷ []) t i j ≡ true → past_in_line q t i ≡ Err j
line_found q t i j le lt none quote line =
    let here : ends_line q t i j ≡ true = ap (λ (b : Bool). b || closes (10 ∷ []) t i j) quote ∙ line in
    line_is q t i j (record { none = none; end = inr (le, lt, here, not_there (is_escaped t i (j - i)) (stands (q ∷ []) t j) (stands (10 ∷ []) t j) quote line) })

pub line_goes : (q : ℕ) (t : List ℕ) (i j : ℕ) → NonePass (ends_line q t i) i j → closes (q ∷ []) t i j ≡ false → closes (10 ∷ []) t i j ≡ false → NonePass (ends_line q t i) i (j + 1)
line_goes q t i j none quote line = none_more (ends_line q t i) i j none (or_from (closes (q ∷ []) t i j) (closes (10 ∷ []) t i j) quote line)

pub line_open : (q : ℕ) (t : List ℕ) (i : ℕ) → NonePass (ends_line q t i) i (length t) → past_in_line q t i ≡ Err (length t)
line_open q t i none = line_is q t i (length t) (record { none = none; end = inl refl })

-- ---- a second look

escaped_there : (a b c : Bool) → ((not a && b) || (not a && c)) ≡ false → b ≡ true → a ≡ true
escaped_there true b c h s = refl
escaped_there false true c h s = absurd cc
escaped_there false false c h s = absurd cc

-- where a look found the end of the line, a look from each later quote finds that end too: the quote was escaped
pub line_again : (q : ℕ) (t : List ℕ) (i e p : ℕ) → past_in_line q t i ≡ Err e → i ≤ p → p < e → stands (q ∷ []) t p ≡ true → past_in_line q t (p + 1) ≡ Err e
line_again q t i e p h le lt quote =
    let l = line_says q t i e h in
    let escaped : is_escaped t i (p - i) ≡ true = escaped_there (is_escaped t i (p - i)) (stands (q ∷ []) t p) (stands (10 ∷ []) t p) (l.none p le lt) quote in
    let same : (k : ℕ) → p + 1 ≤ k → is_escaped t (p + 1) (k - (p + 1)) ≡ is_escaped t i (k - i) = λ k a.
    (let here : p + 1 + (k - (p + 1)) - i ≡ k - i = omega arith in same_escapes t i p (k - (p + 1)) le escaped ∙ ap (is_escaped t i) here) in
    let test : (k : ℕ) → p + 1 ≤ k → ends_line q t (p + 1) k ≡ ends_line q t i k = λ k a. ap (λ (b : Bool). (not b && stands (q ∷ []) t k) || (not b && stands (10 ∷ []) t k)) (same k a) in
    line_is q t (p + 1) e (record {
      none = λ k a b. test k a ∙ l.none k (omega arith) b;
      end = elim l.end [ inl at ↦ inl at | inr at ↦ inr (omega arith, at.1, test e (omega arith) ∙ at.2, at.3) ];
    })

-- so no quote up to that end begins a string
pub quotes_again : (t : List ℕ) (i e : ℕ) → past_in_line 34 t i ≡ Err e → QuoteNothing t i e
quotes_again t i e h k a b quote = ap (past_or_next k) (line_again 34 t i e k h a b quote)
