-- What begins a spelling can be ended: rules for the words that grammars are written in.
use Rattle.std.proofs.Common.{◌≡◌, ℕ, zero, suc, ◌+◌, ◌<◌, ◌≤◌, List, [], ◌∷◌, ◌++◌, length, take, Option, Some, None, refl, subst, ◌∙◌, arith, inl, inr}
use Rattle.std.specs.Prelude.{slice_get}
use Rattle.lft_syntax.specs.{Lexeme.Lexeme, Language.{Spelling, token, ◌&◌, ◌or◌, optional, many, range}}

-- the first k tokens are the same
abbrev pub Agree : ℕ → List Lexeme → List Lexeme → Type 0
Agree k ws vs = (i : ℕ) → i < k → slice_get ws i ≡ slice_get vs i

pub fewer : (a b : ℕ) (ws vs : List Lexeme) → a ≤ b → Agree b ws vs → Agree a ws vs
fewer a b ws vs le agree i lt = agree i (omega arith)

-- the tokens from i up to k begin a spelling, which ends in some other text with the same first k tokens
pub record Begun {A : Type 0} (P : Spelling A) (ws : List Lexeme) (i k : ℕ) : Type 0 where
  pub text : List Lexeme
  pub end : ℕ
  pub value : A
  pub order : i ≤ k
  pub past : k ≤ end
  pub within : end ≤ length text
  pub same : Agree k ws text
  pub spelled : P text i end value

-- a spelling goes forward, nothing behind it matters, and one can begin anywhere
pub record Regular {A : Type 0} (P : Spelling A) : Type 0 where
  pub forward : (ws : List Lexeme) (i j : ℕ) (x : A) → P ws i j x → i ≤ j
  pub local : (ws vs : List Lexeme) (i j : ℕ) (x : A) → Agree j ws vs → P ws i j x → P vs i j x
  pub word : (ws : List Lexeme) (i : ℕ) → i ≤ length ws → Begun P ws i i

-- ---- one token

-- the first i tokens and this one
put : ℕ → Lexeme → List Lexeme → List Lexeme
put i w ws = take i ws ++ (w ∷ [])

put_there : (i : ℕ) (w : Lexeme) (ws : List Lexeme) → i ≤ length ws → slice_get (put i w ws) i ≡ Some w
unfolding put
put_there zero w ws le = refl
put_there (suc i) w [] le = absurd (omega arith)
put_there (suc i) w (v ∷ ws) le = put_there i w ws (omega arith)

put_same : (i : ℕ) (w : Lexeme) (ws : List Lexeme) → i ≤ length ws → Agree i ws (put i w ws)
unfolding put
put_same zero w ws le t lt = absurd (omega arith)
put_same (suc i) w [] le t lt = absurd (omega arith)
put_same (suc i) w (v ∷ ws) le zero lt = refl
put_same (suc i) w (v ∷ ws) le (suc t) lt = put_same i w ws (omega arith) t (omega arith)

put_length : (i : ℕ) (w : Lexeme) (ws : List Lexeme) → i ≤ length ws → i + 1 ≤ length (put i w ws)
unfolding put
put_length zero w ws le = omega arith
put_length (suc i) w [] le = absurd (omega arith)
put_length (suc i) w (v ∷ ws) le = let n = put_length i w ws (omega arith) in omega arith

module _ {A : Type 0} (see : Lexeme → Option A) (w : Lexeme) (x : A) (seen : see w ≡ Some x) where
  token_word : (ws : List Lexeme) (i : ℕ) → i ≤ length ws → Begun (token see) ws i i
  token_word ws i le = record {
    text = put i w ws;
    end = i + 1;
    value = x;
    order = omega arith;
    past = omega arith;
    within = put_length i w ws le;
    same = put_same i w ws le;
    spelled = (rw (put_there i w ws le) seen, refl);
  }

  pub token_regular : Regular (token see)
  token_regular = record {
    forward = λ ws i j y s. let next : j ≡ i + 1 = s.1 in omega arith;
    local = λ ws vs i j y agree s. let next : j ≡ i + 1 = s.1 in let same0 = agree i (omega arith) in (rw (← same0) s.0, s.1);
    word = token_word;
  }

-- ---- one after the other

module _ {A B : Type 0} {P : Spelling A} {Q : Spelling B} (one : Regular P) (two : Regular Q) where
  -- what is begun is ended, and then a word of the second stands
  pub begun_first : {ws : List Lexeme} {i k : ℕ} → Begun P ws i k → Begun (P & Q) ws i k
  begun_first {i = i} b =
      let w = two.word b.text b.end b.within in
      record {
        text = w.text;
        end = w.end;
        value = (b.value, w.value);
        order = b.order;
        past = omega (arith, b.past, w.past);
        within = w.within;
        same = λ t lt. b.same t lt ∙ w.same t (omega (arith, b.past));
        spelled = (b.end, one.local b.text w.text i b.end b.value w.same b.spelled, w.spelled);
      }

  -- the first stands, and what is begun behind it is ended
  pub begun_second : {ws : List Lexeme} {i m k : ℕ} (x : A) → P ws i m x → Begun Q ws m k → Begun (P & Q) ws i k
  begun_second {ws = ws} {i = i} {m = m} {k = k} x s b = record {
    text = b.text;
    end = b.end;
    value = (x, b.value);
    order = let le = one.forward ws i m x s in omega (arith, b.order);
    past = b.past;
    within = b.within;
    same = b.same;
    spelled = (m, one.local ws b.text i m x (fewer m k ws b.text b.order b.same) s, b.spelled);
  }

  pub both_regular : Regular (P & Q)
  both_regular = record {
    forward = λ ws i j x s. let a = one.forward ws i s.0 x.0 s.1 in let b = two.forward ws s.0 j x.1 s.2 in omega arith;
    local = λ ws vs i j x agree s. (s.0, one.local ws vs i s.0 x.0 (fewer s.0 j ws vs (two.forward ws s.0 j x.1 s.2) agree) s.1, two.local ws vs s.0 j x.1 agree s.2);
    word = λ ws i le. begun_first (one.word ws i le);
  }

-- ---- the same spellings with another value

pub begun_as : {A B : Type 0} {P : Spelling A} {Q : Spelling B} (f : A → B) → ((ws : List Lexeme) (i j : ℕ) (x : A) → P ws i j x → Q ws i j (f x))
    → {ws : List Lexeme} {i k : ℕ} → Begun P ws i k → Begun Q ws i k
begun_as f to {i = i} b = record { text = b.text; end = b.end; value = f b.value; order = b.order; past = b.past; within = b.within; same = b.same; spelled = to b.text i b.end b.value b.spelled }

pub as_regular : {A B : Type 0} {P : Spelling A} {Q : Spelling B} (f : A → B) → ((ws : List Lexeme) (i j : ℕ) (x : A) → P ws i j x → Q ws i j (f x))
    → ((ws : List Lexeme) (i j : ℕ) (y : B) → Q ws i j y → (x : A) × P ws i j x × (f x ≡ y)) → Regular P → Regular Q
as_regular {P = P} {Q = Q} f to back one = record {
  forward = λ ws i j y s. let b = back ws i j y s in one.forward ws i j b.0 b.1;
  local = λ ws vs i j y agree s. let b = back ws i j y s in subst (Q vs i j) b.2 (to vs i j b.0 (one.local ws vs i j b.0 agree b.1));
  word = λ ws i le. begun_as {P = P} f to (one.word ws i le);
}

-- ---- there or not, one or the other, any number of times

-- nothing is begun where nothing has to stand
begun_empty : {A : Type 0} {P : Spelling A} (x : A) (ws : List Lexeme) (i : ℕ) → i ≤ length ws → P ws i i x → Begun P ws i i
begun_empty x ws i le s = record { text = ws; end = i; value = x; order = omega arith; past = omega arith; within = le; same = λ t lt. refl; spelled = s }

pub begun_there : {A : Type 0} {P : Spelling A} {ws : List Lexeme} {i k : ℕ} → Begun P ws i k → Begun (optional P) ws i k
begun_there {P = P} b = begun_as {P = P} Some (λ ws i j x s. s) b

module _ {A : Type 0} {P : Spelling A} (one : Regular P) where
  optional_forward : (ws : List Lexeme) (i j : ℕ) (x : Option A) → optional P ws i j x → i ≤ j
  optional_forward ws i j None s = omega (arith, s)
  optional_forward ws i j (Some x) s = one.forward ws i j x s

  optional_local : (ws vs : List Lexeme) (i j : ℕ) (x : Option A) → Agree j ws vs → optional P ws i j x → optional P vs i j x
  optional_local ws vs i j None agree s = s
  optional_local ws vs i j (Some x) agree s = one.local ws vs i j x agree s

  pub optional_regular : Regular (optional P)
  optional_regular = record { forward = optional_forward; local = optional_local; word = λ ws i le. begun_empty None ws i le refl }

  many_forward : (ws : List Lexeme) (i j : ℕ) (xs : List A) → many P ws i j xs → i ≤ j
  many_forward ws i j [] s = omega (arith, s)
  many_forward ws i j (x ∷ xs) s = let a = one.forward ws i s.0 x s.1 in let b = many_forward ws s.0 j xs s.2 in omega arith

  many_local : (ws vs : List Lexeme) (i j : ℕ) (xs : List A) → Agree j ws vs → many P ws i j xs → many P vs i j xs
  many_local ws vs i j [] agree s = s
  many_local ws vs i j (x ∷ xs) agree s = (s.0, one.local ws vs i s.0 x (fewer s.0 j ws vs (many_forward ws s.0 j xs s.2) agree) s.1, many_local ws vs s.0 j xs agree s.2)

  pub many_regular : Regular (many P)
  many_regular = record { forward = many_forward; local = many_local; word = λ ws i le. begun_empty [] ws i le refl }

  -- the first of many is begun
  pub begun_item : {ws : List Lexeme} {i k : ℕ} → Begun P ws i k → Begun (many P) ws i k
  begun_item b = begun_as {P = P} (λ x. x ∷ []) (λ ws i j x s. (j, s, refl)) b

  -- the first stands, and others are begun
  pub begun_more : {ws : List Lexeme} {i m k : ℕ} (x : A) → P ws i m x → Begun (many P) ws m k → Begun (many P) ws i k
  begun_more x s b = begun_as {P = P & many P} (λ xs. xs.0 ∷ xs.1) (λ ws i j xs t. t) (begun_second one many_regular x s b)

module _ {A : Type 0} {P Q : Spelling A} where
  pub begun_left : {ws : List Lexeme} {i k : ℕ} → Begun P ws i k → Begun (P or Q) ws i k
  begun_left b = begun_as {P = P} (λ x. x) (λ ws i j x s. inl s) b

  pub begun_right : {ws : List Lexeme} {i k : ℕ} → Begun Q ws i k → Begun (P or Q) ws i k
  begun_right b = begun_as {P = Q} (λ x. x) (λ ws i j x s. inr s) b

  pub or_regular : Regular P → Regular Q → Regular (P or Q)
  or_regular one two = record {
    forward = λ ws i j x s. elim s [ inl p ↦ one.forward ws i j x p | inr q ↦ two.forward ws i j x q ];
    local = λ ws vs i j x agree s. elim s [ inl p ↦ inl (one.local ws vs i j x agree p) | inr q ↦ inr (two.local ws vs i j x agree q) ];
    word = λ ws i le. begun_left (one.word ws i le);
  }

-- ---- which tokens

module _ {P : Spelling (Unit {0})} where
  pub begun_range : {ws : List Lexeme} {i k : ℕ} → Begun P ws i k → Begun (range P) ws i k
  begun_range {i = i} b = record { text = b.text; end = b.end; value = (i, b.end); order = b.order; past = b.past; within = b.within; same = b.same; spelled = (b.spelled, refl) }

  pub range_regular : Regular P → Regular (range P)
  range_regular one = record {
    forward = λ ws i j x s. one.forward ws i j tt s.0;
    local = λ ws vs i j x agree s. (one.local ws vs i j tt agree s.0, s.1);
    word = λ ws i le. begun_range (one.word ws i le);
  }
