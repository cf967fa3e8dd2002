-- A reading is right for a spelling: rules for the words that grammars are written in.
use Rattle.std.proofs.Common.{◌≡◌, ℕ, zero, suc, ◌+◌, ◌<◌, ◌≤◌, Bool, true, false, cond, List, [], ◌∷◌, length, Option, Some, None, Result, Ok, Err, refl, sym, ap, subst, ◌∙◌, arith, inl, inr}
use Rattle.std.specs.Prelude.{slice_get}
use Rattle.std.proofs.lemmas.{Option.slice_get_within, Bool.{eqb-true, eq-eqb}, Slice.Eq.bytes_eq-Decides}
use Rattle.lft_syntax.proofs.Options.{some, some_is}
use Rattle.lft_syntax.proofs.Begun.{Agree, fewer, Begun, Regular, begun_first, begun_second, both_regular, token_regular, begun_as, as_regular, optional_regular, begun_there, many_regular, begun_item, begun_more, begun_left, begun_right, or_regular, begun_range, range_regular}
use Rattle.lft_syntax.specs.Lexeme.{Lexeme, Code, Text, Letters, Number, Decimal, Arrow, TildeArrow, Symbol, same}
use Rattle.lft_syntax.specs.Language.{Spelling, look, token, this, one, ◌&◌, ◌>>◌, ◌<<◌, ◌or◌, optional, many, made, ignored, range}
use Rattle.lft_syntax.specs.inner.Reading.{Reading, ◌>>=◌, seen_at, token_at, both, second, first, apply, maybe, choice, choice_next, many_at, repeated, range_at}

-- what may stand after a spelling
abbrev pub Follow : Type 1
Follow = List Lexeme → ℕ → Type 0

-- how many tokens are seen once a place is reached
abbrev pub Horizon : Type 0
Horizon = List Lexeme → ℕ → ℕ

abbrev pub near : Horizon
near ws i = i + 1

-- read at i: x, up to j. Each spelling from i in other tokens that begin as these, with what may follow, is this one.
pub record Known {A : Type 0} (P : Spelling A) (F : Follow) (e h : Horizon) (n : ℕ) (ws : List Lexeme) (i : ℕ) (x : A) (j : ℕ) : Type 0 where
  pub further : i + n ≤ j
  pub within : j ≤ length ws
  pub seen : e ws i ≤ h ws j
  pub found : P ws i j x
  pub forced : (vs : List Lexeme) (m : ℕ) (y : A) → Agree (h ws j) ws vs → P vs i m y → F vs m → (y ≡ x) × (m ≡ j)

-- the token at k fits no spelling from i, and those before it begin one
pub record Refused {A : Type 0} (P : Spelling A) (F : Follow) (e : Horizon) (ws : List Lexeme) (i k : ℕ) : Type 0 where
  pub seen : e ws i ≤ suc k
  pub within : k ≤ length ws
  pub begun : Begun P ws i k
  pub none : (vs : List Lexeme) (m : ℕ) (y : A) → Agree (suc k) ws vs → P vs i m y → F vs m → ⊥

abbrev pub Outcome : {A : Type 0} → Spelling A → Follow → Horizon → Horizon → ℕ → List Lexeme → ℕ → Result (A × ℕ) ℕ → Type 0
Outcome P F e h n ws i (Ok r) = Known P F e h n ws i r.0 r.1
Outcome P F e h n ws i (Err k) = Refused P F e ws i k

pub record Right {A : Type 0} (P : Spelling A) (F : Follow) (e h : Horizon) (n : ℕ) (p : Reading A) : Type 0 where
  pub regular : Regular P
  pub at : (ws : List Lexeme) (i : ℕ) → i ≤ length ws → Outcome P F e h n ws i (p ws i)

-- what Q begins with may follow P
abbrev pub Leads : {B : Type 0} → Spelling B → Follow → Follow → Type 0
Leads {B = B} Q G F = (vs : List Lexeme) (m j : ℕ) (y : B) → Q vs m j y → G vs j → F vs m

pub pair : {A B : Type 0} {a c : A} {b d : B} → a ≡ c → b ≡ d → ◌≡◌ {A = A × B} (a, b) (c, d)
pair {B = B} {c = c} {b = b} p q = ap (λ x. (x, b)) p ∙ ap (λ (y : B). (c, y)) q

-- ---- one after the other

module _ {A B : Type 0} (P : Spelling A) (Q : Spelling B) (F G : Follow) (e h g : Horizon) (n m : ℕ) (leads : Leads Q G F) (one : Regular P) (two : Regular Q) where
  then_second : (ws : List Lexeme) (i : ℕ) (x : A) (j : ℕ) (r : Result (B × ℕ) ℕ) → Known P F e h n ws i x j → Outcome Q G h g m ws j r
      → Outcome (P & Q) G e g (n + m) ws i (r >>= λ b. Ok ((x, b.0), b.1))
  then_second ws i x j (Ok b) k l = record {
    further = omega (arith, k.further, l.further);
    within = l.within;
    seen = omega (arith, k.seen, l.seen);
    found = (j, k.found, l.found);
    forced = λ vs o y agree s after.
        let a = k.forced vs s.0 y.0 (fewer _ _ ws vs l.seen agree) s.1 (leads vs s.0 o y.1 s.2 after) in
        let z = l.forced vs o y.1 agree (subst (λ (t : ℕ). Q vs t o y.1) a.1 s.2) after in
        (pair a.0 z.0, z.1);
  }
  then_second ws i x j (Err t) k l = record {
    seen = omega (arith, k.seen, l.seen);
    within = l.within;
    begun = begun_second one two x k.found l.begun;
    none = λ vs o y agree s after.
        let a = k.forced vs s.0 y.0 (fewer _ _ ws vs l.seen agree) s.1 (leads vs s.0 o y.1 s.2 after) in
        l.none vs o y.1 agree (subst (λ (t : ℕ). Q vs t o y.1) a.1 s.2) after;
  }

  then_first : (q : Reading B) (ws : List Lexeme) (i : ℕ) (r : Result (A × ℕ) ℕ) → Outcome P F e h n ws i r → Right Q G h g m q
      → Outcome (P & Q) G e g (n + m) ws i (r >>= λ a. q ws a.1 >>= λ b. Ok ((a.0, b.0), b.1))
  then_first q ws i (Ok a) k right = then_second ws i a.0 a.1 (q ws a.1) k (right.at ws a.1 k.within)
  then_first q ws i (Err t) k right = record {
    seen = k.seen;
    within = k.within;
    begun = begun_first one two k.begun;
    none = λ vs o y agree s after. k.none vs s.0 y.0 agree s.1 (leads vs s.0 o y.1 s.2 after);
  }

pub right_both : {A B : Type 0} (P : Spelling A) (Q : Spelling B) (F G : Follow) (e h g : Horizon) (n m : ℕ) → Leads Q G F → (p : Reading A) (q : Reading B)
    → Right P F e h n p → Right Q G h g m q → Right (P & Q) G e g (n + m) (both p q)
right_both P Q F G e h g n m leads p q one two = record {
  regular = both_regular one.regular two.regular;
  at = λ ws i le. then_first P Q F G e h g n m leads one.regular two.regular q ws i (p ws i) (one.at ws i le) two;
}

-- ---- the same spellings with another value

module _ {A B : Type 0} (f : A → B) (P : Spelling A) (Q : Spelling B) (F : Follow) (e h : Horizon) (n : ℕ)
    (to : (ws : List Lexeme) (i j : ℕ) (x : A) → P ws i j x → Q ws i j (f x))
    (back : (ws : List Lexeme) (i j : ℕ) (y : B) → Q ws i j y → (x : A) × P ws i j x × (f x ≡ y)) where
  adapt_at : (ws : List Lexeme) (i : ℕ) (r : Result (A × ℕ) ℕ) → Outcome P F e h n ws i r → Outcome Q F e h n ws i (r >>= λ a. Ok (f a.0, a.1))
  adapt_at ws i (Ok a) k = record {
    further = k.further;
    within = k.within;
    seen = k.seen;
    found = to ws i a.1 a.0 k.found;
    forced = λ vs m y agree s after.
        let b = back vs i m y s in
        let z = k.forced vs m b.0 agree b.1 after in
        (sym b.2 ∙ ap f z.0, z.1);
  }
  adapt_at ws i (Err t) k = record { seen = k.seen; within = k.within; begun = begun_as {P = P} f to k.begun; none = λ vs m y agree s after. let b = back vs i m y s in k.none vs m b.0 agree b.1 after }

  pub adapt : (p : Reading A) → Right P F e h n p → Right Q F e h n (apply f p)
  adapt p right = record { regular = as_regular f to back right.regular; at = λ ws i le. adapt_at ws i (p ws i) (right.at ws i le) }

pub right_made : {A B : Type 0} (f : A → B) (P : Spelling A) (F : Follow) (e h : Horizon) (n : ℕ) (p : Reading A) → Right P F e h n p → Right (made f P) F e h n (apply f p)
right_made f P F e h n p right = adapt f P (made f P) F e h n (λ ws i j x s. (x, s, refl)) (λ ws i j y s. s) p right

pub right_second : {B : Type 0} (P : Spelling (Unit {0})) (Q : Spelling B) (F G : Follow) (e h g : Horizon) (n m : ℕ) → Leads Q G F → (p : Reading (Unit {0})) (q : Reading B)
    → Right P F e h n p → Right Q G h g m q → Right (P >> Q) G e g (n + m) (second p q)
right_second P Q F G e h g n m leads p q one two = adapt (λ x. x.1) (P & Q) (P >> Q) G e g (n + m) (λ ws i j x s. s) (λ ws i j y s. ((tt, y), s, refl)) (both p q) (right_both P Q F G e h g n m leads p q one two)

pub right_first : {A : Type 0} (P : Spelling A) (Q : Spelling (Unit {0})) (F G : Follow) (e h g : Horizon) (n m : ℕ) → Leads Q G F → (p : Reading A) (q : Reading (Unit {0}))
    → Right P F e h n p → Right Q G h g m q → Right (P << Q) G e g (n + m) (first p q)
right_first P Q F G e h g n m leads p q one two = adapt (λ x. x.0) (P & Q) (P << Q) G e g (n + m) (λ ws i j x s. s) (λ ws i j y s. ((y, tt), s, refl)) (both p q) (right_both P Q F G e h g n m leads p q one two)

pub right_ignored : {A : Type 0} (P : Spelling A) (F : Follow) (e h : Horizon) (n : ℕ) (p : Reading A) → Right P F e h n p → Right (ignored P) F e h n (apply (λ _. tt) p)
right_ignored P F e h n p right = adapt (λ _. tt) P (ignored P) F e h n (λ ws i j x s. (x, s)) (λ ws i j y s. (s.0, s.1, refl)) p right

-- ---- one token

abbrev pub Any : Follow
Any vs m = Unit {0}

module _ {A : Type 0} (see : Lexeme → Option A) (regular : Regular (token see)) (ws : List Lexeme) (i : ℕ) (le : i ≤ length ws) where
  look_within : (o : Option Lexeme) (x : A) → slice_get ws i ≡ o → look see o ≡ Some x → i < length ws
  look_within None x e s = absurd cc
  look_within (Some w) x e s = slice_get_within ws i w e

  token_from : (o : Option A) → look see (slice_get ws i) ≡ o → Outcome (token see) Any near near 1 ws i (seen_at i o)
  token_from None e = record {
    seen = omega arith;
    within = le;
    begun = regular.word ws i le;
    none = λ vs m y agree s after. let same = agree i (omega arith) in absurd (cc (same, s.0));
  }
  token_from (Some x) e = record {
    further = omega arith;
    within = let lt = look_within (slice_get ws i) x refl e in omega arith;
    seen = omega arith;
    found = (e, refl);
    forced = λ vs m y agree s after. let same = agree i (omega arith) in (some_is y x (sym s.0 ∙ sym (ap (look see) same) ∙ e), s.1);
  }

-- a token in which something is seen, as in w
pub right_token : {A : Type 0} (see : Lexeme → Option A) (w : Lexeme) (x : A) → see w ≡ Some x → Right (token see) Any near near 1 (token_at see)
right_token see w x seen =
    let regular = token_regular see w x seen in
    record { regular = regular; at = λ ws i le. token_from see regular ws i le (look see (slice_get ws i)) refl }

-- ---- what a spelling begins with

abbrev pub Test : Type 0
Test = Option Lexeme → Bool

-- each spelling begins with a token at which go is b
pub record Starts {A : Type 0} (P : Spelling A) (go : Test) (b : Bool) : Type 0 where
  pub at : (vs : List Lexeme) (i j : ℕ) (x : A) → P vs i j x → go (slice_get vs i) ≡ b

-- what stands there isn't of these
abbrev pub Not : Test → Follow
Not go vs m = go (slice_get vs m) ≡ false

starts_from : {A : Type 0} (see : Lexeme → Option A) (go : Test) (b : Bool) → ((w : Lexeme) (x : A) → see w ≡ Some x → go (Some w) ≡ b) → (o : Option Lexeme) (x : A) → look see o ≡ Some x → go o ≡ b
starts_from see go b h None x e = absurd cc
starts_from see go b h (Some w) x e = h w x e

pub starts_token : {A : Type 0} (see : Lexeme → Option A) (go : Test) (b : Bool) → ((w : Lexeme) (x : A) → see w ≡ Some x → go (Some w) ≡ b) → Starts (token see) go b
starts_token see go b h = record { at = λ vs i j x s. starts_from see go b h (slice_get vs i) x s.0 }

pub same-true : (w v : Lexeme) → same w v ≡ true → w ≡ v
same-true Code Code e = refl
same-true Text Text e = refl
same-true (Letters a) (Letters b) e = ap Letters ((bytes_eq-Decides a b).0 e)
same-true (Number a) (Number b) e = ap Number (eqb-true a b e)
same-true Decimal Decimal e = refl
same-true Arrow Arrow e = refl
same-true TildeArrow TildeArrow e = refl
same-true (Symbol a) (Symbol b) e = ap Symbol (eqb-true a b e)
same-true _ _ e = absurd cc

pub same_self : (w : Lexeme) → same w w ≡ true
same_self (Letters x) = (bytes_eq-Decides x x).1 refl
same_self (Number n) = eq-eqb n n refl
same_self (Symbol b) = eq-eqb b b refl
same_self _ = refl

this_self_if : (b : Bool) (w : Lexeme) → same w w ≡ b → ◌≡◌ {A = Option (Unit {0})} (cond b (some tt) None) (Some tt)
this_self_if true w e = refl
this_self_if false w e = absurd (let t = same_self w in cc (t, e))

-- a token is this token
pub this_self : (w : Lexeme) → this w w ≡ Some tt
this_self w = this_self_if (same w w) w refl

this-is : (w v : Lexeme) (x : Unit {0}) (b : Bool) → same w v ≡ b → cond b (some tt) None ≡ Some x → w ≡ v
this-is w v x true e s = same-true w v e
this-is w v x false e s = absurd cc

pub starts_one : (w : Lexeme) (go : Test) (b : Bool) → go (Some w) ≡ b → Starts (one w) go b
starts_one w go b h = starts_token (this w) go b (λ v x s. let e = this-is w v x (same w v) refl s in subst (λ (u : Lexeme). go (Some u) ≡ b) e h)

-- ---- there or not

module _ {A : Type 0} (P : Spelling A) (F G : Follow) (e h : Horizon) (n : ℕ) (go : Test) (early : (ws : List Lexeme) (i : ℕ) → i + 1 ≤ e ws i) (keeps : (ws : List Lexeme) (i : ℕ) → e ws i ≤ h ws i)
    (starts : Starts P go true) (stops : (vs : List Lexeme) (m : ℕ) → G vs m → go (slice_get vs m) ≡ false) (leads : (vs : List Lexeme) (m : ℕ) → G vs m → F vs m) where
  maybe_forced : (ws vs : List Lexeme) (i m : ℕ) (y : Option A) (x : A) (j : ℕ) → go (slice_get ws i) ≡ true → slice_get ws i ≡ slice_get vs i → optional P vs i m y → G vs m → ((z : A) → P vs i m z → (z ≡ x) × (m ≡ j)) → (y ≡ Some x) × (m ≡ j)
  maybe_forced ws vs i m None x j there same s after inner = absurd (let no = stops vs m after in cc (no, same, s, there))
  maybe_forced ws vs i m (Some z) x j there same s after inner = let e = inner z s in (ap some e.0, e.1)

  maybe_none : (ws vs : List Lexeme) (i m : ℕ) (y : Option A) → go (slice_get ws i) ≡ true → slice_get ws i ≡ slice_get vs i → optional P vs i m y → G vs m → ((z : A) → P vs i m z → ⊥) → ⊥
  maybe_none ws vs i m None there same s after inner = let no = stops vs m after in cc (no, same, s, there)
  maybe_none ws vs i m (Some z) there same s after inner = inner z s

  maybe_empty : (ws vs : List Lexeme) (i m : ℕ) (y : Option A) → go (slice_get ws i) ≡ false → slice_get ws i ≡ slice_get vs i → optional P vs i m y → ◌≡◌ {A = Option A} y None × (m ≡ i)
  maybe_empty ws vs i m None absent same s = (refl, s)
  maybe_empty ws vs i m (Some z) absent same s = absurd (let yes = starts.at vs i m z s in cc (yes, same, absent))

  maybe_there : (ws : List Lexeme) (i : ℕ) → go (slice_get ws i) ≡ true → (r : Result (A × ℕ) ℕ) → Outcome P F e h n ws i r → Outcome (optional P) G e h 0 ws i (r >>= λ a. Ok (Some a.0, a.1))
  maybe_there ws i is_there (Ok a) k = record {
    further = omega (arith, k.further);
    within = k.within;
    seen = k.seen;
    found = k.found;
    forced = λ vs m y agree s after.
        let same = agree i (omega (arith, k.further, early ws a.1, keeps ws a.1)) in
        maybe_forced ws vs i m y a.0 a.1 is_there same s after (λ x t. k.forced vs m x agree t (leads vs m after));
  }
  maybe_there ws i is_there (Err t) k = record {
    seen = k.seen;
    within = k.within;
    begun = begun_there k.begun;
    none = λ vs m y agree s after.
        let same = agree i (omega (arith, k.seen, early ws i)) in
        maybe_none ws vs i m y is_there same s after (λ x u. k.none vs m x agree u (leads vs m after));
  }

  maybe_absent : (ws : List Lexeme) (i : ℕ) → i ≤ length ws → go (slice_get ws i) ≡ false → Outcome (optional P) G e h 0 ws i (Ok (None, i))
  maybe_absent ws i le absent = record {
    further = omega arith;
    within = le;
    seen = keeps ws i;
    found = refl;
    forced = λ vs m y agree s after. let same = agree i (omega (arith, early ws i, keeps ws i)) in maybe_empty ws vs i m y absent same s;
  }

  maybe_at : (p : Reading A) (ws : List Lexeme) (i : ℕ) → i ≤ length ws → Right P F e h n p → (b : Bool) → go (slice_get ws i) ≡ b
      → Outcome (optional P) G e h 0 ws i (cond b (p ws i >>= λ a. Ok (Some a.0, a.1)) (Ok (None, i)))
  maybe_at p ws i le right true t = maybe_there ws i t (p ws i) (right.at ws i le)
  maybe_at p ws i le right false t = maybe_absent ws i le t

  pub right_maybe : (p : Reading A) → Right P F e h n p → Right (optional P) G e h 0 (maybe go p)
  right_maybe p right = record { regular = optional_regular right.regular; at = λ ws i le. maybe_at p ws i le right (go (slice_get ws i)) refl }

-- ---- one or the other

module _ {A : Type 0} (P Q : Spelling A) (F : Follow) (e l r h : Horizon) (n : ℕ) (go : Test) (early : (ws : List Lexeme) (i : ℕ) → i + 1 ≤ e ws i)
    (if_left : (ws : List Lexeme) (i : ℕ) → go (slice_get ws i) ≡ true → e ws i ≤ l ws i) (if_right : (ws : List Lexeme) (i : ℕ) → go (slice_get ws i) ≡ false → e ws i ≤ r ws i)
    (starts : Starts P go true) (others : Starts Q go false) where
  choice_left : (ws : List Lexeme) (i : ℕ) → go (slice_get ws i) ≡ true → (t : Result (A × ℕ) ℕ) → Outcome P F l h n ws i t → Outcome (P or Q) F e h n ws i t
  choice_left ws i is_there (Ok a) k = record {
    further = k.further;
    within = k.within;
    seen = let o = if_left ws i is_there in omega (arith, k.seen);
    found = inl k.found;
    forced = λ vs m y agree s after.
        let same = agree i (omega (arith, k.seen, early ws i, if_left ws i is_there)) in
        elim s [ inl p ↦ k.forced vs m y agree p after | inr q ↦ absurd (let no = others.at vs i m y q in cc (no, same, is_there)) ];
  }
  choice_left ws i is_there (Err t) k = record {
    seen = let o = if_left ws i is_there in omega (arith, k.seen);
    within = k.within;
    begun = begun_left k.begun;
    none = λ vs m y agree s after.
        let same = agree i (omega (arith, k.seen, early ws i, if_left ws i is_there)) in
        elim s [ inl p ↦ k.none vs m y agree p after | inr q ↦ let no = others.at vs i m y q in cc (no, same, is_there) ];
  }

  choice_right : (ws : List Lexeme) (i : ℕ) → go (slice_get ws i) ≡ false → (t : Result (A × ℕ) ℕ) → Outcome Q F r h n ws i t → Outcome (P or Q) F e h n ws i t
  choice_right ws i absent (Ok a) k = record {
    further = k.further;
    within = k.within;
    seen = let o = if_right ws i absent in omega (arith, k.seen);
    found = inr k.found;
    forced = λ vs m y agree s after.
        let same = agree i (omega (arith, k.seen, early ws i, if_right ws i absent)) in
        elim s [ inl p ↦ absurd (let yes = starts.at vs i m y p in cc (yes, same, absent)) | inr q ↦ k.forced vs m y agree q after ];
  }
  choice_right ws i absent (Err t) k = record {
    seen = let o = if_right ws i absent in omega (arith, k.seen);
    within = k.within;
    begun = begun_right k.begun;
    none = λ vs m y agree s after.
        let same = agree i (omega (arith, k.seen, early ws i, if_right ws i absent)) in
        elim s [ inl p ↦ let yes = starts.at vs i m y p in cc (yes, same, absent) | inr q ↦ k.none vs m y agree q after ];
  }

  choice_at : (p q : Reading A) (ws : List Lexeme) (i : ℕ) → i ≤ length ws → Right P F l h n p → Right Q F r h n q → (b : Bool) → go (slice_get ws i) ≡ b → Outcome (P or Q) F e h n ws i (cond b (p ws i) (q ws i))
  choice_at p q ws i le one two true t = choice_left ws i t (p ws i) (one.at ws i le)
  choice_at p q ws i le one two false t = choice_right ws i t (q ws i) (two.at ws i le)

  pub right_choice : (p q : Reading A) → Right P F l h n p → Right Q F r h n q → Right (P or Q) F e h n (choice go p q)
  right_choice p q one two = record { regular = or_regular one.regular two.regular; at = λ ws i le. choice_at p q ws i le one two (go (slice_get ws i)) refl }

-- ---- any number of times

module _ {A : Type 0} (P : Spelling A) (F G : Follow) (h g : Horizon) (n : ℕ) (go : Test) (looks : (ws : List Lexeme) (i : ℕ) → i + 1 ≤ h ws i)
    (shuts : (ws : List Lexeme) (i : ℕ) → go (slice_get ws i) ≡ false → h ws i ≤ g ws i)
    (starts : Starts P go true) (stops : (vs : List Lexeme) (m : ℕ) → G vs m → go (slice_get vs m) ≡ false)
    (leads : (vs : List Lexeme) (m : ℕ) → G vs m → F vs m) (again : (vs : List Lexeme) (i j : ℕ) (x : A) → P vs i j x → F vs i) where
  many_leads : (vs : List Lexeme) (i j : ℕ) (xs : List A) → many P vs i j xs → G vs j → F vs i
  many_leads vs i j [] s after = subst (λ (t : ℕ). F vs t) s (leads vs j after)
  many_leads vs i j (x ∷ xs) s after = again vs i s.0 x s.1

  many_stops : (ws vs : List Lexeme) (i m : ℕ) (ys : List A) → go (slice_get ws i) ≡ false → slice_get ws i ≡ slice_get vs i → many P vs i m ys → ◌≡◌ {A = List A} ys [] × (m ≡ i)
  many_stops ws vs i m [] absent same s = (refl, s)
  many_stops ws vs i m (y ∷ ys) absent same s = absurd (let yes = starts.at vs i s.0 y s.1 in cc (yes, same, absent))

  many_goes : {C : Type 0} (ws vs : List Lexeme) (i m : ℕ) (ys : List A) → go (slice_get ws i) ≡ true → slice_get ws i ≡ slice_get vs i → many P vs i m ys → G vs m
      → ((z : A) (zs : List A) (k : ℕ) → ys ≡ z ∷ zs → P vs i k z → many P vs k m zs → C) → C
  many_goes ws vs i m [] there same s after inner = absurd (let at_end = subst (λ (t : ℕ). G vs t) s after in let no = stops vs i at_end in cc (no, same, there))
  many_goes ws vs i m (y ∷ ys) there same s after inner = inner y ys s.0 refl s.1 s.2

  many_rest : Regular P → (ws : List Lexeme) (i : ℕ) → go (slice_get ws i) ≡ true → (a : A × ℕ) → Known P F h h (suc n) ws i a.0 a.1 → (r : Result (List A × ℕ) ℕ) → Outcome (many P) G h g 0 ws a.1 r
      → Outcome (many P) G h g 0 ws i (r >>= λ b. Ok (a.0 ∷ b.0, b.1))
  many_rest regular ws i is_there a k (Ok b) l = record {
    further = omega (arith, k.further, l.further);
    within = l.within;
    seen = omega (arith, k.seen, l.seen);
    found = (a.1, k.found, l.found);
    forced = λ vs m ys agree s after.
        let same = agree i (omega (arith, k.seen, l.seen, looks ws i)) in
        many_goes ws vs i m ys is_there same s after (λ z zs t made_of one rest.
        let x = k.forced vs t z (fewer _ _ ws vs l.seen agree) one (many_leads vs t m zs rest after) in
        let y = l.forced vs m zs agree (subst (λ (o : ℕ). many P vs o m zs) x.1 rest) after in
        (made_of ∙ ap (λ (o : A). o ∷ zs) x.0 ∙ ap (λ (o : List A). a.0 ∷ o) y.0, y.1));
  }
  many_rest regular ws i is_there a k (Err t) l = record {
    seen = omega (arith, k.seen, l.seen);
    within = l.within;
    begun = begun_more regular a.0 k.found l.begun;
    none = λ vs m ys agree s after.
        let same = agree i (omega (arith, k.seen, l.seen, looks ws i)) in
        many_goes ws vs i m ys is_there same s after (λ z zs o made_of one rest.
        let x = k.forced vs o z (fewer _ _ ws vs l.seen agree) one (many_leads vs o m zs rest after) in
        l.none vs m zs agree (subst (λ (u : ℕ). many P vs u m zs) x.1 rest) after);
  }

  many_more : Regular P → (p : Reading A) (ws : List Lexeme) (count i : ℕ) → go (slice_get ws i) ≡ true → (r : Result (A × ℕ) ℕ) → Outcome P F h h (suc n) ws i r
      → ((j : ℕ) → i < j → j ≤ length ws → Outcome (many P) G h g 0 ws j (many_at go p count ws j))
      → Outcome (many P) G h g 0 ws i (r >>= λ a. many_at go p count ws a.1 >>= λ b. Ok (a.0 ∷ b.0, b.1))
  many_more regular p ws count i is_there (Ok a) k rest = many_rest regular ws i is_there a k (many_at go p count ws a.1) (rest a.1 (omega (arith, k.further)) k.within)
  many_more regular p ws count i is_there (Err t) k rest = record {
    seen = k.seen;
    within = k.within;
    begun = begun_item regular k.begun;
    none = λ vs m ys agree s after.
        let same = agree i (omega (arith, k.seen, looks ws i)) in
        many_goes ws vs i m ys is_there same s after (λ z zs o made_of one later. k.none vs o z agree one (many_leads vs o m zs later after));
  }

  many_case : (p : Reading A) (ws : List Lexeme) (count i : ℕ) → i ≤ length ws → Right P F h h (suc n) p → (b : Bool) → go (slice_get ws i) ≡ b
      → ((j : ℕ) → i < j → j ≤ length ws → Outcome (many P) G h g 0 ws j (many_at go p count ws j))
      → Outcome (many P) G h g 0 ws i (cond b (p ws i >>= λ a. many_at go p count ws a.1 >>= λ b. Ok (a.0 ∷ b.0, b.1)) (Ok ([], i)))
  many_case p ws count i le right true t rest = many_more right.regular p ws count i t (p ws i) (right.at ws i le) rest
  many_case p ws count i le right false t rest = record {
    further = omega arith;
    within = le;
    seen = shuts ws i t;
    found = refl;
    forced = λ vs m ys agree s after. let same = agree i (omega (arith, looks ws i, shuts ws i t)) in many_stops ws vs i m ys t same s;
  }

  many_from : (p : Reading A) (ws : List Lexeme) (count i : ℕ) → i ≤ length ws → length ws < i + count → Right P F h h (suc n) p → Outcome (many P) G h g 0 ws i (many_at go p count ws i)
  unfolding many_at
  many_from p ws zero i le enough right = absurd (omega arith)
  many_from p ws (suc count) i le enough right = many_case p ws count i le right (go (slice_get ws i)) refl (λ j lt within. many_from p ws count j within (omega arith) right)

  pub right_repeated : (p : Reading A) → Right P F h h (suc n) p → Right (many P) G h g 0 (repeated go p)
  right_repeated p right = record { regular = many_regular right.regular; at = λ ws i le. many_from p ws (suc (length ws)) i le (omega arith) right }

-- ---- promising less

loosen_at : {A : Type 0} (P : Spelling A) (F G : Follow) (d e g h : Horizon) (m n : ℕ) → ((vs : List Lexeme) (i : ℕ) → G vs i → F vs i)
    → ((ws : List Lexeme) (i : ℕ) → d ws i ≤ e ws i) → ((ws : List Lexeme) (i : ℕ) → h ws i ≤ g ws i) → m ≤ n → (ws : List Lexeme) (i : ℕ) (r : Result (A × ℕ) ℕ) → Outcome P F e h n ws i r → Outcome P G d g m ws i r
loosen_at P F G d e g h m n leads sooner later le ws i (Ok a) k = record {
  further = omega (arith, k.further);
  within = k.within;
  seen = omega (arith, k.seen, sooner ws i, later ws a.1);
  found = k.found;
  forced = λ vs o y agree s after. k.forced vs o y (fewer _ _ ws vs (later ws a.1) agree) s (leads vs o after);
}
loosen_at P F G d e g h m n leads sooner later le ws i (Err t) k = record {
  seen = omega (arith, k.seen, sooner ws i);
  within = k.within;
  begun = k.begun;
  none = λ vs o y agree s after. k.none vs o y agree s (leads vs o after);
}

pub loosen : {A : Type 0} {P : Spelling A} {F : Follow} {e h : Horizon} {n : ℕ} {p : Reading A} (G : Follow) (d g : Horizon) (m : ℕ) → ((vs : List Lexeme) (i : ℕ) → G vs i → F vs i)
    → ((ws : List Lexeme) (i : ℕ) → d ws i ≤ e ws i) → ((ws : List Lexeme) (i : ℕ) → h ws i ≤ g ws i) → m ≤ n → Right P F e h n p → Right P G d g m p
loosen {A = A} {P = P} {F = F} {e = e} {h = h} {n = n} {p = p} G d g m leads sooner later fewer_of right = record { regular = right.regular; at = λ ws i le. loosen_at P F G d e g h m n leads sooner later fewer_of ws i (p ws i) (right.at ws i le) }

-- ---- one or the other, by the second token

-- each spelling has at its second token that go is b
pub record StartsNext {A : Type 0} (P : Spelling A) (go : Test) (b : Bool) : Type 0 where
  pub at : (vs : List Lexeme) (i j : ℕ) (x : A) → P vs i j x → go (slice_get vs (i + 1)) ≡ b

module _ {A : Type 0} (P Q : Spelling A) (F : Follow) (e h : Horizon) (n : ℕ) (head go : Test) (early : (ws : List Lexeme) (i : ℕ) → i + 1 ≤ e ws i) (two : (ws : List Lexeme) (i : ℕ) → head (slice_get ws i) ≡ true → e ws i ≡ i + 1 + 1)
    (p_starts : Starts P head true) (q_starts : Starts Q head true) (p_next : StartsNext P go true) (q_next : StartsNext Q go false) where
  next_apart : (ws vs : List Lexeme) (i t m : ℕ) (y : A) → e ws i ≤ t → Agree t ws vs → go (slice_get ws (i + 1)) ≡ true → Q vs i m y → (b : Bool) → head (slice_get ws i) ≡ b → ⊥
  next_apart ws vs i t m y le agree there q true f =
      let w = two ws i f in
      let same1 = agree (i + 1) (omega arith) in
      let other = q_next.at vs i m y q in
      cc (same1, other, there)
  next_apart ws vs i t m y le agree there q false f =
      let same0 = agree i (omega (arith, early ws i)) in
      let other = q_starts.at vs i m y q in
      cc (same0, other, f)

  next_apart_too : (ws vs : List Lexeme) (i t m : ℕ) (y : A) → e ws i ≤ t → Agree t ws vs → go (slice_get ws (i + 1)) ≡ false → P vs i m y → (b : Bool) → head (slice_get ws i) ≡ b → ⊥
  next_apart_too ws vs i t m y le agree there q true f =
      let w = two ws i f in
      let same1 = agree (i + 1) (omega arith) in
      let other = p_next.at vs i m y q in
      cc (same1, other, there)
  next_apart_too ws vs i t m y le agree there q false f =
      let same0 = agree i (omega (arith, early ws i)) in
      let other = p_starts.at vs i m y q in
      cc (same0, other, f)

  next_left : (ws : List Lexeme) (i : ℕ) → go (slice_get ws (i + 1)) ≡ true → (t : Result (A × ℕ) ℕ) → Outcome P F e h n ws i t → Outcome (P or Q) F e h n ws i t
  next_left ws i there (Ok a) k = record {
    further = k.further;
    within = k.within;
    seen = k.seen;
    found = inl k.found;
    forced = λ vs m y agree s after. elim s [ inl p ↦ k.forced vs m y agree p after | inr q ↦ absurd (next_apart ws vs i (h ws a.1) m y k.seen agree there q (head (slice_get ws i)) refl) ];
  }
  next_left ws i there (Err t) k = record {
    seen = k.seen;
    within = k.within;
    begun = begun_left k.begun;
    none = λ vs m y agree s after. elim s [ inl p ↦ k.none vs m y agree p after | inr q ↦ next_apart ws vs i (suc t) m y k.seen agree there q (head (slice_get ws i)) refl ];
  }

  next_right : (ws : List Lexeme) (i : ℕ) → go (slice_get ws (i + 1)) ≡ false → (t : Result (A × ℕ) ℕ) → Outcome Q F e h n ws i t → Outcome (P or Q) F e h n ws i t
  next_right ws i there (Ok a) k = record {
    further = k.further;
    within = k.within;
    seen = k.seen;
    found = inr k.found;
    forced = λ vs m y agree s after. elim s [ inl p ↦ absurd (next_apart_too ws vs i (h ws a.1) m y k.seen agree there p (head (slice_get ws i)) refl) | inr q ↦ k.forced vs m y agree q after ];
  }
  next_right ws i there (Err t) k = record {
    seen = k.seen;
    within = k.within;
    begun = begun_right k.begun;
    none = λ vs m y agree s after. elim s [ inl p ↦ next_apart_too ws vs i (suc t) m y k.seen agree there p (head (slice_get ws i)) refl | inr q ↦ k.none vs m y agree q after ];
  }

  next_at : (p q : Reading A) (ws : List Lexeme) (i : ℕ) → i ≤ length ws → Right P F e h n p → Right Q F e h n q → (b : Bool) → go (slice_get ws (i + 1)) ≡ b → Outcome (P or Q) F e h n ws i (cond b (p ws i) (q ws i))
  next_at p q ws i le one other true t = next_left ws i t (p ws i) (one.at ws i le)
  next_at p q ws i le one other false t = next_right ws i t (q ws i) (other.at ws i le)

  pub right_choice_next : (p q : Reading A) → Right P F e h n p → Right Q F e h n q → Right (P or Q) F e h n (choice_next go p q)
  right_choice_next p q one other = record { regular = or_regular one.regular other.regular; at = λ ws i le. next_at p q ws i le one other (go (slice_get ws (i + 1))) refl }

-- ---- which tokens

range_at_from : (P : Spelling (Unit {0})) (F : Follow) (e h : Horizon) (n : ℕ) (ws : List Lexeme) (i : ℕ) (r : Result (Unit {0} × ℕ) ℕ) → Outcome P F e h n ws i r → Outcome (range P) F e h n ws i (r >>= λ a. Ok ((i, a.1), a.1))
range_at_from P F e h n ws i (Ok a) k = record {
  further = k.further;
  within = k.within;
  seen = k.seen;
  found = (k.found, refl);
  forced = λ vs m y agree s after. let z = k.forced vs m tt agree s.0 after in (s.1 ∙ ap (λ (t : ℕ). (i, t)) z.1, z.1);
}
range_at_from P F e h n ws i (Err t) k = record { seen = k.seen; within = k.within; begun = begun_range k.begun; none = λ vs m y agree s after. k.none vs m tt agree s.0 after }

pub right_range : (P : Spelling (Unit {0})) (F : Follow) (e h : Horizon) (n : ℕ) (p : Reading (Unit {0})) → Right P F e h n p → Right (range P) F e h n (range_at p)
right_range P F e h n p right = record { regular = range_regular right.regular; at = λ ws i le. range_at_from P F e h n ws i (p ws i) (right.at ws i le) }

-- ---- another text of the same reading

pub same_reading : {A : Type 0} {P : Spelling A} {F : Follow} {e h : Horizon} {n : ℕ} {p : Reading A} (q : Reading A) → ((ws : List Lexeme) (i : ℕ) → p ws i ≡ q ws i) → Right P F e h n p → Right P F e h n q
same_reading {A = A} {P = P} {F = F} {e = e} {h = h} {n = n} q same_at right = record { regular = right.regular; at = λ ws i le. subst (λ (r : Result (A × ℕ) ℕ). Outcome P F e h n ws i r) (same_at ws i) (right.at ws i le) }
