-- A loop that reads one value after the other.
use Rattle.std.proofs.Common.{◌≡◌, ℕ, zero, suc, ◌+◌, ◌≤◌, ◌<◌, true, false, List, [], ◌∷◌, ◌++◌, length, None, Result, Ok, Err, refl, sym, ap, subst, ◌∙◌, append_assoc, arith, inl, inr}
use Rattle.std.specs.Prelude.{slice_get}
use Rattle.std.proofs.lemmas.{List.append-nil, Option.slice_get_cases}
use Rattle.lft_syntax.specs.{declared.parse_error.ParseError.ParseError, Lexeme.{Lexeme, is_there}}
use Rattle.lft_syntax.specs.{inner.{View.{Fails, at_next}, Reading.{Reading, ◌>>=◌, many_at, repeated, with_front, ignoring_at}}, Language.Spelling}
use Rattle.lft_syntax.proofs.Algebra.{Follow, Horizon, Right, Known, Outcome, Test}
use Rattle.lft_syntax.specs.declared.parse_error.ParseError.TheVariants as errors

-- where a test is passed that nothing past the end passes, a token stands
pub inside : (go : Test) → go None ≡ false → (ws : List Lexeme) (at : ℕ) → go (slice_get ws at) ≡ true → at ≤ length ws
inside go past ws at t =
    elim (slice_get_cases ws at).1 [
      | inl a ↦ let lt = a.1 in omega arith
      | inr b ↦ absurd (cc (ap go b.1, past, t))
    ]

-- no token stands at the end of what was read
pub all_read : (ws : List Lexeme) (at : ℕ) → at ≤ length ws → is_there (slice_get ws at) ≡ false → at ≡ length ws
all_read ws at le t =
    elim (slice_get_cases ws at).1 [
      | inl a ↦ absurd (let there = a.1 in cc (ap is_there a.2, t))
      | inr b ↦ omega (arith, le, b.0)
    ]

-- what is read is spelled
pub known : {A : Type 0} {P : Spelling A} {F : Follow} {e h : Horizon} {p : Reading A} {n : ℕ} → Right P F e h n p → (ws : List Lexeme) (at : ℕ) → at ≤ length ws → (x : A) (j : ℕ) → p ws at ≡ Ok (x, j)
    → Known P F e h n ws at x j
known {A = A} {P = P} {F = F} {e = e} {h = h} {n = n} right ws at le x j r = subst (λ (o : Result (A × ℕ) ℕ). Outcome P F e h n ws at o) r (right.at ws at le)

-- an item takes a token, and ends within the text
pub item_ends : {A : Type 0} {P : Spelling A} {F : Follow} {e h : Horizon} {p : Reading A} (n : ℕ) → Right P F e h (suc n) p → (ws : List Lexeme) (at : ℕ) → at ≤ length ws → (x : A) (j : ℕ) → p ws at ≡ Ok (x, j)
    → (at < j) × (j ≤ length ws)
item_ends {A = A} {P = P} {F = F} {e = e} {h = h} {p = p} n right ws at le x j r =
    let k : Known P F e h (suc n) ws at x j = known right ws at le x j r in
    let further = k.further in
    (omega arith, k.within)

-- ---- a loop that keeps the values

-- the values so far, and those that are read from a place on, are all
pub record SoFar {A : Type 0} (go : Test) (p : Reading A) (ws : List Lexeme) (front : List A) (at : ℕ) (total : Result (List A × ℕ) ℕ) : Type 0 where
  pub left : ℕ
  pub enough : length ws < at + suc left
  pub rest : with_front front (many_at go p (suc left) ws at) ≡ total

regroup : {A : Type 0} (front : List A) (x : A) (r : Result (List A × ℕ) ℕ) → with_front front (r >>= λ b. Ok (x ∷ b.0, b.1)) ≡ with_front (front ++ x ∷ []) r
regroup {A = A} front x (Ok b) = ap (λ (xs : List A). Ok (xs, b.1)) (simp append_assoc)
regroup front x (Err e) = refl

module _ {A : Type 0} (go : Test) (p : Reading A) (ws : List Lexeme) (total : Result (List A × ℕ) ℕ) where
  turn : (left at : ℕ) (front : List A) (x : A) (j : ℕ) → length ws < at + suc left → go (slice_get ws at) ≡ true → p ws at ≡ Ok (x, j) → at < j → j ≤ length ws
      → with_front front (many_at go p (suc left) ws at) ≡ total → SoFar go p ws (front ++ x ∷ []) j total
  unfolding many_at
  turn zero at front x j enough t r lt within so_far = absurd (omega arith)
  turn (suc left) at front x j enough t r lt within so_far =
      let here : with_front front (many_at go p (suc (suc left)) ws at) ≡ with_front (front ++ x ∷ []) (many_at go p (suc left) ws j) = rw (t, r) (regroup front x (many_at go p (suc left) ws j)) in
      record { left = left; enough = omega arith; rest = sym here ∙ so_far }

  fails : (left at : ℕ) (front : List A) (e : ParseError) → go (slice_get ws at) ≡ true → Fails e (p ws at)
      → with_front front (many_at go p (suc left) ws at) ≡ total → Fails e total
  unfolding many_at
  fails left at front errors.Memory t r so_far = tt
  fails left at front (errors.Unexpected k) t r so_far =
      let here : with_front front (many_at go p (suc left) ws at) ≡ Err k = rw (t, r) refl in
      sym so_far ∙ here

  done : (left at : ℕ) (front : List A) → go (slice_get ws at) ≡ false → with_front front (many_at go p (suc left) ws at) ≡ total → total ≡ Ok (front, at)
  unfolding many_at
  done left at front t so_far =
      let here : with_front front (many_at go p (suc left) ws at) ≡ Ok (front, at) = rw t (ap (λ (xs : List A). Ok (xs, at)) (append-nil front)) in
      sym so_far ∙ here

  pub loop_fails : (front : List A) (at : ℕ) (e : ParseError) → SoFar go p ws front at total → go (slice_get ws at) ≡ true → Fails e (p ws at) → Fails e total
  loop_fails front at e s t r = fails s.left at front e t r s.rest

  pub loop_done : (front : List A) (at : ℕ) → SoFar go p ws front at total → go (slice_get ws at) ≡ false → total ≡ Ok (front, at)
  loop_done front at s t = done s.left at front t s.rest

  pub loop_turns : {P : Spelling A} {F : Follow} {e h : Horizon} (n : ℕ) → Right P F e h (suc n) p → (front : List A) (at : ℕ) (x : A) (j : ℕ) → SoFar go p ws front at total → at ≤ length ws → go (slice_get ws at) ≡ true → p ws at ≡ Ok (x, j)
      → SoFar go p ws (front ++ x ∷ []) j total × (at < j) × (j ≤ length ws)
  loop_turns n right front at x j s le t r =
      let w = item_ends n right ws at le x j r in
      (turn s.left at front x j s.enough t r w.0 w.1 s.rest, w.0, w.1)

with_none : {A : Type 0} (r : Result (List A × ℕ) ℕ) → with_front [] r ≡ r
with_none (Ok b) = refl
with_none (Err e) = refl

pub loop_starts : {A : Type 0} (go : Test) (p : Reading A) (ws : List Lexeme) (at : ℕ) → SoFar go p ws [] at (repeated go p ws at)
loop_starts go p ws at = record { left = length ws; enough = omega arith; rest = with_none (many_at go p (suc (length ws)) ws at) }

pub loop_starts_behind : {A : Type 0} (go : Test) (p : Reading A) (ws : List Lexeme) (x : A) (at : ℕ) → SoFar go p ws (x ∷ []) at (with_front (x ∷ []) (repeated go p ws at))
loop_starts_behind go p ws x at = record { left = length ws; enough = omega arith; rest = refl }

-- ---- a loop that passes over what it reads

-- the place, without the values
abbrev place : Result (List (Unit {0}) × ℕ) ℕ → Result (Unit {0} × ℕ) ℕ
place r = r >>= λ a. Ok (tt, a.1)

-- what is passed from a place on is all
pub record Passing (go : Test) (p : Reading (Unit {0})) (ws : List Lexeme) (at : ℕ) (total : Result (Unit {0} × ℕ) ℕ) : Type 0 where
  pub left : ℕ
  pub enough : length ws < at + suc left
  pub rest : place (many_at go p (suc left) ws at) ≡ total

same_place : (r : Result (List (Unit {0}) × ℕ) ℕ) → place (r >>= λ b. Ok (tt ∷ b.0, b.1)) ≡ place r
same_place (Ok b) = refl
same_place (Err e) = refl

module _ (go : Test) (p : Reading (Unit {0})) (ws : List Lexeme) (total : Result (Unit {0} × ℕ) ℕ) where
  step : (left at j : ℕ) → length ws < at + suc left → go (slice_get ws at) ≡ true → p ws at ≡ Ok (at_next j) → at < j → j ≤ length ws
      → place (many_at go p (suc left) ws at) ≡ total → Passing go p ws j total
  unfolding many_at
  step zero at j enough t r lt within so_far = absurd (omega arith)
  step (suc left) at j enough t r lt within so_far =
      let here : place (many_at go p (suc (suc left)) ws at) ≡ place (many_at go p (suc left) ws j) = rw (t, r) (same_place (many_at go p (suc left) ws j)) in
      record { left = left; enough = omega arith; rest = sym here ∙ so_far }

  stops : (left at : ℕ) (e : ParseError) → go (slice_get ws at) ≡ true → Fails e (p ws at) → place (many_at go p (suc left) ws at) ≡ total → Fails e total
  unfolding many_at
  stops left at errors.Memory t r so_far = tt
  stops left at (errors.Unexpected k) t r so_far =
      let here : place (many_at go p (suc left) ws at) ≡ Err k = rw (t, r) refl in
      sym so_far ∙ here

  ends : (left at : ℕ) → go (slice_get ws at) ≡ false → place (many_at go p (suc left) ws at) ≡ total → total ≡ Ok (at_next at)
  unfolding many_at
  ends left at t so_far =
      let here : place (many_at go p (suc left) ws at) ≡ Ok (at_next at) = rw t refl in
      sym so_far ∙ here

  pub passing_fails : (at : ℕ) (e : ParseError) → Passing go p ws at total → go (slice_get ws at) ≡ true → Fails e (p ws at) → Fails e total
  passing_fails at e s t r = stops s.left at e t r s.rest

  pub passing_done : (at : ℕ) → Passing go p ws at total → go (slice_get ws at) ≡ false → total ≡ Ok (at_next at)
  passing_done at s t = ends s.left at t s.rest

  pub passing_turns : {P : Spelling (Unit {0})} {F : Follow} {e h : Horizon} (n : ℕ) → Right P F e h (suc n) p → (at j : ℕ) → Passing go p ws at total → at ≤ length ws → go (slice_get ws at) ≡ true → p ws at ≡ Ok (at_next j)
      → Passing go p ws j total × (at < j) × (j ≤ length ws)
  passing_turns n right at j s le t r =
      let w = item_ends n right ws at le tt j r in
      (step s.left at j s.enough t r w.0 w.1 s.rest, w.0, w.1)

pub passing_starts : (go : Test) (p : Reading (Unit {0})) (ws : List Lexeme) (at : ℕ) → Passing go p ws at (ignoring_at (repeated go p) ws at)
passing_starts go p ws at = record { left = length ws; enough = omega arith; rest = refl }
