-- Delays folded along a chain.
use Rattle.std.proofs.Common.{◌≡◌, ℕ, zero, suc, ◌+◌, ◌<◌, ◌≤◌, inl, inr, List, [], ◌∷◌, ◌++◌, length, refl, sym, ap, ◌∙◌, arith, Option, Some, None, IfSome, sum}
use Rattle.std.{specs.Option.MatchOption, proofs.lemmas.{Bool.cases_lt, List.Sums.sum_by-cons}}
use Rattle.lft_tag.specs.{Shifts.{join, join_all, none, HasRoom, Folded}, declared.Shift.Shift}
use Rattle.lft_resolve.specs.inner.Expansion.Sources.{IsFolded}

pub join_push : (x : Folded) (ds : List ℕ) (d : ℕ) → join_all x (ds ++ d ∷ []) ≡ join (join_all x ds) d
join_push x [] d = refl
join_push x (e ∷ ds) d = join_push (join x e) ds d

join_time : (x : Folded) (d : ℕ) → (join x d).0 ≡ x.0 + d
join_time x zero = omega arith
join_time x (suc d) = refl

pub time_sum : (x : Folded) (ds : List ℕ) → (join_all x ds).0 ≡ x.0 + sum ds
time_sum x [] = omega arith
time_sum x (d ∷ ds) = let a : (join_all x (d ∷ ds)).0 ≡ (join x d).0 + sum ds = time_sum (join x d) ds in let b = join_time x d in let e : sum (d ∷ ds) ≡ d + sum ds = sum_by-cons (λ z. z) d ds in omega arith

join_steps : (x : Folded) (ds : List ℕ) → (join_all x ds).1 ≤ x.1 + length ds
join_steps x [] = omega arith
join_steps x (zero ∷ ds) = let a = join_steps (join x zero) ds in omega arith
join_steps x (suc d ∷ ds) = let a = join_steps (join x (suc d)) ds in omega arith

-- a shift has no more steps than delays are folded in it
pub few_steps : (delays : List ℕ) (shift : Option Shift) (n : ℕ) → IsFolded delays shift → length delays < n → IfSome shift (λ s. s.steps < n)
few_steps delays None n f l = tt
few_steps delays (Some s) n f l = let a = join_steps none delays in let b : (join_all none delays).1 ≡ s.steps = ap (λ x. x.1) f in omega arith

pub sum_push : (xs : List ℕ) (y : ℕ) → sum (xs ++ y ∷ []) ≡ sum xs + y
sum_push [] y = omega arith
sum_push (x ∷ xs) y = let a = sum_push xs y in let e : sum (x ∷ xs) ≡ x + sum xs = sum_by-cons (λ z. z) x xs in let f : sum ((x ∷ xs) ++ y ∷ []) ≡ x + sum (xs ++ y ∷ []) = sum_by-cons (λ z. z) x (xs ++ y ∷ []) in omega arith

no_room : (t st d : ℕ) → t ≤ 1000000000000000000 → st < 100000 → (HasRoom (join (t, st) d) → ⊥) → 1000000000000000000 < t + d
no_room t st zero a b n = absurd (n (a, omega arith))
no_room t st (suc d) a b n = elim (cases_lt 1000000000000000000 (t + suc d)) [ inl l ↦ l | inr g ↦ absurd (n (g, omega arith)) ]

pub folded_then : (s : Shift) (d : ℕ) (r : Option Shift) (delays : List ℕ) → s.steps < 100000 → IsFolded delays (Some s) → MatchOption r (HasRoom (join (s.time, s.steps) d) → ⊥) (λ x. HasRoom (join (s.time, s.steps) d) × ((x.time, x.steps) ≡ join (s.time, s.steps) d)) → IsFolded (delays ++ d ∷ []) r
folded_then s d None delays few f m =
    let t : s.time ≡ 0 + sum delays = sym (ap (λ x. x.0) f) ∙ time_sum none delays in
    let l = no_room s.time s.steps d s.in_time few m in
    let e = sum_push delays d in
    omega arith
folded_then s d (Some x) delays few f m = join_push none delays d ∙ ap (λ y. join y d) f ∙ sym m.1
