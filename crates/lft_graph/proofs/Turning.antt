-- A circle backwards, turned, is a loop.
use Rattle.std.proofs.Common.{◌≡◌, ℕ, ◌+◌, ◌-◌, ◌<◌, ◌≤◌, ◌⊎◌, inl, inr, List, length, sym, ◌∙◌, subst, arith, Some, slice_get}
use Rattle.std.proofs.lemmas.{Option.slice_get_within, Bool.{cases_lt, Decides.nat_tests}}
use Rattle.lft_lists.specs.Walks.{IsCircle}
use Rattle.lft_graph.specs.{Loops.IsLoopOf, inner.Walks.{turned, IsTurned}}

turned_low : (place total step : ℕ) → step ≤ place → turned place total step ≡ place - step
turned_low place total step l = grind (arith, nat_tests)

turned_high : (place total step : ℕ) → place < step → turned place total step ≡ (total + place) - step
turned_high place total step l = grind (arith, nat_tests)

module _ (Step : ℕ → ℕ → Type 0) (circle loop : List ℕ) (is : IsCircle (λ a b. Step b a) circle) (cut : IsTurned circle loop) where
  -- what stands at a step of the turn
  stands : (t a : ℕ) → slice_get loop t ≡ Some a → slice_get circle (turned cut.place (length circle) t) ≡ Some a
  stands t a e = sym (cut.turns t (slice_get_within loop t a e)) ∙ e

  at_low : (t a : ℕ) → t ≤ cut.place → slice_get loop t ≡ Some a → slice_get circle (cut.place - t) ≡ Some a
  at_low t a l e = subst (λ k. slice_get circle k ≡ Some a) (turned_low cut.place (length circle) t l) (stands t a e)

  at_high : (t a : ℕ) → cut.place < t → slice_get loop t ≡ Some a → slice_get circle ((length circle + cut.place) - t) ≡ Some a
  at_high t a l e = subst (λ k. slice_get circle k ≡ Some a) (turned_high cut.place (length circle) t l) (stands t a e)

  down : (i j a b : ℕ) → j + 1 ≡ i → slice_get circle i ≡ Some a → slice_get circle j ≡ Some b → Step a b
  down i j a b e f g = is.steps j b a g (subst (λ k. slice_get circle k ≡ Some a) (sym e) f)

  -- from the first one of the circle on to its last one
  over : (i j a b : ℕ) → i ≡ 0 → j + 1 ≡ length circle → slice_get circle i ≡ Some a → slice_get circle j ≡ Some b → Step a b
  over i j a b e f g h = is.closes j b a f h (subst (λ k. slice_get circle k ≡ Some a) e g)

  next : (t a b : ℕ) → slice_get loop t ≡ Some a → slice_get loop (t + 1) ≡ Some b → Step a b
  next t a b e f = by (cases_lt t cut.place) (cases_lt cut.place t)
    where
      inside : t + 1 < length loop
      inside = slice_get_within loop (t + 1) b f

      by : (t < cut.place) ⊎ (cut.place ≤ t) → (cut.place < t) ⊎ (t ≤ cut.place) → Step a b
      by (inl l) _ = down (cut.place - t) (cut.place - (t + 1)) a b (omega arith) (at_low t a (omega arith) e) (at_low (t + 1) b (omega arith) f)
      by (inr l) (inl h) = let w = cut.as_long in down ((length circle + cut.place) - t) ((length circle + cut.place) - (t + 1)) a b (omega (arith, inside)) (at_high t a h e) (at_high (t + 1) b (omega arith) f)
      by (inr l) (inr h) = let w = cut.within in over (cut.place - t) ((length circle + cut.place) - (t + 1)) a b (omega arith) (omega arith) (at_low t a h e) (at_high (t + 1) b (omega arith) f)

  back : (t a b : ℕ) → t + 1 ≡ length loop → slice_get loop t ≡ Some a → slice_get loop 0 ≡ Some b → Step a b
  back t a b s e f = by (cases_lt cut.place t)
    where
      first : slice_get circle (cut.place - 0) ≡ Some b
      first = at_low 0 b (omega arith) f

      by : (cut.place < t) ⊎ (t ≤ cut.place) → Step a b
      by (inl h) = let w = cut.as_long in down ((length circle + cut.place) - t) (cut.place - 0) a b (omega arith) (at_high t a h e) first
      by (inr h) = let w = cut.as_long in let v = cut.within in over (cut.place - t) (cut.place - 0) a b (omega arith) (omega arith) (at_low t a h e) first

  turned_once : (i j : ℕ) → i < length loop → j < length loop → turned cut.place (length circle) i ≡ turned cut.place (length circle) j → i ≡ j
  turned_once i j l m e = by (cases_lt cut.place i) (cases_lt cut.place j)
    where
      by : (cut.place < i) ⊎ (i ≤ cut.place) → (cut.place < j) ⊎ (j ≤ cut.place) → i ≡ j
      by (inl p) (inl q) = let a = turned_high cut.place (length circle) i p in let b = turned_high cut.place (length circle) j q in let w = cut.as_long in omega arith
      by (inl p) (inr q) = let a = turned_high cut.place (length circle) i p in let b = turned_low cut.place (length circle) j q in let w = cut.as_long in omega arith
      by (inr p) (inl q) = let a = turned_low cut.place (length circle) i p in let b = turned_high cut.place (length circle) j q in let w = cut.as_long in omega arith
      by (inr p) (inr q) = let a = turned_low cut.place (length circle) i p in let b = turned_low cut.place (length circle) j q in omega arith

  pub turned_loop : IsLoopOf Step loop
  turned_loop = record {
    circle = record {
      some = let w = cut.as_long in let v = cut.within in omega arith;
      steps = next;
      closes = back;
      once = λ i j a e f. turned_once i j (slice_get_within loop i a e) (slice_get_within loop j a f) (is.once (turned cut.place (length circle) i) (turned cut.place (length circle) j) a (stands i a e) (stands j a f));
    };
    least_first = λ i a b e f. cut.least (turned cut.place (length circle) i) b a (stands i b f) (subst (λ k. slice_get circle k ≡ Some a) (let z : cut.place - 0 ≡ cut.place = omega arith in z) (at_low 0 a (omega arith) e));
  }
