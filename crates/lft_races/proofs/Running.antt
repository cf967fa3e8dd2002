-- Which reactions have a run at a tag.
use Rattle.std.proofs.Common.{◌≡◌, ℕ, ◌+◌, ◌<◌, ◌≤◌, ◌⊎◌, inl, inr, Bool, true, false, List, length, replicate, sym, ap, ◌∙◌, subst, arith, Some, slice_get, slice_set}
use native.Mathlib.Decide.{ℕ_discrete}
use Rattle.lft_lists.proofs.Places.{get_same, get_write_cases, get_written, get_unwritten, Some_same}
use Rattle.lft_tag.specs.declared.Tag.{Tag}
use Rattle.lft_ir.specs.declared.steps.row.Row.{Row}
use Rattle.lft_model.{specs.Runs.start_row, proofs.Places.slice_get_within}
use Rattle.lft_races.specs.{Runs.StartsAt, inner.Runs.{HaveRunBefore, HaveRun}}

pub run_none : (t : List Row) (g : Tag) (n : ℕ) (ran : List Bool) → ran ≡ replicate n false → HaveRunBefore t g 0 ran
run_none t g n ran e r = (λ q. let z : true ≡ false = get_same n r false true (ap (λ bs. slice_get bs r) (sym e) ∙ q) in absurd (cc), λ x. let l : x.0 < 0 = x.1 in absurd (omega arith))

pub run_all : (t : List Row) (g : Tag) (i : ℕ) (ran : List Bool) → length t ≤ i → HaveRunBefore t g i ran → HaveRun t g ran
run_all t g i ran all so_far r = (λ q. let x = (so_far r).0 q in record { place = x.0; worker = x.2.0; starts = x.2.1 }, λ x. let l : x.place < length t = slice_get_within t x.place (start_row x.worker g r) x.starts in (so_far r).1 (x.place, omega arith, (x.worker, x.starts)))

module _ (t : List Row) (g : Tag) (i : ℕ) (row : Row) (is : slice_get t i ≡ Some row) where
  of_row : (r : ℕ) → StartsAt t g r i → r ≡ row.reaction
  of_row r s = ap (λ (x : Row). x.reaction) (Some_same (start_row s.0 g r) row (sym s.1 ∙ is))

  pub run_same : (ran : List Bool) → ¬ StartsAt t g row.reaction i → HaveRunBefore t g i ran → HaveRunBefore t g (i + 1) ran
  run_same ran none so_far r = (λ q. let x = (so_far r).0 q in let l : x.0 < i = x.1 in (x.0, omega arith, x.2), λ x. back x.0 x.1 x.2 (ℕ_discrete x.0 i))
    where
      back : (j : ℕ) → j < i + 1 → StartsAt t g r j → Dec (j ≡ i) → slice_get ran r ≡ Some true
      back j l s (yes e) = let here = subst (λ k. StartsAt t g r k) e s in absurd (none (subst (λ k. StartsAt t g k i) (of_row r here) here))
      back j l s (no n) = (so_far r).1 (j, omega arith, s)

  pub run_more : (ran new : List Bool) → StartsAt t g row.reaction i → row.reaction < length ran → new ≡ slice_set ran row.reaction true → HaveRunBefore t g i ran → HaveRunBefore t g (i + 1) new
  run_more ran new starts there e so_far r = (λ q. fore (get_write_cases ran row.reaction r true true there (ap (λ bs. slice_get bs r) (sym e) ∙ q)), λ x. ap (λ bs. slice_get bs r) e ∙ back x.0 x.1 x.2 (ℕ_discrete r row.reaction) (ℕ_discrete x.0 i))
    where
      fore : ((r ≡ row.reaction) × (true ≡ true)) ⊎ (¬ (r ≡ row.reaction) × (slice_get ran r ≡ Some true)) → (j : ℕ) × (j < i + 1) × StartsAt t g r j
      fore (inl q) = (i, omega arith, subst (λ k. StartsAt t g k i) (sym q.0) starts)
      fore (inr q) = let x = (so_far r).0 q.1 in let l : x.0 < i = x.1 in (x.0, omega arith, x.2)

      back : (j : ℕ) → j < i + 1 → StartsAt t g r j → Dec (r ≡ row.reaction) → Dec (j ≡ i) → slice_get (slice_set ran row.reaction true) r ≡ Some true
      back j l s (yes q) d = ap (λ k. slice_get (slice_set ran row.reaction true) k) q ∙ get_written ran row.reaction true there
      back j l s (no n) (yes q) = absurd (n (of_row r (subst (λ k. StartsAt t g r k) q s)))
      back j l s (no n) (no m) = get_unwritten ran row.reaction r true n ∙ (so_far r).1 (j, omega arith, s)
