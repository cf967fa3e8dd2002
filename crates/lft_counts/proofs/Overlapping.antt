-- What is open and met, before a row and behind it.
use Rattle.std.proofs.Common.{◌≡◌, ◌≢◌, ℕ, ◌+◌, ◌/◌, ◌<◌, ◌⊎◌, inl, inr, List, length, replicate, sym, ap, ◌∙◌, subst, arith, Some, slice_get, slice_set, zero, suc, add-one}
use Rattle.std.specs.Prelude.{◌↔◌}
use native.Mathlib.Decide.{ℕ_discrete}
use Rattle.lft_lists.proofs.Places.{get_write_cases, length_written, length_same}
use Rattle.lft_tag.specs.declared.Tag.{Tag}
use Rattle.lft_graph.{specs.{Sets.Has, Counts.{Count, none, same}}, proofs.Counting.{count_added, count_taken, count_same, count_one}}
use Rattle.lft_ir.specs.declared.steps.row.{Row.Row, Step.TheVariants.{Start, End}}
use Rattle.lft_model.{specs.Runs.{start_row, end_row}, proofs.Places.slice_get_within}
use Rattle.lft_counts.specs.{Counts.{StartsRun, Runs, MeetsRun, Widens}, inner.Counts.KeepsRows, Overlaps.{AreReactionsOpen, AreMet, AreWidthCounts}}
use Rattle.lft_counts.proofs.Numbers.{counts_none, counts_more, counts_same}
use Rattle.lft_counts.proofs.Running.{start_is, not_running, runs_more, more_runs, ran, runs_no_more, runs_others, runs_kept}

-- before the first row
pub none_open : (t : List Row) (m : ℕ) (running : List ℕ) → length running ≡ m / 64 + 1 → ((r : ℕ) → Has running r → ⊥) → AreReactionsOpen t m 0 running 0
none_open t m running long none_there = record { room = long; right = λ r. (λ h. absurd (none_there r h), λ x. absurd (no_run r x)); number = no_runs m }
  where
    no_run : (r : ℕ) → Runs t 0 r → ⊥
    no_run r x = let l = x.2.before in omega (arith, l)

    no_runs : (m : ℕ) → Count (Runs t 0) m 0
    no_runs zero = none
    no_runs (suc m) = subst (λ k. Count (Runs t 0) k 0) (add-one m) (same (no_run m) (no_runs m))

pub none_met : (t : List Row) (m : ℕ) (met : List (List ℕ)) → length met ≡ m → ((k : ℕ) (set : List ℕ) → slice_get met k ≡ Some set → length set ≡ m / 64 + 1) → ((k : ℕ) (set : List ℕ) → slice_get met k ≡ Some set → (r : ℕ) → Has set r → ⊥) → AreMet t m 0 met
none_met t m met long room none_there = record { as_long = long; room = room; right = λ b set e a. (λ h. absurd (none_there b set e a h), λ x. let l = x.3 in absurd (omega (arith, l))) }

pub none_wide : (t : List Row) (m : ℕ) → AreWidthCounts t m 0 (replicate (m + 1) 0)
none_wide t m = record { as_long = length_same (m + 1) 0; right = counts_none (Widens t m) (m + 1) }

module _ (t : List Row) (m i : ℕ) where
  weaken : (a b : ℕ) → MeetsRun t i a b → MeetsRun t (i + 1) a b
  weaken a b x = let l = x.3 in (x.0, x.1, x.2, omega (arith, l))

  -- a row that doesn't start b
  narrow : (a b : ℕ) → (StartsRun t b i → ⊥) → MeetsRun t (i + 1) a b → MeetsRun t i a b
  narrow a b n x = go (ℕ_discrete x.0 i)
    where
      go : Dec (x.0 ≡ i) → MeetsRun t i a b
      go (yes e) = absurd (n (subst (StartsRun t b) e x.1))
      go (no d) = let l = x.3 in (x.0, x.1, x.2, omega (arith, l))

  -- a row that starts no run
  pub met_same : (met : List (List ℕ)) → ((b : ℕ) → StartsRun t b i → ⊥) → AreMet t m i met → AreMet t m (i + 1) met
  met_same met n so = record { as_long = so.as_long; room = so.room; right = λ b set e a. (λ h. weaken a b ((so.right b set e a).0 h), λ x. (so.right b set e a).1 (narrow a b (n b) x)) }

  pub widths_same : (widths : List ℕ) → ((b : ℕ) → StartsRun t b i → ⊥) → AreWidthCounts t m i widths → AreWidthCounts t m (i + 1) widths
  widths_same widths n so = record { as_long = so.as_long; right = counts_same (Widens t m) i widths (λ x y. n y.0 y.1) so.right }

  -- a row that starts and ends nothing
  pub open_same : (running : List ℕ) (many : ℕ) (row : Row) → slice_get t i ≡ Some row → ¬ (row.step ≡ Start) → ¬ (row.step ≡ End) → AreReactionsOpen t m i running many → AreReactionsOpen t m (i + 1) running many
  open_same running many row e n d so = record { room = so.room; right = λ r. (λ h. (kept r).1 ((so.right r).0 h), λ x. (so.right r).1 ((kept r).0 x)); number = count_same (λ r l x. (kept r).1 x) (λ r l x. (kept r).0 x) so.number }
    where
      kept : (a : ℕ) → Runs t (i + 1) a ↔ Runs t i a
      kept a = runs_kept t i row e n d a

  pub no_start : (row : Row) → slice_get t i ≡ Some row → ¬ (row.step ≡ Start) → (b : ℕ) → StartsRun t b i → ⊥
  no_start row e n b x = let z : Some row ≡ Some (start_row x.0 x.1 b) = sym e ∙ x.2 in let y : row ≡ start_row x.0 x.1 b = cc in n (ap (λ (x : Row). x.step) y)

  module _ (ruled : KeepsRows t) where
    module _ (w : ℕ) (g : Tag) (r : ℕ) (here : slice_get t i ≡ Some (start_row w g r)) (known : r < m) where
      pub open_more : (running new : List ℕ) (many : ℕ) → AreReactionsOpen t m i running many → length new ≡ length running → ((x : ℕ) → x ≢ r → Has new x ↔ Has running x) → ((Has running r → ⊥) → Has new r) → AreReactionsOpen t m (i + 1) new (many + 1)
      open_more running new many so long others put = record { room = long ∙ so.room; right = right; number = count_added (Runs t i) (Runs t (i + 1)) r (not_running t i ruled w g r here) (runs_more t i ruled w g r here) (more_runs t i ruled w g r here) known so.number }
        where
          right : (x : ℕ) → Has new x ↔ Runs t (i + 1) x
          right x = go (ℕ_discrete x r)
            where
              out : ¬ (x ≡ r) → (x ≡ r) ⊎ Runs t i x → Runs t i x
              out n (inl e) = absurd (n e)
              out n (inr y) = y

              go : Dec (x ≡ r) → Has new x ↔ Runs t (i + 1) x
              go (yes e) = (λ h. more_runs t i ruled w g r here x (inl e), λ y. subst (Has new) (sym e) (put (λ h. not_running t i ruled w g r here ((so.right r).0 h))))
              go (no n) = (λ h. more_runs t i ruled w g r here x (inr ((so.right x).0 ((others x n).0 h))), λ y. (others x n).1 ((so.right x).1 (out n (runs_more t i ruled w g r here x y))))

      pub met_more : (running : List ℕ) (many : ℕ) (met : List (List ℕ)) (set new : List ℕ) → slice_get met r ≡ Some set → length new ≡ length set → ((a : ℕ) → Has new a ↔ (Has set a ⊎ Has running a)) → AreReactionsOpen t m i running many → AreMet t m i met → AreMet t m (i + 1) (slice_set met r new)
      met_more running many met set new was long members opens so = record { as_long = length_written met r new ∙ so.as_long; room = λ b s e. room b s (cases b s e); right = λ b s e. right b s (cases b s e) }
        where
          cases : (b : ℕ) (s : List ℕ) → slice_get (slice_set met r new) b ≡ Some s → ((b ≡ r) × (new ≡ s)) ⊎ ((b ≢ r) × (slice_get met b ≡ Some s))
          cases b s e = get_write_cases met r b new s (slice_get_within met r set was) e

          room : (b : ℕ) (s : List ℕ) → ((b ≡ r) × (new ≡ s)) ⊎ ((b ≢ r) × (slice_get met b ≡ Some s)) → length s ≡ m / 64 + 1
          room b s (inl y) = ap (λ (z : List ℕ). length z) (sym y.1) ∙ long ∙ so.room r set was
          room b s (inr y) = so.room b s y.1

          meets : (a : ℕ) → Has set a ⊎ Has running a → MeetsRun t (i + 1) a r
          meets a (inl h) = weaken a r ((so.right r set was a).0 h)
          meets a (inr h) = (i, (w, g, here), (opens.right a).0 h, omega arith)

          back : (a : ℕ) → (x : MeetsRun t (i + 1) a r) → Dec (x.0 ≡ i) → Has set a ⊎ Has running a
          back a x (yes e) = inr ((opens.right a).1 (subst (λ j. Runs t j a) e x.2))
          back a x (no d) = let l = x.3 in inl ((so.right r set was a).1 (x.0, x.1, x.2, omega (arith, l)))

          mine : (a : ℕ) → Has new a ↔ MeetsRun t (i + 1) a r
          mine a = (λ h. meets a ((members a).0 h), λ x. (members a).1 (back a x (ℕ_discrete x.0 i)))

          right : (b : ℕ) (s : List ℕ) → ((b ≡ r) × (new ≡ s)) ⊎ ((b ≢ r) × (slice_get met b ≡ Some s)) → (a : ℕ) → Has s a ↔ MeetsRun t (i + 1) a b
          right b s (inl y) a = subst (λ k. Has s a ↔ MeetsRun t (i + 1) a k) (sym y.0) (subst (λ (z : List ℕ). Has z a ↔ MeetsRun t (i + 1) a r) y.1 (mine a))
          right b s (inr y) a = (λ h. weaken a b ((so.right b s y.1 a).0 h), λ x. (so.right b s y.1 a).1 (narrow a b (λ z. y.0 (sym (start_is w z.0 g z.1 r b (sym here ∙ z.2)))) x))

      pub widths_more : (widths : List ℕ) (many n : ℕ) → slice_get widths many ≡ Some n → Count (Runs t (i + 1)) m many → AreWidthCounts t m i widths → AreWidthCounts t m (i + 1) (slice_set widths many (n + 1))
      widths_more widths many n was count so = record { as_long = length_written widths many (n + 1) ∙ so.as_long; right = counts_more (Widens t m) i widths many n was (slice_get_within widths many n was) (r, (w, g, here), count) (λ x y. count_one y.2 count) so.right }

    module _ (w : ℕ) (g : Tag) (r : ℕ) (here : slice_get t i ≡ Some (end_row w g r)) (known : r < m) where
      taken : (many : ℕ) → Count (Runs t i) m many → (j : ℕ) × (many ≡ j + 1) × Count (Runs t (i + 1)) m j
      taken many c = count_taken (Runs t i) (Runs t (i + 1)) r (ran t i ruled w g r here) (runs_no_more t i ruled w g r here) (λ a n x. (runs_others t i ruled w g r here a n).1 x) (λ a n x. (runs_others t i ruled w g r here a n).0 x) known c

      -- what ends was counted
      pub some_open : (running : List ℕ) (many : ℕ) → AreReactionsOpen t m i running many → 0 < many
      some_open running many so = let x = taken many so.number in let e = x.1 in omega (arith, e)

      pub open_less : (running new : List ℕ) (many less : ℕ) → less + 1 ≡ many → AreReactionsOpen t m i running many → length new ≡ length running → ((x : ℕ) → x ≢ r → Has new x ↔ Has running x) → (Has running r → Has new r → ⊥) → AreReactionsOpen t m (i + 1) new less
      open_less running new many less one so long others out = record { room = long ∙ so.room; right = right; number = let x = taken many so.number in let e = x.1 in subst (λ k. Count (Runs t (i + 1)) m k) (let s : x.0 ≡ less = omega (arith, e, one) in s) x.2 }
        where
          was : Has running r
          was = (so.right r).1 (ran t i ruled w g r here)

          right : (x : ℕ) → Has new x ↔ Runs t (i + 1) x
          right x = go (ℕ_discrete x r)
            where
              go : Dec (x ≡ r) → Has new x ↔ Runs t (i + 1) x
              go (yes e) = (λ h. absurd (out was (subst (Has new) e h)), λ y. absurd (runs_no_more t i ruled w g r here (subst (λ k. Runs t (i + 1) k) e y)))
              go (no n) = (λ h. (runs_others t i ruled w g r here x n).1 ((so.right x).0 ((others x n).0 h)), λ y. (others x n).1 ((so.right x).1 ((runs_others t i ruled w g r here x n).0 y)))

pub end_no_start : (row : Row) → row.step ≡ End → ¬ (row.step ≡ Start)
end_no_start row e s = let z : End ≡ Start = sym e ∙ s in absurd (cc)
