-- Which reactions have an open run, before a row and behind it.
use Rattle.std.proofs.Common.{◌≡◌, ◌≢◌, ℕ, ◌+◌, ◌<◌, ◌≤◌, ◌⊎◌, inl, inr, List, sym, ap, ◌∙◌, subst, arith, Some, slice_get}
use Rattle.std.specs.Prelude.{◌↔◌}
use native.Mathlib.Decide.{ℕ_discrete, dec_lt}
use Rattle.lft_tag.{specs.declared.Tag.Tag, proofs.Order.UpTo_antisym}
use Rattle.lft_ir.specs.declared.steps.row.{Row.Row, Step.TheVariants.{Start, End}}
use Rattle.lft_model.{specs.{Breaches.IsOpen, Runs.{start_row, end_row}}, proofs.Legality.{KeepsFour, four, rising, one_start, one_starter, opened, ended}}
use Rattle.lft_counts.specs.{inner.Counts.KeepsRows, Counts.Runs}

start_no_end : (w v : ℕ) (g h : Tag) (r a : ℕ) → Some (start_row w g r) ≡ Some (end_row v h a) → ⊥
start_no_end w v g h r a e = let z : start_row w g r ≡ end_row v h a = cc in let s : Start ≡ End = ap (λ (x : Row). x.step) z in absurd (cc)

pub start_is : (w v : ℕ) (g h : Tag) (r a : ℕ) → Some (start_row w g r) ≡ Some (start_row v h a) → r ≡ a
start_is w v g h r a e = let z : start_row w g r ≡ start_row v h a = cc in ap (λ (x : Row). x.reaction) z

end_is : (w v : ℕ) (g h : Tag) (r a : ℕ) → Some (end_row w g r) ≡ Some (end_row v h a) → r ≡ a
end_is w v g h r a e = let z : end_row w g r ≡ end_row v h a = cc in ap (λ (x : Row). x.reaction) z

module _ (t : List Row) (i : ℕ) where
  -- a run stays open where the row doesn't end it
  grow : (v : ℕ) (h : Tag) (a : ℕ) → (slice_get t i ≡ Some (end_row v h a) → ⊥) → IsOpen t i v h a → IsOpen t (i + 1) v h a
  grow v h a n o = record { start = o.start; before = let l = o.before in omega (arith, l); starts = o.starts; not_ended = not_ended }
    where
      not_ended : (k : ℕ) → o.start < k → k < i + 1 → ¬ (slice_get t k ≡ Some (end_row v h a))
      not_ended k l m e = go (ℕ_discrete k i)
        where
          go : Dec (k ≡ i) → ⊥
          go (yes s) = n (subst (λ j. slice_get t j ≡ Some (end_row v h a)) s e)
          go (no s) = o.not_ended k l (omega arith) e

  -- a run was open where the row doesn't start it
  earlier : (v : ℕ) (h : Tag) (a : ℕ) → (slice_get t i ≡ Some (start_row v h a) → ⊥) → (o : IsOpen t (i + 1) v h a) → o.start < i
  earlier v h a n o = go (ℕ_discrete o.start i)
    where
      go : Dec (o.start ≡ i) → o.start < i
      go (yes s) = absurd (n (subst (λ j. slice_get t j ≡ Some (start_row v h a)) s o.starts))
      go (no s) = let l = o.before in omega (arith, l)

  shrink : (v : ℕ) (h : Tag) (a : ℕ) → (slice_get t i ≡ Some (start_row v h a) → ⊥) → IsOpen t (i + 1) v h a → IsOpen t i v h a
  shrink v h a n o = record { start = o.start; before = earlier v h a n o; starts = o.starts; not_ended = λ k l m. o.not_ended k l (omega arith) }

  -- a row that starts and ends nothing
  pub runs_kept : (row : Row) → slice_get t i ≡ Some row → ¬ (row.step ≡ Start) → ¬ (row.step ≡ End) → (a : ℕ) → Runs t (i + 1) a ↔ Runs t i a
  runs_kept row e n m a = (λ x. (x.0, x.1, shrink x.0 x.1 a (no_start x.0 x.1) x.2), λ x. (x.0, x.1, grow x.0 x.1 a (no_end x.0 x.1) x.2))
    where
      no_start : (v : ℕ) (h : Tag) → slice_get t i ≡ Some (start_row v h a) → ⊥
      no_start v h f = let z : Some row ≡ Some (start_row v h a) = sym e ∙ f in let y : row ≡ start_row v h a = cc in n (ap (λ (x : Row). x.step) y)

      no_end : (v : ℕ) (h : Tag) → slice_get t i ≡ Some (end_row v h a) → ⊥
      no_end v h f = let z : Some row ≡ Some (end_row v h a) = sym e ∙ f in let y : row ≡ end_row v h a = cc in m (ap (λ (x : Row). x.step) y)

  module _ (ruled : KeepsRows t) where
    well : KeepsFour ruled.0 t
    well = four ruled.0 t ruled.1

    -- an open run ends at the row or behind it
    ends_later : (v : ℕ) (h : Tag) (a : ℕ) → IsOpen t i v h a → (k : ℕ) × (i ≤ k) × (slice_get t k ≡ Some (end_row v h a))
    ends_later v h a o = go (ended ruled.0 t ruled.1 o.start v h a o.starts)
      where
        go : (k : ℕ) × (o.start < k) × (slice_get t k ≡ Some (end_row v h a)) → (k : ℕ) × (i ≤ k) × (slice_get t k ≡ Some (end_row v h a))
        go x = out (dec_lt x.0 i)
          where
            out : Dec (x.0 < i) → (k : ℕ) × (i ≤ k) × (slice_get t k ≡ Some (end_row v h a))
            out (yes l) = absurd (o.not_ended x.0 x.1 l x.2)
            out (no l) = (x.0, omega arith, x.2)

    -- a reaction has one open run
    one_open : (w v : ℕ) (g h : Tag) (a : ℕ) → IsOpen t i w g a → IsOpen t i v h a → (w ≡ v) × (g ≡ h)
    unfolding well
    one_open w v g h a o p =
        let x = ends_later w g a o in
        let y = ends_later v h a p in
        let up = rising ruled.0 t well o.start y.0 (start_row w g a) (end_row v h a) (let l = o.before in let m = y.1 in omega (arith, l, m)) o.starts y.2 in
        let down = rising ruled.0 t well p.start x.0 (start_row v h a) (end_row w g a) (let l = p.before in let m = x.1 in omega (arith, l, m)) p.starts x.2 in
        let e : g ≡ h = UpTo_antisym g h up down in
        (one_starter ruled.0 t well o.start p.start w v h a (o.starts ∙ ap (λ (k : Tag). Some (start_row w k a)) e) p.starts, e)

    module _ (w : ℕ) (g : Tag) (r : ℕ) (here : slice_get t i ≡ Some (start_row w g r)) where
      -- what starts had no open run
      pub not_running : Runs t i r → ⊥
      unfolding well
      not_running x =
          let o = x.2 in
          let y = ends_later x.0 x.1 r o in
          let past : i < y.0 = behind y.0 y.1 y.2 in
          let up = rising ruled.0 t well o.start i (start_row x.0 x.1 r) (start_row w g r) o.before o.starts here in
          let down = rising ruled.0 t well i y.0 (start_row w g r) (end_row x.0 x.1 r) past here y.2 in
          let e : x.1 ≡ g = UpTo_antisym x.1 g up down in
          let s : o.start ≡ i = one_start ruled.0 t well o.start i x.0 w g r (o.starts ∙ ap (λ (k : Tag). Some (start_row x.0 k r)) e) here in
          let l = o.before in
          absurd (omega (arith, l, s))
        where
          behind : (k : ℕ) → i ≤ k → {v : ℕ} → {h : Tag} → slice_get t k ≡ Some (end_row v h r) → i < k
          behind k l {v} {h} e = go (ℕ_discrete i k)
            where
              go : Dec (i ≡ k) → i < k
              go (yes s) = absurd (start_no_end w v g h r r (sym here ∙ subst (λ j. slice_get t j ≡ Some (end_row v h r)) (sym s) e))
              go (no s) = omega arith

      pub runs_more : (a : ℕ) → Runs t (i + 1) a → (a ≡ r) ⊎ Runs t i a
      runs_more a x = go (ℕ_discrete a r)
        where
          go : Dec (a ≡ r) → (a ≡ r) ⊎ Runs t i a
          go (yes e) = inl e
          go (no n) = inr (x.0, x.1, shrink x.0 x.1 a (λ f. n (sym (start_is w x.0 g x.1 r a (sym here ∙ f)))) x.2)

      pub more_runs : (a : ℕ) → (a ≡ r) ⊎ Runs t i a → Runs t (i + 1) a
      more_runs a (inl e) = (w, g, record { start = i; before = omega arith; starts = here ∙ ap (λ k. Some (start_row w g k)) (sym e); not_ended = λ k l m. absurd (omega arith) })
      more_runs a (inr x) = (x.0, x.1, grow x.0 x.1 a (λ f. start_no_end w x.0 g x.1 r a (sym here ∙ f)) x.2)

    module _ (w : ℕ) (g : Tag) (r : ℕ) (here : slice_get t i ≡ Some (end_row w g r)) where
      is_open : IsOpen t i w g r
      unfolding well
      is_open = opened ruled.0 t well i (end_row w g r) here tt

      pub ran : Runs t i r
      ran = (w, g, is_open)

      -- what ends has no open run
      pub runs_no_more : Runs t (i + 1) r → ⊥
      runs_no_more x =
          let n : slice_get t i ≡ Some (start_row x.0 x.1 r) → ⊥ = λ f. start_no_end x.0 w x.1 g r r (sym f ∙ here) in
          let e = one_open x.0 w x.1 g r (shrink x.0 x.1 r n x.2) is_open in
          x.2.not_ended i (earlier x.0 x.1 r n x.2) (omega arith) (here ∙ ap (λ k. Some (end_row k g r)) (sym e.0) ∙ ap (λ (k : Tag). Some (end_row x.0 k r)) (sym e.1))

      pub runs_others : (a : ℕ) → a ≢ r → Runs t (i + 1) a ↔ Runs t i a
      runs_others a n = (λ x. (x.0, x.1, shrink x.0 x.1 a (λ f. start_no_end x.0 w x.1 g a r (sym f ∙ here)) x.2), λ x. (x.0, x.1, grow x.0 x.1 a (λ f. n (sym (end_is w x.0 g x.1 r a (sym here ∙ f)))) x.2))
