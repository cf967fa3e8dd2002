-- A count with one row more.
use Rattle.std.proofs.Common.{◌≡◌, ℕ, ◌+◌, ◌≤◌, List, [], ◌∷◌, ◌++◌, length, take, take_all, add-one, sym, ap, ◌∙◌, subst, arith, Some, slice_get}
use Rattle.lft_lists.proofs.Picked.{take_next}
use Rattle.lft_ir.specs.declared.steps.row.Row.{Row}
use Rattle.lft_pair.specs.Counts.{Counts, no_row, one_more, passed}

module _ (P : Row → Type 0) where
  behind_one : (row : Row) → P row → {t : List Row} {n : ℕ} → Counts P t n → Counts P (t ++ row ∷ []) (n + 1)
  behind_one row p no_row = one_more p no_row
  behind_one row p (one_more q c) = one_more q (behind_one row p c)
  behind_one row p (passed q c) = passed q (behind_one row p c)

  behind_other : (row : Row) → ¬ P row → {t : List Row} {n : ℕ} → Counts P t n → Counts P (t ++ row ∷ []) n
  behind_other row p no_row = passed p no_row
  behind_other row p (one_more q c) = one_more q (behind_other row p c)
  behind_other row p (passed q c) = passed q (behind_other row p c)

  -- how many of the first rows have the property; at most as many as there are
  pub record CountTo (t : List Row) (place count : ℕ) : Type 0 where
    pub counted : Counts P (take place t) count
    pub few : count ≤ place

  pub count_none : (t : List Row) → CountTo t 0 0
  count_none t = record { counted = no_row; few = omega arith }

  module _ (t : List Row) (place : ℕ) (row : Row) (here : slice_get t place ≡ Some row) (count : ℕ) (so_far : CountTo t place count) where
    longer : take (place + 1) t ≡ take place t ++ row ∷ []
    longer = ap (λ k. take k t) (add-one place) ∙ take_next t place row here

    pub count_one : P row → CountTo t (place + 1) (count + 1)
    count_one p = let l = so_far.few in record { counted = subst (λ (rows : List Row). Counts P rows (count + 1)) (sym longer) (behind_one row p so_far.counted); few = omega arith }

    pub count_other : ¬ P row → CountTo t (place + 1) count
    count_other p = let l = so_far.few in record { counted = subst (λ (rows : List Row). Counts P rows count) (sym longer) (behind_other row p so_far.counted); few = omega arith }

  pub count_end : (t : List Row) (place count : ℕ) → length t ≤ place → CountTo t place count → Counts P t count
  count_end t place count l so_far = subst (λ (rows : List Row). Counts P rows count) (take_all place t l) so_far.counted
