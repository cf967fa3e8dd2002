-- A batch of rows behind rows that wait, cut in three.
use Rattle.std.proofs.Common.{◌≡◌, ◌∙◌, ℕ, ◌+◌, ◌≤◌, List, ◌++◌, Some, length, slice_get, slice_range, sym, ap, arith, ⊎_elim}
use Rattle.std.proofs.{lemmas.List.append_assoc, Math.Seq.take-length}
use Rattle.lft_ir.specs.{Parts.Parts, Steps.Fits.{RowFits, RowsFit}, declared.steps.row.Row.Row}
use Rattle.lft_lists.proofs.Places.{get_append_cases, get_left, get_right}
use Rattle.lft_stream.proofs.Parting.{up_to_second}

-- rows that waited and a batch, cut in three
module _ (w b first : List Row) where
  -- the whole batch waits
  pub all_wait : (s : ℕ) → s ≡ length b → first ≡ w ++ slice_range b 0 s → first ≡ w ++ b
  all_wait s all is = is ∙ ap (λ n. w ++ slice_range b 0 n) all ∙ ap (λ (t : List Row). w ++ t) (up_to_second b 0 (length b) (omega arith) ∙ take-length b)

  -- some of it comes first, some next, and the rest waits
  pub in_three : (s e : ℕ) (left : List Row) → s ≤ e → e ≤ length b → first ≡ w ++ slice_range b 0 s → left ≡ slice_range b e (length b) → (first ++ slice_range b s e) ++ left ≡ w ++ b
  in_three s e left up within is rest =
      ap (λ (t : List Row). (t ++ slice_range b s e) ++ left) is ∙ ap (λ (t : List Row). ((w ++ slice_range b 0 s) ++ slice_range b s e) ++ t) rest ∙ regroup (slice_range b 0 s) (slice_range b s e) (slice_range b e (length b)) ∙ ap (λ (t : List Row). w ++ t) whole
    where
      regroup : (x y z : List Row) → ((w ++ x) ++ y) ++ z ≡ w ++ ((x ++ y) ++ z)
      regroup x y z = simp append_assoc

      whole : (slice_range b 0 s ++ slice_range b s e) ++ slice_range b e (length b) ≡ b
      whole = ap (λ (t : List Row). (t ++ slice_range b s e) ++ slice_range b e (length b)) (up_to_second b 0 s (omega arith)) ∙ ap (λ (t : List Row). t ++ slice_range b e (length b)) (up_to_second b s e up) ∙ up_to_second b e (length b) within ∙ take-length b

-- what was cut fits, as what waited and the batch do
module _ (program : Parts) (w b first next left : List Row) (x : RowsFit program w) (y : RowsFit program b) (is : (first ++ next) ++ left ≡ w ++ b) where
  each_fits : (i : ℕ) (row : Row) → slice_get ((first ++ next) ++ left) i ≡ Some row → RowFits program row
  each_fits i row e = ⊎_elim (λ h. x.each i row h) (λ h. y.each h.0 row h.2) (get_append_cases w b i row (ap (λ (t : List Row). slice_get t i) (sym is) ∙ e))

  pub first_fits : length first ≤ 4000000 → RowsFit program first
  first_fits few = record { few = few; each = λ i row e. each_fits i row (get_left (first ++ next) left i row (get_left first next i row e)) }

  pub next_fits : length next ≤ length b → RowsFit program next
  next_fits up = record { few = let few = y.few in omega (arith, up, few); each = λ i row e. each_fits (length first + i) row (get_left (first ++ next) left (length first + i) row (get_right first next i ∙ e)) }

  pub left_fits : length left ≤ 4000000 → RowsFit program left
  left_fits few = record { few = few; each = λ i row e. each_fits (length (first ++ next) + i) row (get_right (first ++ next) left i ∙ e) }
