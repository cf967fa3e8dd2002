-- The rows at hand before those at the last tag break none of the rules 1 to 5, where they are gone over.
use Rattle.std.proofs.Common.{◌≡◌, ℕ, ◌+◌, ◌-◌, ◌<◌, ◌≤◌, inl, inr, List, ◌++◌, length, take, sym, ap, ◌∙◌, subst, arith, Some, slice_get, slice_range}
use native.Mathlib.Decide.{dec_lt}
use Rattle.lft_tag.proofs.Order.{Before-irrefl}
use Rattle.lft_ir.{proofs.Ranges.{range-get, range-within}, specs.declared.steps.row.Row.Row}
use Rattle.lft_lists.proofs.Places.{get_there}
use Rattle.lft_model.specs.{declared.breach.Breach.Breach, Plans.PlanParts, Presence.stop, Runs.end_row, Breaches.{IsUnended, BreaksRowUntil, RowBreachUntil}}
use Rattle.lft_model.proofs.Places.{slice_get_take, slice_get_taken}
use Rattle.lft_stream.{specs.inner.Kept.KeepRules, proofs.Parting.up_to_second}
use Rattle.lft_monitor.{specs.inner.{Follows.BeginsLast, Going.IsGoneTo}, proofs.{Over.apart, Rows.breaks_added}}

module _ (plan : PlanParts) (done rows : List Row) (i : ℕ) (gone : IsGoneTo plan done rows i) (begin : ℕ) (begins : BeginsLast rows i begin) where
  abbrev first : List Row
  first = slice_range rows 0 begin

  abbrev all : List Row
  all = take i rows

  up : begin ≤ i
  up = begins.last.up

  parts : all ≡ first ++ slice_range rows begin i
  parts = sym (ap (λ (t : List Row). t ++ slice_range rows begin i) (up_to_second rows 0 begin (omega arith)) ∙ up_to_second rows begin i up)

  -- a place before those at the last tag
  own : (j : ℕ) (x : Row) → slice_get first j ≡ Some x → (j < begin) × (slice_get rows j ≡ Some x)
  own j x e =
      let l : 0 + j < begin = range-within rows 0 begin j x (let w : i ≤ length rows = gone.within in omega (arith, up)) e in
      (omega (arith, l), ap (λ (n : ℕ). slice_get rows n) (let z : j ≡ 0 + j = omega arith in z) ∙ sym (range-get rows 0 begin j l) ∙ e)

  back : (j : ℕ) (x : Row) → j < begin → slice_get rows j ≡ Some x → slice_get first j ≡ Some x
  back j x l e = range-get rows 0 begin j (omega (arith, l)) ∙ ap (λ (n : ℕ). slice_get rows n) (let z : 0 + j ≡ j = omega arith in z) ∙ e

  -- a run without an end among them has none among those gone over
  unended : (j : ℕ) (x : Row) → slice_get first j ≡ Some x → IsUnended first j x → IsUnended all j x
  unended j x e o = (o.0, λ k m f. by k m f (dec_lt k begin))
    where
      by : (k : ℕ) → j < k → slice_get all k ≡ Some (end_row x.worker x.tag x.reaction) → Dec (k < begin) → ⊥
      by k m f (yes n) = o.1 k m (back k (end_row x.worker x.tag x.reaction) n (slice_get_take i rows k (end_row x.worker x.tag x.reaction) f).1)
      by k m f (no n) = let p = slice_get_take i rows k (end_row x.worker x.tag x.reaction) f in let w = own j x e in Before-irrefl x.tag (apart plan done rows i gone begin begins j k x (end_row x.worker x.tag x.reaction) w.0 (omega arith) p.0 w.1 p.1)

  pub keeps_first : KeepRules plan first
  keeps_first = (stop plan (done ++ all), λ c b. go c b)
    where
      go : (c : Breach) → RowBreachUntil (stop plan (done ++ all)) plan first c → ⊥
      go c b = by b.breaks
        where
          w : (b.place < begin) × (slice_get rows b.place ≡ Some b.row)
          w = own b.place b.row b.is_row

          l : b.place < begin
          l = w.0

          final : (z : Row) × (slice_get rows (i - 1) ≡ Some z)
          final = get_there rows (i - 1) (let v : i ≤ length rows = gone.within in omega (arith, l, up))

          some : begin < i
          some = begins.some (omega (arith, l, up))

          at : slice_get all b.place ≡ Some b.row
          at = slice_get_taken i rows b.place b.row (omega (arith, l, up)) w.1

          early : c.rule < 5 → ⊥
          early few = gone.kept b.place b.row c.rule (omega (arith, l, up)) at few (subst (λ (u : List Row). BreaksRowUntil (stop plan (done ++ all)) plan u b.place b.row c.rule) (sym parts) (breaks_added first (slice_range rows begin i) plan (stop plan (done ++ all)) b.place b.row c.rule b.is_row few b.breaks))

          less : (n : ℕ) → c.rule ≡ n → n < 5 → c.rule < 5
          less n is few = omega arith

          by : BreaksRowUntil (stop plan (done ++ all)) plan first b.place b.row c.rule → ⊥
          by (inl x) = early (less 1 x.0 (omega arith))
          by (inr (inl x)) = early (less 2 x.0 (omega arith))
          by (inr (inr (inl x))) = early (less 3 x.0 (omega arith))
          by (inr (inr (inr (inl x)))) = early (less 4 x.0 (omega arith))
          by (inr (inr (inr (inr x)))) = gone.ended final.0 final.1 b.place b.row at (apart plan done rows i gone begin begins b.place (i - 1) b.row final.0 l (omega (arith, some)) (omega (arith, some)) w.1 final.1) (unended b.place b.row b.is_row x.1)
