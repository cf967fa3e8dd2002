-- Rows cut where the tag changes: where no row of the whole breaks one of the rules 1 to 5, none of a slice does.
use Rattle.std.proofs.Common.{◌≡◌, ℕ, ◌+◌, ◌-◌, ◌<◌, ◌≤◌, ◌⊎◌, inl, inr, List, ◌++◌, length, take, drop, refl, sym, ap, ◌∙◌, subst, arith, Option, Some, None, slice_get, slice_range, filter_map}
use Rattle.std.proofs.{lemmas.List.{append-nil, take-append-drop, Elements.filter_map-append}, Math.Seq.take-add}
use Rattle.lft_tag.{specs.{declared.Tag.Tag, Tags.{Before, UpTo}}, proofs.Order.order_cases}
use Rattle.lft_ir.specs.{Parts.Parts, declared.steps.row.{Row.Row, Step.{Step, TheVariants.{Start, Read, Write, Schedule, Stop, End}}}, Steps.Fits.RowsFit}
use Rattle.lft_ir.proofs.Ranges.{length-range, range-get, range-within, slice_get-drop}
use Rattle.lft_model.specs.{Plans.PlanParts, Runs.{start_row, end_row, step_of, steps_of, Ran}, Breaches.{IsOpen, IsOutOfOrder, IsUndeclared, BreaksRowUntil}}
use Rattle.lft_model.proofs.{Places.slice_get_take, Steps.step_row}
use Rattle.lft_lists.proofs.Members.{none_nil}
use Rattle.lft_rows.specs.{inner.{Firsts.FirstRow, Slices.{IsSlice, Rises}}, declared.slices.Slice.Slice}
use Rattle.lft_queue.specs.Coming.AtTag.{AreAt}

-- tags don't fall where no row breaks a rule
pub rises_from : (last : Tag) (plan : PlanParts) (t : List Row) → FirstRow last plan t None → Rises t
rises_from last plan t kept i j x y l p q = go (order_cases y.tag x.tag)
  where
    go : Before y.tag x.tag ⊎ UpTo x.tag y.tag → UpTo x.tag y.tag
    go (inr up) = up
    go (inl b) = absurd (kept (record { rule = 1; tag = y.tag; reaction = Some y.reaction; row = j + 2 }) (record { place = j; row = y; is_row = q; breaks = inl (refl, (i, x, l, p, b)); tag_is = refl; reaction_is = refl; row_is = refl }))

-- rows from a place on up to another: they fit as all do, and with those before they are those up to the second
module _ (t : List Row) (a b : ℕ) (up : a ≤ b) where
  pub range_fits : b ≤ length t → (program : Parts) → RowsFit program t → RowsFit program (slice_range t a b)
  range_fits within program fit = record { few = let l : length (slice_range t a b) ≡ b - a = length-range t a b within in let c = fit.few in omega arith; each = λ i x e. fit.each (a + i) x (sym (range-get t a b i (range-within t a b i x within e)) ∙ e) }

  pub up_to_second : take a t ++ slice_range t a b ≡ take b t
  up_to_second = sym (take-add a (b - a) t) ∙ ap (λ n. take n t) (let l : a + (b - a) ≡ b = omega arith in l)

module _ (t : List Row) (s : Slice) (is : IsSlice t s) where
  -- the rows of the slice
  abbrev pub rows_of : List Row
  rows_of = slice_range t s.first s.end

  pub to_whole : (i : ℕ) (x : Row) → slice_get rows_of i ≡ Some x → slice_get t (s.first + i) ≡ Some x
  to_whole i x e = sym (range-get t s.first s.end i (range-within t s.first s.end i x is.within e)) ∙ e

  pub part_fits : (program : Parts) → RowsFit program t → RowsFit program rows_of
  part_fits = range_fits t s.first s.end (let l = is.some in omega arith) is.within

  pub are_at : AreAt rows_of s.tag
  are_at i x e = is.at_tag (s.first + i) x (to_whole i x e) (omega arith) (range-within t s.first s.end i x is.within e)

  -- a row at the tag is one of them
  pub from_whole : (k : ℕ) (y : Row) → y.tag ≡ s.tag → slice_get t k ≡ Some y → (j : ℕ) × (k ≡ s.first + j) × (slice_get rows_of j ≡ Some y)
  from_whole k y q e =
      let r = is.all k y e q in
      let a : s.first ≤ k = r.0 in
      let b : k < s.end = r.1 in
      let f : k ≡ s.first + (k - s.first) = omega arith in
      (k - s.first, f, range-get t s.first s.end (k - s.first) (omega arith) ∙ ap (λ n. slice_get t n) (sym f) ∙ e)

  pub ran_part : (r : ℕ) → Ran t s.tag r → Ran rows_of s.tag r
  ran_part r o = let p = from_whole o.place (start_row o.worker s.tag r) refl o.starts in record { place = p.0; worker = o.worker; starts = p.2 }

  pub ran_of : (r : ℕ) → Ran rows_of s.tag r → Ran t s.tag r
  ran_of r o = record { place = s.first + o.place; worker = o.worker; starts = to_whole o.place (start_row o.worker s.tag r) o.starts }

  -- the rows before the slice and its own are those before its end
  pub up_to_end : take s.first t ++ rows_of ≡ take s.end t
  up_to_end = up_to_second t s.first s.end (let l = is.some in omega arith)

  -- no other row has a step of a run at the tag
  pub steps_part : (r : ℕ) → steps_of t s.tag r ≡ steps_of rows_of s.tag r
  steps_part r = ap (λ (rows : List Row). filter_map f rows) (sym (take-append-drop s.end t)) ∙ filter_map-append f (take s.end t) (drop s.end t) ∙ ap (λ steps. filter_map f (take s.end t) ++ steps) (none_nil f (drop s.end t) after) ∙ append-nil (filter_map f (take s.end t)) ∙ ap (λ (rows : List Row). filter_map f rows) (sym up_to_end) ∙ filter_map-append f (take s.first t) rows_of ∙ ap (λ steps. steps ++ filter_map f rows_of) (none_nil f (take s.first t) before)
    where
      f : Row → Option Step
      f = step_of s.tag r

      other : (k : ℕ) (x : Row) → slice_get t k ≡ Some x → ((s.first ≤ k) × (k < s.end) → ⊥) → f x ≡ None
      other k x e out = go (f x) refl
        where
          go : (o : Option Step) → f x ≡ o → f x ≡ None
          go None q = q
          go (Some z) q = absurd (out (is.all k x e (step_row t s.tag r x z q).0))

      before : (k : ℕ) (x : Row) → slice_get (take s.first t) k ≡ Some x → f x ≡ None
      before k x e = let p = slice_get_take s.first t k x e in let a : k < s.first = p.0 in other k x p.1 (λ z. let b : s.first ≤ k = z.0 in omega arith)

      after : (k : ℕ) (x : Row) → slice_get (drop s.end t) k ≡ Some x → f x ≡ None
      after k x e = other (s.end + k) x (sym (slice_get-drop t s.end k) ∙ e) (λ z. let b : s.end + k < s.end = z.1 in omega arith)

  module _ (last : Tag) (plan : PlanParts) (kept : FirstRow last plan t None) (i : ℕ) (x : Row) (e : slice_get rows_of i ≡ Some x) where
    here : x.tag ≡ s.tag
    here = are_at i x e

    open_whole : (w : ℕ) (r : ℕ) → IsOpen rows_of i w s.tag r → IsOpen t (s.first + i) w s.tag r
    open_whole w r o = let a = o.before in record { start = s.first + o.start; before = omega arith; starts = to_whole o.start (start_row w s.tag r) o.starts; not_ended = ended }
      where
        ended : (k : ℕ) → s.first + o.start < k → k < s.first + i → ¬ (slice_get t k ≡ Some (end_row w s.tag r))
        ended k l m p = let q = from_whole k (end_row w s.tag r) refl p in let f : k ≡ s.first + q.0 = q.1 in o.not_ended q.0 (omega arith) (omega arith) q.2

    open_part : (w : ℕ) (r : ℕ) → IsOpen t (s.first + i) w s.tag r → IsOpen rows_of i w s.tag r
    open_part w r o = let q = from_whole o.start (start_row w s.tag r) refl o.starts in let f : o.start ≡ s.first + q.0 = q.1 in let a = o.before in record { start = q.0; before = omega arith; starts = q.2; not_ended = λ k l m p. o.not_ended (s.first + k) (omega arith) (omega arith) (to_whole k (end_row w s.tag r) p) }

    no_open : (w r : ℕ) → ¬ IsOpen rows_of i w x.tag r → ¬ IsOpen t (s.first + i) w x.tag r
    no_open w r n o = n (subst (λ (g : Tag). IsOpen rows_of i w g r) (sym here) (open_part w r (subst (λ (g : Tag). IsOpen t (s.first + i) w g r) here o)))

    order_whole : (z : Step) → IsOutOfOrder rows_of i x z → IsOutOfOrder t (s.first + i) x z
    order_whole Start (inl (j, w, l, p)) = inl (s.first + j, w, omega arith, to_whole j (start_row w x.tag x.reaction) p)
    order_whole Start (inr (g, r, o)) = inr (g, r, subst (λ (h : Tag). IsOpen t (s.first + i) x.worker h r) (sym same) (open_whole x.worker r (subst (λ (h : Tag). IsOpen rows_of i x.worker h r) same o)))
      where
        same : g ≡ s.tag
        same = are_at o.start (start_row x.worker g r) o.starts
    order_whole (Read n v) o = no_open x.worker x.reaction o
    order_whole (Write n v) o = no_open x.worker x.reaction o
    order_whole (Schedule n v d) o = no_open x.worker x.reaction o
    order_whole Stop o = no_open x.worker x.reaction o
    order_whole End o = no_open x.worker x.reaction o

    declared_whole : (z : Step) → IsUndeclared plan.program rows_of i x z → IsUndeclared plan.program t (s.first + i) x z
    declared_whole (Read n v) (inl d) = inl d
    declared_whole (Read n v) (inr (j, w, y, l, p)) = inr (s.first + j, w, y, omega arith, to_whole j (record { worker = w; tag = x.tag; reaction = x.reaction; step = Read n y }) p)
    declared_whole (Write n v) d = d
    declared_whole (Schedule n v d) z = z
    declared_whole Start d = d
    declared_whole Stop d = d
    declared_whole End d = d

    breaks_whole : (k : ℕ) → BreaksRowUntil last plan rows_of i x k → BreaksRowUntil last plan t (s.first + i) x k
    breaks_whole k (inl (q, (j, y, l, p, b))) = inl (q, (s.first + j, y, omega arith, to_whole j y p, b))
    breaks_whole k (inr (inl b)) = inr (inl b)
    breaks_whole k (inr (inr (inl (q, o)))) = inr (inr (inl (q, order_whole x.step o)))
    breaks_whole k (inr (inr (inr (inl (q, d))))) = inr (inr (inr (inl (q, declared_whole x.step d))))
    breaks_whole k (inr (inr (inr (inr (q, (st, n)))))) = inr (inr (inr (inr (q, (st, unended)))))
      where
        unended : (m : ℕ) → s.first + i < m → ¬ (slice_get t m ≡ Some (end_row x.worker x.tag x.reaction))
        unended m l p = let f = from_whole m (end_row x.worker x.tag x.reaction) here p in let a : m ≡ s.first + f.0 = f.1 in n f.0 (omega arith) f.2

  pub part_kept : (last : Tag) (plan : PlanParts) → FirstRow last plan t None → FirstRow last plan rows_of None
  part_kept last plan kept c o = kept (record { rule = c.rule; tag = c.tag; reaction = c.reaction; row = s.first + o.place + 2 }) (record { place = s.first + o.place; row = o.row; is_row = to_whole o.place o.row o.is_row; breaks = breaks_whole last plan kept o.place o.row o.is_row c.rule o.breaks; tag_is = o.tag_is; reaction_is = o.reaction_is; row_is = refl })
