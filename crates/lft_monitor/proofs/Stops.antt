-- The stop, one row after another.
use Rattle.std.proofs.Common.{◌≡◌, ℕ, ◌+◌, ◌⊎◌, inl, inr, List, [], ◌∷◌, ◌++◌, take, refl, sym, ap, ◌∙◌, subst, Some, slice_get}
use Rattle.std.proofs.lemmas.{List.append_assoc, Option.get_or_from_slice_get}
use Rattle.lft_tag.{specs.{declared.Tag.Tag, Tags.{Before, UpTo, after}}, proofs.Order.{UpTo-refl, UpTo_antisym, Before-weaken, order_cases}}
use Rattle.lft_lists.proofs.{Members.{Mem, mem_right}, Picked.take_one_more}
use Rattle.lft_ir.specs.declared.steps.row.{Row.Row, Step.TheVariants.Stop}
use Rattle.lft_model.specs.{Plans.PlanParts, Presence.{stop, requests}}
use Rattle.lft_model.proofs.{Places.slice_get_within, Stops.{ask, asker, stop_append, stop_added, stop_asked}}

module _ (plan : PlanParts) (t : List Row) (row : Row) (last : Tag) (is : last ≡ stop plan t) where
  abbrev more : List Row
  more = t ++ row ∷ []

  own : (y : Row) → Mem y (row ∷ []) → row ≡ y
  own y (inl q) = q
  own y (inr n) = absurd n

  -- a request lowers the stop
  pub stop_lower : row.step ≡ Stop → Before (after row.tag 0) last → after row.tag 0 ≡ stop plan more
  stop_lower asks before = UpTo_antisym (after row.tag 0) (stop plan more) (above (stop_added plan t (row ∷ []))) (stop_asked plan more (after row.tag 0) (ask more row (mem_right row t (row ∷ []) (inl refl)) asks))
    where
      above : (stop plan more ≡ stop plan t) ⊎ Mem (stop plan more) (requests (row ∷ [])) → UpTo (after row.tag 0) (stop plan more)
      above (inl q) = subst (λ (g : Tag). UpTo (after row.tag 0) g) (is ∙ sym q) (Before-weaken (after row.tag 0) last before)
      above (inr m) = let a = asker (row ∷ []) (stop plan more) m in subst (λ (g : Tag). UpTo (after row.tag 0) g) (ap (λ (y : Row). after y.tag 0) (own a.0 a.1) ∙ a.3) (UpTo-refl (after row.tag 0))

  -- another row, and a request for a later stop, keep it
  pub stop_keeps : (row.step ≡ Stop → ¬ Before (after row.tag 0) last) → last ≡ stop plan more
  stop_keeps later = go (stop_added plan t (row ∷ []))
    where
      go : (stop plan more ≡ stop plan t) ⊎ Mem (stop plan more) (requests (row ∷ [])) → last ≡ stop plan more
      go (inl q) = is ∙ sym q
      go (inr m) = UpTo_antisym last (stop plan more) (below (order_cases (after row.tag 0) last)) (subst (λ (g : Tag). UpTo (stop plan more) g) (sym is) (stop_append plan t (row ∷ [])))
        where
          a : (x : Row) × Mem x (row ∷ []) × (x.step ≡ Stop) × (after x.tag 0 ≡ stop plan more)
          a = asker (row ∷ []) (stop plan more) m

          q : row ≡ a.0
          q = own a.0 a.1

          below : Before (after row.tag 0) last ⊎ UpTo last (after row.tag 0) → UpTo last (stop plan more)
          below (inl b) = absurd (later (ap (λ (y : Row). y.step) q ∙ a.2) b)
          below (inr u) = subst (λ (g : Tag). UpTo last g) (ap (λ (y : Row). after y.tag 0) q ∙ a.3) u

-- the stop with one row more of a list
pub stop_row : (plan : PlanParts) (t rows : List Row) (place : ℕ) (row : Row) → slice_get rows place ≡ Some row → stop plan ((t ++ take place rows) ++ row ∷ []) ≡ stop plan (t ++ take (place + 1) rows)
stop_row plan t rows place row at = ap (λ (x : List Row). stop plan x) (append_assoc t (take place rows) (row ∷ []) ∙ ap (λ (x : List Row). t ++ x) (sym (take_one_more rows place row (slice_get_within rows place row at) (get_or_from_slice_get rows place row row at))))
