-- The first rule that is broken behind rows of which some are kept.
use Rattle.std.proofs.Common.{◌≡◌, ◌↔◌, ℕ, ◌+◌, ◌-◌, ◌<◌, ◌≤◌, ◌⊎◌, inl, inr, List, ◌++◌, length, take, length-append, sym, ap, ◌∙◌, subst, arith, Some, slice_get, slice_range}
use Rattle.std.proofs.{Math.Seq.take-append-add, lemmas.List.append_assoc}
use Rattle.lft_tag.{specs.{declared.Tag.Tag, Tags.{Before, UpTo}}, proofs.Order.{UpTo-refl, order_cases}}
use Rattle.lft_ir.{proofs.Ranges.{range-get, range-within}, specs.declared.steps.row.Row.Row}
use Rattle.lft_lists.proofs.Places.{get_right, get_there}
use Rattle.lft_model.specs.{declared.breach.Breach.Breach, Plans.PlanParts, Presence.stop, Breaches.{TagBreach, TagBreachUntil, TagOrder}}
use Rattle.lft_model.proofs.Stops.{stop_append}
use Rattle.lft_check.specs.inner.Verdicts.{LeastOf, BreachFrom}
use Rattle.lft_stream.proofs.Parting.{up_to_second}
use Rattle.lft_monitor.specs.{inner.{Kept.IsPastOfRows, Follows.BeginsLast}, Sure.{AreRowsFrom, IsFirstBefore}, declared.past.Past.Past}
use Rattle.lft_monitor.specs.Follows.{IsFirstBehind, KeepsButLast}
use Rattle.lft_monitor.proofs.{Dropped.dropped_alike, Finished.finished_law, Keeping.{alike_nearer, from_late, kept_before, kept_stop}}

module _ (plan : PlanParts) (d u v : List Row) (p : Past) (is : IsPastOfRows plan d p) (high : Tag) (from : AreRowsFrom u p.low) (later : AreRowsFrom v high) where
  abbrev kept : List Row
  kept = p.kept.items

  same : stop plan (kept ++ u) ≡ stop plan (d ++ u)
  same = kept_stop (stop plan d) plan d kept p.low is.kept u

  -- what is broken from low on in all rows is broken where rows are dropped, and the other way round
  dropped : (c : Breach) → UpTo p.low c.tag → TagBreach plan (d ++ u) c ↔ TagBreachUntil (stop plan (d ++ u)) plan (kept ++ u) c
  dropped c up = dropped_alike (stop plan (d ++ u)) plan d kept u p.low c is.before (kept_before (stop plan d) plan d kept p.low is.kept is.before) is.kept.own (from_late u p.low from) (alike_nearer (stop plan d) (stop plan (d ++ u)) plan d d kept p.low (stop_append plan d u) is.kept.same) up

  pub first_before : (b : Breach) → LeastOf (BreachFrom plan (kept ++ u) p.low) (Some b) → Before b.tag high → IsFirstBefore plan ((d ++ u) ++ v) high b
  first_before b found before = record {
    before = before;
    breaks = (finished_law plan (d ++ u) v high b later before).1 ((dropped b found.0.1).1 (subst (λ (g : Tag). TagBreachUntil g plan (kept ++ u) b) same found.0.0));
    least = λ c x l. least c ((finished_law plan (d ++ u) v high c later l).0 x) (order_cases c.tag p.low);
  }
    where
      least : (c : Breach) → TagBreach plan (d ++ u) c → Before c.tag p.low ⊎ UpTo p.low c.tag → TagOrder b c
      least c x (inl l) = absurd (is.unbroken c (inr ((finished_law plan d u p.low c from l).0 x, l)))
      least c x (inr up) = found.1 c (subst (λ (g : Tag). TagBreachUntil g plan (kept ++ u) c) (sym same) ((dropped c up).0 x), up)

-- where the rows of the last tag begin at a place, what is first before that tag is sure
pub first_behind : (plan : PlanParts) (d rows : List Row) (begin end : ℕ) (x : Row) (b : Breach) → BeginsLast rows end begin → 0 < begin → end ≤ length rows → slice_get rows begin ≡ Some x → ((v : List Row) → AreRowsFrom v x.tag → IsFirstBefore plan ((d ++ slice_range rows 0 begin) ++ v) x.tag b) → KeepsButLast plan (d ++ take end rows) → IsFirstBehind plan (d ++ rows) b (length d + end)
first_behind plan d rows begin end x b begins more within here first keeps = record {
  within = let l : length (d ++ rows) ≡ length d + length rows = length-append d rows in omega arith;
  some = omega arith;
  row = z.0;
  last = ap (λ (n : ℕ). slice_get (d ++ rows) n) (let e : length d + end - 1 ≡ length d + (end - 1) = omega arith in e) ∙ get_right d rows (end - 1) ∙ z.1;
  first = subst (λ (t : List Row). IsFirstBefore plan t z.0.tag b) parts (subst (λ (g : Tag). IsFirstBefore plan ((d ++ slice_range rows 0 begin) ++ slice_range rows begin end) g b) (at_tag begin x (omega arith) some here) (first (slice_range rows begin end) from));
  kept = subst (λ (t : List Row). KeepsButLast plan t) (sym (take-append-add d rows end)) keeps;
}
  where
    up : begin ≤ end
    up = begins.last.up

    some : begin < end
    some = begins.some (omega arith)

    z : (y : Row) × (slice_get rows (end - 1) ≡ Some y)
    z = get_there rows (end - 1) (omega (arith, some))

    at_tag : (i : ℕ) (y : Row) → begin ≤ i → i < end → slice_get rows i ≡ Some y → y.tag ≡ z.0.tag
    at_tag i y l m e = begins.last.at_one i y z.0 l m e z.1

    from : AreRowsFrom (slice_range rows begin end) x.tag
    from i y e =
        let l = range-within rows begin end i y within e in
        let same : y.tag ≡ x.tag = at_tag (begin + i) y (omega arith) (omega (arith, l)) (sym (range-get rows begin end i l) ∙ e) ∙ sym (at_tag begin x (omega arith) some here) in
        subst (λ (g : Tag). UpTo x.tag g) (sym same) (UpTo-refl x.tag)

    parts : (d ++ slice_range rows 0 begin) ++ slice_range rows begin end ≡ take (length d + end) (d ++ rows)
    parts = append_assoc d (slice_range rows 0 begin) (slice_range rows begin end) ∙ ap (λ (t : List Row). d ++ t) (ap (λ (t : List Row). t ++ slice_range rows begin end) (up_to_second rows 0 begin (omega arith)) ∙ up_to_second rows begin end (omega (arith, up))) ∙ sym (take-append-add d rows end)
