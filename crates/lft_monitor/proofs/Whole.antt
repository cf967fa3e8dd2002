-- Where the stop is finished and nothing is sure to be broken, the rows are legal.
use Rattle.std.proofs.Common.{◌≡◌, ℕ, ◌+◌, ◌≤◌, ◌⊎◌, inl, inr, List, refl, sym, subst, arith, Some}
use Rattle.lft_tag.{specs.{declared.Tag.Tag, Tags.{Before, UpTo, after}}, proofs.Order.{UpTo-Before, after_past, order_cases}}
use Rattle.lft_ir.specs.declared.steps.row.Row.{Row}
use Rattle.lft_model.specs.{declared.breach.Breach.Breach, Plans.PlanParts, Presence.stop, Breaches.{BreaksRowUntil, RowBreach, Legal}}
use Rattle.lft_monitor.specs.Sure.{IsUnbroken, WholeLaw}

module _ (plan : PlanParts) (t : List Row) where
  behind : (g : Tag) → UpTo g (stop plan t) → Before g (after (stop plan t) 0)
  behind g up = UpTo-Before g (stop plan t) (after (stop plan t) 0) up (after_past (stop plan t) 0)

  none_of_rows : IsUnbroken plan t (after (stop plan t) 0) → (b : Breach) → ¬ RowBreach plan t b
  none_of_rows clean b x = go x.breaks
    where
      small : (k n : ℕ) → k ≡ n → n ≤ 4 → k ≤ 4
      small k n e l = omega arith

      low : b.rule ≤ 4 → ⊥
      low l = clean b (inl (x, inl l))

      late : Before (stop plan t) x.row.tag → ⊥
      late l = clean (record { rule = 2; tag = x.row.tag; reaction = Some x.row.reaction; row = x.place + 2 }) (inl (record { place = x.place; row = x.row; is_row = x.is_row; breaks = inr (inl (refl, l)); tag_is = refl; reaction_is = refl; row_is = refl }, inl (omega arith)))

      five : Before (stop plan t) x.row.tag ⊎ UpTo x.row.tag (stop plan t) → ⊥
      five (inl l) = late l
      five (inr up) = clean b (inl (x, inr (behind b.tag (subst (λ (k : Tag). UpTo k (stop plan t)) (sym x.tag_is) up))))

      go : BreaksRowUntil (stop plan t) plan t x.place x.row b.rule → ⊥
      go (inl y) = low (small b.rule 1 y.0 (omega arith))
      go (inr (inl y)) = low (small b.rule 2 y.0 (omega arith))
      go (inr (inr (inl y))) = low (small b.rule 3 y.0 (omega arith))
      go (inr (inr (inr (inl y)))) = low (small b.rule 4 y.0 (omega arith))
      go (inr (inr (inr (inr y)))) = five (order_cases (stop plan t) x.row.tag)

  legal_if : IsUnbroken plan t (after (stop plan t) 0) → Legal plan t
  legal_if clean = record { rows = none_of_rows clean; tags = λ b x. clean b (inr (x, behind b.tag x.in_time)) }

  clean_if : Legal plan t → IsUnbroken plan t (after (stop plan t) 0)
  clean_if legal b (inl x) = legal.rows b x.0
  clean_if legal b (inr x) = legal.tags b x.0

pub whole_law : (plan : PlanParts) → WholeLaw plan
whole_law plan t = (legal_if plan t, clean_if plan t)
