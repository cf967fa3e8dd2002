-- What is sure stays sure, whatever rows come at later tags.
use Rattle.std.proofs.Common.{◌≡◌, ℕ, ◌+◌, ◌<◌, ◌≤◌, ◌⊎◌, inl, inr, List, ◌++◌, length, subst, arith, Some, slice_get}
use Rattle.lft_tag.{specs.{declared.Tag.Tag, Tags.{Before, UpTo}}, proofs.Order.{Before-UpTo, UpTo-not}}
use Rattle.lft_lists.proofs.Places.{get_left, get_append_cases}
use Rattle.lft_ir.specs.declared.steps.row.Row.{Row}
use Rattle.lft_model.specs.{declared.breach.Breach.Breach, Plans.PlanParts, Presence.stop, Runs.end_row, Breaches.{IsUnended, BreaksRowUntil, RowBreach}}
use Rattle.lft_monitor.{specs.Sure.{AreRowsFrom, SureLaw}, proofs.{Rows.row_law, Finished.finished_law}}

module _ (d u : List Row) (low : Tag) (from : AreRowsFrom u low) where
  -- a run at a finished tag gets no end row any more
  unended_stays : (i : ℕ) (row : Row) → Before row.tag low → IsUnended d i row → IsUnended (d ++ u) i row
  unended_stays i row before o = (o.0, ends)
    where
      ends : (k : ℕ) → i < k → ¬ (slice_get (d ++ u) k ≡ Some (end_row row.worker row.tag row.reaction))
      ends k l e = go (get_append_cases d u k (end_row row.worker row.tag row.reaction) e)
        where
          go : (slice_get d k ≡ Some (end_row row.worker row.tag row.reaction)) ⊎ ((j : ℕ) × (k ≡ length d + j) × (slice_get u j ≡ Some (end_row row.worker row.tag row.reaction))) → ⊥
          go (inl a) = o.1 k l a
          go (inr a) = UpTo-not low row.tag (from a.0 (end_row row.worker row.tag row.reaction) a.2) before

  row_stays : (plan : PlanParts) (b : Breach) → RowBreach plan d b → (b.rule ≤ 4) ⊎ Before b.tag low → RowBreach plan (d ++ u) b
  row_stays plan b x (inl few) = row_law plan d u b few x
  row_stays plan b x (inr before) = go x.breaks
    where
      small : (k n : ℕ) → k ≡ n → n ≤ 4 → k ≤ 4
      small k n e l = omega arith

      go : BreaksRowUntil (stop plan d) plan d x.place x.row b.rule → RowBreach plan (d ++ u) b
      go (inl y) = row_law plan d u b (small b.rule 1 y.0 (omega arith)) x
      go (inr (inl y)) = row_law plan d u b (small b.rule 2 y.0 (omega arith)) x
      go (inr (inr (inl y))) = row_law plan d u b (small b.rule 3 y.0 (omega arith)) x
      go (inr (inr (inr (inl y)))) = row_law plan d u b (small b.rule 4 y.0 (omega arith)) x
      go (inr (inr (inr (inr y)))) = record { place = x.place; row = x.row; is_row = get_left d u x.place x.row x.is_row; breaks = inr (inr (inr (inr (y.0, unended_stays x.place x.row (subst (λ (k : Tag). Before k low) x.tag_is before) y.1)))); tag_is = x.tag_is; reaction_is = x.reaction_is; row_is = x.row_is }

  later : (high : Tag) (b : Breach) → UpTo low high → (b.rule ≤ 4) ⊎ Before b.tag low → (b.rule ≤ 4) ⊎ Before b.tag high
  later high b up (inl few) = inl few
  later high b up (inr before) = inr (Before-UpTo b.tag low high before up)

pub sure_law : (plan : PlanParts) → SureLaw plan
sure_law plan d u low high b from up (inl x) = inl (row_stays d u low from plan b x.0 x.1, later d u low from high b up x.1)
sure_law plan d u low high b from up (inr x) = inr ((finished_law plan d u low b from x.1).1 x.0, Before-UpTo b.tag low high x.1 up)
