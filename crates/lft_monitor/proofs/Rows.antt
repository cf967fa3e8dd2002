-- Rows that break one of the rules 1 to 4 break it still, whatever comes behind them.
use Rattle.std.proofs.Common.{◌≡◌, ℕ, ◌+◌, ◌<◌, ◌≤◌, ◌⊎◌, inl, inr, List, ◌++◌, length, arith, Some, slice_get}
use Rattle.std.proofs.lemmas.Option.{slice_get_within}
use Rattle.lft_tag.{specs.declared.Tag.Tag, proofs.Order.UpTo-Before}
use Rattle.lft_lists.proofs.Places.{get_left, get_append_cases}
use Rattle.lft_ir.specs.declared.steps.row.{Row.Row, Step.{Step, TheVariants.{Start, Read, Write, Schedule, Stop, End}}}
use Rattle.lft_model.specs.{Plans.PlanParts, Presence.stop, Runs.{start_row, end_row}, Breaches.{IsOpen, IsOutOfOrder, IsUndeclared, BreaksRowUntil}}
use Rattle.lft_model.proofs.Stops.{stop_append}
use Rattle.lft_monitor.specs.Sure.{RowLaw}

module _ (d u : List Row) where
  -- a row of the whole before the end of the first part is one of the first part
  in_first : (k i : ℕ) (x y : Row) → k < i → slice_get d i ≡ Some y → slice_get (d ++ u) k ≡ Some x → slice_get d k ≡ Some x
  in_first k i x y less at e = go (get_append_cases d u k x e)
    where
      go : (slice_get d k ≡ Some x) ⊎ ((j : ℕ) × (k ≡ length d + j) × (slice_get u j ≡ Some x)) → slice_get d k ≡ Some x
      go (inl a) = a
      go (inr a) = absurd (outside i a.0 a.1 less (slice_get_within d i y at))
        where
          outside : (i j : ℕ) → k ≡ length d + j → k < i → i < length d → ⊥
          outside i j q l e = omega arith

  open_added : (i w : ℕ) (g : Tag) (r : ℕ) (y : Row) → slice_get d i ≡ Some y → IsOpen d i w g r → IsOpen (d ++ u) i w g r
  open_added i w g r y at o = record { start = o.start; before = o.before; starts = get_left d u o.start (start_row w g r) o.starts; not_ended = λ k l m e. o.not_ended k l m (in_first k i (end_row w g r) y m at e) }

  open_back : (i w : ℕ) (g : Tag) (r : ℕ) (y : Row) → slice_get d i ≡ Some y → IsOpen (d ++ u) i w g r → IsOpen d i w g r
  open_back i w g r y at o = record { start = o.start; before = o.before; starts = in_first o.start i (start_row w g r) y o.before at o.starts; not_ended = λ k l m e. o.not_ended k l m (get_left d u k (end_row w g r) e) }

  order_added : (i : ℕ) (y : Row) (s : Step) → slice_get d i ≡ Some y → IsOutOfOrder d i y s → IsOutOfOrder (d ++ u) i y s
  order_added i y Start at (inl o) = inl (o.0, o.1, o.2, get_left d u o.0 (start_row o.1 y.tag y.reaction) o.3)
  order_added i y Start at (inr o) = inr (o.0, o.1, open_added i y.worker o.0 o.1 y at o.2)
  order_added i y (Read n v) at o = λ z. o (open_back i y.worker y.tag y.reaction y at z)
  order_added i y (Write n v) at o = λ z. o (open_back i y.worker y.tag y.reaction y at z)
  order_added i y (Schedule n v w) at o = λ z. o (open_back i y.worker y.tag y.reaction y at z)
  order_added i y Stop at o = λ z. o (open_back i y.worker y.tag y.reaction y at z)
  order_added i y End at o = λ z. o (open_back i y.worker y.tag y.reaction y at z)

  undeclared_added : (plan : PlanParts) (i : ℕ) (y : Row) (s : Step) → IsUndeclared plan.program d i y s → IsUndeclared plan.program (d ++ u) i y s
  undeclared_added plan i y Start o = o
  undeclared_added plan i y (Read n v) (inl o) = inl o
  undeclared_added plan i y (Read n v) (inr o) = inr (o.0, o.1, o.2, o.3, get_left d u o.0 (record { worker = o.1; tag = y.tag; reaction = y.reaction; step = Read n o.2 }) o.4)
  undeclared_added plan i y (Write n v) o = o
  undeclared_added plan i y (Schedule n v w) o = o
  undeclared_added plan i y Stop o = o
  undeclared_added plan i y End o = o

  order_back : (i : ℕ) (y : Row) (s : Step) → slice_get d i ≡ Some y → IsOutOfOrder (d ++ u) i y s → IsOutOfOrder d i y s
  order_back i y Start at (inl o) = inl (o.0, o.1, o.2, in_first o.0 i (start_row o.1 y.tag y.reaction) y o.2 at o.3)
  order_back i y Start at (inr o) = inr (o.0, o.1, open_back i y.worker o.0 o.1 y at o.2)
  order_back i y (Read n v) at o = λ z. o (open_added i y.worker y.tag y.reaction y at z)
  order_back i y (Write n v) at o = λ z. o (open_added i y.worker y.tag y.reaction y at z)
  order_back i y (Schedule n v w) at o = λ z. o (open_added i y.worker y.tag y.reaction y at z)
  order_back i y Stop at o = λ z. o (open_added i y.worker y.tag y.reaction y at z)
  order_back i y End at o = λ z. o (open_added i y.worker y.tag y.reaction y at z)

  undeclared_back : (plan : PlanParts) (i : ℕ) (y : Row) (s : Step) → slice_get d i ≡ Some y → IsUndeclared plan.program (d ++ u) i y s → IsUndeclared plan.program d i y s
  undeclared_back plan i y Start at o = o
  undeclared_back plan i y (Read n v) at (inl o) = inl o
  undeclared_back plan i y (Read n v) at (inr o) = inr (o.0, o.1, o.2, o.3, in_first o.0 i (record { worker = o.1; tag = y.tag; reaction = y.reaction; step = Read n o.2 }) y o.3 at o.4)
  undeclared_back plan i y (Write n v) at o = o
  undeclared_back plan i y (Schedule n v w) at o = o
  undeclared_back plan i y Stop at o = o
  undeclared_back plan i y End at o = o

  -- and what breaks a rule in the whole breaks it in the first part
  pub breaks_back : (plan : PlanParts) (last : Tag) (i : ℕ) (y : Row) (k : ℕ) → slice_get d i ≡ Some y → BreaksRowUntil last plan (d ++ u) i y k → BreaksRowUntil last plan d i y k
  breaks_back plan last i y k at (inl x) = let o = x.1 in inl (x.0, (o.0, o.1, o.2, in_first o.0 i o.1 y o.2 at o.3, o.4))
  breaks_back plan last i y k at (inr (inl x)) = inr (inl x)
  breaks_back plan last i y k at (inr (inr (inl x))) = inr (inr (inl (x.0, order_back i y y.step at x.1)))
  breaks_back plan last i y k at (inr (inr (inr (inl x)))) = inr (inr (inr (inl (x.0, undeclared_back plan i y y.step at x.1))))
  breaks_back plan last i y k at (inr (inr (inr (inr x)))) = inr (inr (inr (inr (x.0, (x.1.0, λ j l e. x.1.1 j l (get_left d u j (end_row y.worker y.tag y.reaction) e))))))

  -- and what breaks one of the rules 1 to 4 in the first part breaks it in the whole, with the same stop
  pub breaks_added : (plan : PlanParts) (last : Tag) (i : ℕ) (y : Row) (k : ℕ) → slice_get d i ≡ Some y → k < 5 → BreaksRowUntil last plan d i y k → BreaksRowUntil last plan (d ++ u) i y k
  breaks_added plan last i y k at few (inl x) = let l = x.1 in inl (x.0, (l.0, l.1, l.2, get_left d u l.0 l.1 l.3, l.4))
  breaks_added plan last i y k at few (inr (inl x)) = inr (inl x)
  breaks_added plan last i y k at few (inr (inr (inl x))) = inr (inr (inl (x.0, order_added i y y.step at x.1)))
  breaks_added plan last i y k at few (inr (inr (inr (inl x)))) = inr (inr (inr (inl (x.0, undeclared_added plan i y y.step x.1))))
  breaks_added plan last i y k at few (inr (inr (inr (inr x)))) = let a : k ≡ 5 = x.0 in absurd (omega arith)

pub row_law : (plan : PlanParts) → RowLaw plan
row_law plan d u b few x = record { place = x.place; row = x.row; is_row = get_left d u x.place x.row x.is_row; breaks = go x.breaks; tag_is = x.tag_is; reaction_is = x.reaction_is; row_is = x.row_is }
  where
    go : BreaksRowUntil (stop plan d) plan d x.place x.row b.rule → BreaksRowUntil (stop plan (d ++ u)) plan (d ++ u) x.place x.row b.rule
    go (inl y) = let l = y.1 in inl (y.0, (l.0, l.1, l.2, get_left d u l.0 l.1 l.3, l.4))
    go (inr (inl y)) = inr (inl (y.0, UpTo-Before (stop plan (d ++ u)) (stop plan d) x.row.tag (stop_append plan d u) y.1))
    go (inr (inr (inl y))) = inr (inr (inl (y.0, order_added d u x.place x.row x.row.step x.is_row y.1)))
    go (inr (inr (inr (inl y)))) = inr (inr (inr (inl (y.0, undeclared_added d u plan x.place x.row x.row.step y.1))))
    go (inr (inr (inr (inr y)))) = absurd (five b.rule y.0 few)
      where
        five : (k : ℕ) → k ≡ 5 → k ≤ 4 → ⊥
        five k e l = omega arith
