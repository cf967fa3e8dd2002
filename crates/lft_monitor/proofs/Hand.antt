-- Rows at hand behind rows that are done: what breaks a rule of rows there breaks it in the whole, and the other way round.
use Rattle.std.proofs.Common.{◌≡◌, ℕ, ◌+◌, ◌<◌, ◌⊎◌, inl, inr, List, ◌++◌, length, refl, ◌∙◌, subst, arith, Some, None, slice_get}
use Rattle.lft_tag.{specs.{declared.Tag.Tag, Tags.{Before, UpTo}}, proofs.Order.{Before-irrefl, Before-trans, UpTo-Before}}
use Rattle.lft_lists.proofs.Places.{get_left, get_right, get_append_cases}
use Rattle.lft_ir.specs.declared.steps.row.{Row.Row, Step.{Step, TheVariants.{Start, Read, Write, Schedule, Stop, End}}}
use Rattle.lft_model.specs.{Plans.PlanParts, Runs.{start_row, end_row}, Breaches.{IsLate, IsOpen, IsOutOfOrder, IsUndeclared, IsUnended, BreaksRowUntil}}
use Rattle.lft_model.proofs.Places.{slice_get_within}
use Rattle.lft_rows.specs.inner.{Firsts.FirstRow, Parts.AreEarlier}

-- a run of rows at hand without an end has none in the whole
pub unended_whole : (d v : List Row) (j : ℕ) (x : Row) → IsUnended v j x → IsUnended (d ++ v) (length d + j) x
unended_whole d v j x o = (o.0, λ n l e. go n l (get_append_cases d v n (end_row x.worker x.tag x.reaction) e))
  where
    go : (n : ℕ) → length d + j < n → (slice_get d n ≡ Some (end_row x.worker x.tag x.reaction)) ⊎ ((m : ℕ) × (n ≡ length d + m) × (slice_get v m ≡ Some (end_row x.worker x.tag x.reaction))) → ⊥
    go n l (inl p) = let a : n < length d = slice_get_within d n (end_row x.worker x.tag x.reaction) p in absurd (omega arith)
    go n l (inr (m, q, p)) = let a : n ≡ length d + m = q in o.1 m (omega arith) p

module _ (plan : PlanParts) (d v : List Row) (last : Tag) (settled : FirstRow last plan d None) (i : ℕ) where
  -- a start of the rows that are done has its end among them
  pub ended : (j : ℕ) (x : Row) → slice_get d j ≡ Some x → ¬ IsUnended d j x
  ended j x e o = settled (record { rule = 5; tag = x.tag; reaction = Some x.reaction; row = j + 2 }) (record { place = j; row = x; is_row = e; breaks = inr (inr (inr (inr (refl, o)))); tag_is = refl; reaction_is = refl; row_is = refl })

  open_own : (w : ℕ) (g : Tag) (r : ℕ) → IsOpen (d ++ v) (length d + i) w g r → IsOpen v i w g r
  open_own w g r o = go (get_append_cases d v o.start (start_row w g r) o.starts)
    where
      go : (slice_get d o.start ≡ Some (start_row w g r)) ⊎ ((m : ℕ) × (o.start ≡ length d + m) × (slice_get v m ≡ Some (start_row w g r))) → IsOpen v i w g r
      go (inl p) = absurd (ended o.start (start_row w g r) p (refl, λ k l q. let a : k < length d = slice_get_within d k (end_row w g r) q in o.not_ended k l (omega arith) (get_left d v k (end_row w g r) q)))
      go (inr (m, q, p)) = let b : o.start < length d + i = o.before in let c : o.start ≡ length d + m = q in record { start = m; before = omega arith; starts = p; not_ended = λ k x y z. o.not_ended (length d + k) (omega arith) (omega arith) (get_right d v k ∙ z) }

  open_whole : (w : ℕ) (g : Tag) (r : ℕ) → IsOpen v i w g r → IsOpen (d ++ v) (length d + i) w g r
  open_whole w g r o = let b : o.start < i = o.before in record { start = length d + o.start; before = omega arith; starts = get_right d v o.start ∙ o.starts; not_ended = λ k x y p. go k x y (get_append_cases d v k (end_row w g r) p) }
    where
      go : (k : ℕ) → length d + o.start < k → k < length d + i → (slice_get d k ≡ Some (end_row w g r)) ⊎ ((m : ℕ) × (k ≡ length d + m) × (slice_get v m ≡ Some (end_row w g r))) → ⊥
      go k x y (inl p) = let a : k < length d = slice_get_within d k (end_row w g r) p in absurd (omega arith)
      go k x y (inr (m, q, p)) = let a : k ≡ length d + m = q in o.not_ended m (omega arith) (omega arith) p

  order_whole : (x : Row) (s : Step) → IsOutOfOrder v i x s → IsOutOfOrder (d ++ v) (length d + i) x s
  order_whole x Start (inl (j, w, l, p)) = inl (length d + j, w, omega arith, get_right d v j ∙ p)
  order_whole x Start (inr (g, r, o)) = inr (g, r, open_whole x.worker g r o)
  order_whole x (Read n y) o = λ z. o (open_own x.worker x.tag x.reaction z)
  order_whole x (Write n y) o = λ z. o (open_own x.worker x.tag x.reaction z)
  order_whole x (Schedule n y w) o = λ z. o (open_own x.worker x.tag x.reaction z)
  order_whole x Stop o = λ z. o (open_own x.worker x.tag x.reaction z)
  order_whole x End o = λ z. o (open_own x.worker x.tag x.reaction z)

  undeclared_whole : (x : Row) (s : Step) → IsUndeclared plan.program v i x s → IsUndeclared plan.program (d ++ v) (length d + i) x s
  undeclared_whole x (Read n y) (inl o) = inl o
  undeclared_whole x (Read n y) (inr (j, w, z, l, p)) = inr (length d + j, w, z, omega arith, get_right d v j ∙ p)
  undeclared_whole x (Write n y) o = o
  undeclared_whole x (Schedule n y w) o = o
  undeclared_whole x Start o = o
  undeclared_whole x Stop o = o
  undeclared_whole x End o = o

  -- the stop may be nearer in the whole
  pub breaks_whole : (near far : Tag) → UpTo near far → (x : Row) (k : ℕ) → k < 5 → BreaksRowUntil far plan v i x k → BreaksRowUntil near plan (d ++ v) (length d + i) x k
  breaks_whole near far up x k few (inl (q, (j, y, l, p, b))) = inl (q, (length d + j, y, omega arith, get_right d v j ∙ p, b))
  breaks_whole near far up x k few (inr (inl (q, b))) = inr (inl (q, UpTo-Before near far x.tag up b))
  breaks_whole near far up x k few (inr (inr (inl (q, o)))) = inr (inr (inl (q, order_whole x x.step o)))
  breaks_whole near far up x k few (inr (inr (inr (inl (q, o))))) = inr (inr (inr (inl (q, undeclared_whole x x.step o))))
  breaks_whole near far up x k few (inr (inr (inr (inr (q, o))))) = let a : k ≡ 5 = q in absurd (omega arith)

  -- where the rows that are done are earlier, what breaks a rule in the whole breaks it there
  module _ (earlier : AreEarlier d v) (x : Row) (at : slice_get v i ≡ Some x) where
    at_hand : (k : ℕ) (y : Row) → y.tag ≡ x.tag → slice_get (d ++ v) k ≡ Some y → (m : ℕ) × (k ≡ length d + m) × (slice_get v m ≡ Some y)
    at_hand k y same e = go (get_append_cases d v k y e)
      where
        go : (slice_get d k ≡ Some y) ⊎ ((m : ℕ) × (k ≡ length d + m) × (slice_get v m ≡ Some y)) → (m : ℕ) × (k ≡ length d + m) × (slice_get v m ≡ Some y)
        go (inl p) = absurd (Before-irrefl x.tag (subst (λ (g : Tag). Before g x.tag) same (earlier k i y x p at)))
        go (inr p) = p

    late_own : IsLate (d ++ v) (length d + i) x → IsLate v i x
    late_own (k, y, l, e, b) = go (get_append_cases d v k y e)
      where
        go : (slice_get d k ≡ Some y) ⊎ ((m : ℕ) × (k ≡ length d + m) × (slice_get v m ≡ Some y)) → IsLate v i x
        go (inl p) = absurd (Before-irrefl x.tag (Before-trans x.tag y.tag x.tag b (earlier k i y x p at)))
        go (inr (m, q, p)) = let a : k ≡ length d + m = q in (m, y, omega arith, p, b)

    order_own : (s : Step) → IsOutOfOrder (d ++ v) (length d + i) x s → IsOutOfOrder v i x s
    order_own Start (inl (k, w, l, e)) = let p = at_hand k (start_row w x.tag x.reaction) refl e in let a : k ≡ length d + p.0 = p.1 in inl (p.0, w, omega arith, p.2)
    order_own Start (inr (g, r, o)) = inr (g, r, open_own x.worker g r o)
    order_own (Read n y) o = λ z. o (open_whole x.worker x.tag x.reaction z)
    order_own (Write n y) o = λ z. o (open_whole x.worker x.tag x.reaction z)
    order_own (Schedule n y w) o = λ z. o (open_whole x.worker x.tag x.reaction z)
    order_own Stop o = λ z. o (open_whole x.worker x.tag x.reaction z)
    order_own End o = λ z. o (open_whole x.worker x.tag x.reaction z)

    undeclared_own : (s : Step) → IsUndeclared plan.program (d ++ v) (length d + i) x s → IsUndeclared plan.program v i x s
    undeclared_own (Read n y) (inl o) = inl o
    undeclared_own (Read n y) (inr (k, w, z, l, e)) = let p = at_hand k (record { worker = w; tag = x.tag; reaction = x.reaction; step = Read n z }) refl e in let a : k ≡ length d + p.0 = p.1 in inr (p.0, w, z, omega arith, p.2)
    undeclared_own (Write n y) o = o
    undeclared_own (Schedule n y w) o = o
    undeclared_own Start o = o
    undeclared_own Stop o = o
    undeclared_own End o = o

    pub breaks_own : (near : Tag) (k : ℕ) → BreaksRowUntil near plan (d ++ v) (length d + i) x k → BreaksRowUntil near plan v i x k
    breaks_own near k (inl (q, o)) = inl (q, late_own o)
    breaks_own near k (inr (inl o)) = inr (inl o)
    breaks_own near k (inr (inr (inl (q, o)))) = inr (inr (inl (q, order_own x.step o)))
    breaks_own near k (inr (inr (inr (inl (q, o))))) = inr (inr (inr (inl (q, undeclared_own x.step o))))
    breaks_own near k (inr (inr (inr (inr (q, (o, ends)))))) = inr (inr (inr (inr (q, (o, λ m l e. ends (length d + m) (omega arith) (get_right d v m ∙ e))))))
