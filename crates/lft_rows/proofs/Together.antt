-- Rows in two parts, where those of the first are at earlier tags than those of the second: no row breaks a rule where none does in its part.
use Rattle.std.proofs.Common.{◌≡◌, ℕ, ◌+◌, ◌-◌, ◌<◌, ◌≤◌, ◌⊎◌, inl, inr, List, ◌++◌, length, length-append, refl, sym, ap, ◌∙◌, subst, arith, Some, None, slice_get}
use Rattle.lft_tag.{specs.{declared.Tag.Tag, Tags.{Before, UpTo}}, proofs.Order.{Before-irrefl, Before-trans, UpTo-Before, Before-UpTo, UpTo-refl, order_cases}}
use native.Mathlib.Decide.{ℕ_discrete}
use Rattle.lft_lists.proofs.Places.{get_left, get_right, get_append_cases, get_there}
use Rattle.lft_ir.specs.{Parts.Parts, declared.steps.row.{Row.Row, Step.{Step, TheVariants.{Start, Read, Write, Schedule, Stop, End}}}, Steps.Fits.RowsFit}
use Rattle.lft_model.specs.{Plans.PlanParts, Runs.{start_row, end_row}, Breaches.{IsOpen, IsLate, IsOutOfOrder, IsUndeclared, BreaksRowUntil}}
use Rattle.lft_model.proofs.Places.{slice_get_within}
use Rattle.lft_rows.specs.inner.{Firsts.FirstRow, Parts.{RisesBetween, AreEarlier}}

by_row : (last : Tag) (plan : PlanParts) (t : List Row) → FirstRow last plan t None → (i : ℕ) (row : Row) (k : ℕ) → slice_get t i ≡ Some row → ¬ BreaksRowUntil last plan t i row k
by_row last plan t kept i row k e b = kept (record { rule = k; tag = row.tag; reaction = Some row.reaction; row = i + 2 }) (record { place = i; row = row; is_row = e; breaks = b; tag_is = refl; reaction_is = refl; row_is = refl })

-- tags don't fall where no row breaks a rule
rises : (last : Tag) (plan : PlanParts) (t : List Row) → FirstRow last plan t None → (i j : ℕ) (x y : Row) → i ≤ j → slice_get t i ≡ Some x → slice_get t j ≡ Some y → UpTo x.tag y.tag
rises last plan t kept i j x y l p q = go (ℕ_discrete i j) (order_cases y.tag x.tag)
  where
    go : Dec (i ≡ j) → Before y.tag x.tag ⊎ UpTo x.tag y.tag → UpTo x.tag y.tag
    go d (inr up) = up
    go (yes e) (inl b) = let a : Some x ≡ Some y = sym p ∙ ap (λ k. slice_get t k) e ∙ q in let z : x ≡ y = cc in subst (λ (r : Row). UpTo x.tag r.tag) z (UpTo-refl x.tag)
    go (no n) (inl b) = absurd (by_row last plan t kept j y 1 q (inl (refl, (i, x, omega arith, p, b))))

pub earlier_of : (last : Tag) (plan : PlanParts) (u v : List Row) → FirstRow last plan u None → FirstRow last plan v None → RisesBetween u v → AreEarlier u v
earlier_of last plan u v kept kept_too between i j x y p q =
    let a : i < length u = slice_get_within u i x p in
    let b : j < length v = slice_get_within v j y q in
    let k : (n : ℕ) × (length u ≡ n + 1) = (length u - 1, omega arith) in
    let c : length u ≡ k.0 + 1 = k.1 in
    let x' = get_there u k.0 (omega arith) in
    let y' = get_there v 0 (omega arith) in
    let up : UpTo x.tag x'.0.tag = rises last plan u kept i k.0 x x'.0 (omega arith) p x'.1 in
    let then : UpTo y'.0.tag y.tag = rises last plan v kept_too 0 j y'.0 y (omega arith) y'.1 q in
    Before-UpTo x.tag y'.0.tag y.tag (UpTo-Before x.tag x'.0.tag y'.0.tag up (between k.0 x'.0 y'.0 c x'.1 y'.1)) then

module _ (last : Tag) (plan : PlanParts) (u v : List Row) (kept : FirstRow last plan u None) (kept_too : FirstRow last plan v None) (earlier : AreEarlier u v) where
  -- a row of the whole at a place of the first part is its row
  in_first : (k : ℕ) (x : Row) → k < length u → slice_get (u ++ v) k ≡ Some x → slice_get u k ≡ Some x
  in_first k x l e = go (get_append_cases u v k x e)
    where
      go : (slice_get u k ≡ Some x) ⊎ ((j : ℕ) × (k ≡ length u + j) × (slice_get v j ≡ Some x)) → slice_get u k ≡ Some x
      go (inl a) = a
      go (inr a) = let b : k ≡ length u + a.0 = a.1 in absurd (omega arith)

  -- no row of the first part is at the tag of one of the second
  never_same : (i j : ℕ) (x y : Row) → slice_get u i ≡ Some x → slice_get v j ≡ Some y → ¬ (x.tag ≡ y.tag)
  never_same i j x y p q e = Before-irrefl y.tag (subst (λ (g : Tag). Before g y.tag) e (earlier i j x y p q))

  module _ (i : ℕ) (row : Row) (e : slice_get u i ≡ Some row) where
    within : i < length u
    within = slice_get_within u i row e

    open_first : (w : ℕ) (g : Tag) (r : ℕ) → IsOpen (u ++ v) i w g r → IsOpen u i w g r
    open_first w g r o = let b : o.start < i = o.before in let l : i < length u = within in record { start = o.start; before = o.before; starts = in_first o.start (start_row w g r) (omega arith) o.starts; not_ended = λ k x y p. o.not_ended k x y (get_left u v k (end_row w g r) p) }

    open_whole : (w : ℕ) (g : Tag) (r : ℕ) → IsOpen u i w g r → IsOpen (u ++ v) i w g r
    open_whole w g r o = let l : i < length u = within in record { start = o.start; before = o.before; starts = get_left u v o.start (start_row w g r) o.starts; not_ended = λ k x y p. o.not_ended k x y (in_first k (end_row w g r) (omega arith) p) }

    order_first : (s : Step) → IsOutOfOrder (u ++ v) i row s → IsOutOfOrder u i row s
    order_first Start (inl (j, w, l, p)) = let a : i < length u = within in inl (j, w, l, in_first j (start_row w row.tag row.reaction) (omega arith) p)
    order_first Start (inr (g, r, o)) = inr (g, r, open_first row.worker g r o)
    order_first (Read n x) o = λ z. o (open_whole row.worker row.tag row.reaction z)
    order_first (Write n x) o = λ z. o (open_whole row.worker row.tag row.reaction z)
    order_first (Schedule n x d) o = λ z. o (open_whole row.worker row.tag row.reaction z)
    order_first Stop o = λ z. o (open_whole row.worker row.tag row.reaction z)
    order_first End o = λ z. o (open_whole row.worker row.tag row.reaction z)

    declared_first : (s : Step) → IsUndeclared plan.program (u ++ v) i row s → IsUndeclared plan.program u i row s
    declared_first (Read n x) (inl d) = inl d
    declared_first (Read n x) (inr (j, w, y, l, p)) = let a : i < length u = within in inr (j, w, y, l, in_first j (record { worker = w; tag = row.tag; reaction = row.reaction; step = Read n y }) (omega arith) p)
    declared_first (Write n x) d = d
    declared_first (Schedule n x d) z = z
    declared_first Start d = d
    declared_first Stop d = d
    declared_first End d = d

    breaks_first : (k : ℕ) → ¬ BreaksRowUntil last plan (u ++ v) i row k
    breaks_first k (inl (q, (j, x, l, p, b))) = let a : i < length u = within in by_row last plan u kept i row 1 e (inl (refl, (j, x, l, in_first j x (omega arith) p, b)))
    breaks_first k (inr (inl (q, b))) = by_row last plan u kept i row 2 e (inr (inl (refl, b)))
    breaks_first k (inr (inr (inl (q, o)))) = by_row last plan u kept i row 3 e (inr (inr (inl (refl, order_first row.step o))))
    breaks_first k (inr (inr (inr (inl (q, d))))) = by_row last plan u kept i row 4 e (inr (inr (inr (inl (refl, declared_first row.step d)))))
    breaks_first k (inr (inr (inr (inr (q, (st, n)))))) = by_row last plan u kept i row 5 e (inr (inr (inr (inr (refl, (st, λ m l p. n m l (get_left u v m (end_row row.worker row.tag row.reaction) p)))))))

  module _ (j : ℕ) (row : Row) (e : slice_get v j ≡ Some row) where
    open_second : (w : ℕ) (g : Tag) (r : ℕ) → IsOpen (u ++ v) (length u + j) w g r → IsOpen v j w g r
    open_second w g r o = go (get_append_cases u v o.start (start_row w g r) o.starts)
      where
        go : (slice_get u o.start ≡ Some (start_row w g r)) ⊎ ((m : ℕ) × (o.start ≡ length u + m) × (slice_get v m ≡ Some (start_row w g r))) → IsOpen v j w g r
        go (inl p) = absurd (by_row last plan u kept o.start (start_row w g r) 5 p (inr (inr (inr (inr (refl, (refl, λ k l q. let a : k < length u = slice_get_within u k (end_row w g r) q in o.not_ended k l (omega arith) (get_left u v k (end_row w g r) q))))))))
        go (inr (m, q, p)) = let b : o.start < length u + j = o.before in let c : o.start ≡ length u + m = q in record { start = m; before = omega arith; starts = p; not_ended = λ k x y z. o.not_ended (length u + k) (omega arith) (omega arith) (get_right u v k ∙ z) }

    whole_second : (w : ℕ) (g : Tag) (r : ℕ) → IsOpen v j w g r → IsOpen (u ++ v) (length u + j) w g r
    whole_second w g r o = let b : o.start < j = o.before in record { start = length u + o.start; before = omega arith; starts = get_right u v o.start ∙ o.starts; not_ended = λ k x y p. go k x y (get_append_cases u v k (end_row w g r) p) }
      where
        go : (k : ℕ) → length u + o.start < k → k < length u + j → (slice_get u k ≡ Some (end_row w g r)) ⊎ ((m : ℕ) × (k ≡ length u + m) × (slice_get v m ≡ Some (end_row w g r))) → ⊥
        go k x y (inl p) = let a : k < length u = slice_get_within u k (end_row w g r) p in absurd (omega arith)
        go k x y (inr (m, q, p)) = let a : k ≡ length u + m = q in o.not_ended m (omega arith) (omega arith) p

    order_second : (s : Step) → IsOutOfOrder (u ++ v) (length u + j) row s → IsOutOfOrder v j row s
    order_second Start (inl (m, w, l, p)) = go (get_append_cases u v m (start_row w row.tag row.reaction) p)
      where
        go : (slice_get u m ≡ Some (start_row w row.tag row.reaction)) ⊎ ((n : ℕ) × (m ≡ length u + n) × (slice_get v n ≡ Some (start_row w row.tag row.reaction))) → IsOutOfOrder v j row Start
        go (inl q) = absurd (never_same m j (start_row w row.tag row.reaction) row q e refl)
        go (inr (n, q, z)) = let a : m ≡ length u + n = q in inl (n, w, omega arith, z)
    order_second Start (inr (g, r, o)) = inr (g, r, open_second row.worker g r o)
    order_second (Read n x) o = λ z. o (whole_second row.worker row.tag row.reaction z)
    order_second (Write n x) o = λ z. o (whole_second row.worker row.tag row.reaction z)
    order_second (Schedule n x d) o = λ z. o (whole_second row.worker row.tag row.reaction z)
    order_second Stop o = λ z. o (whole_second row.worker row.tag row.reaction z)
    order_second End o = λ z. o (whole_second row.worker row.tag row.reaction z)

    declared_second : (s : Step) → IsUndeclared plan.program (u ++ v) (length u + j) row s → IsUndeclared plan.program v j row s
    declared_second (Read n x) (inl d) = inl d
    declared_second (Read n x) (inr (m, w, y, l, p)) = go (get_append_cases u v m (record { worker = w; tag = row.tag; reaction = row.reaction; step = Read n y }) p)
      where
        go : (slice_get u m ≡ Some (record { worker = w; tag = row.tag; reaction = row.reaction; step = Read n y })) ⊎ ((z : ℕ) × (m ≡ length u + z) × (slice_get v z ≡ Some (record { worker = w; tag = row.tag; reaction = row.reaction; step = Read n y }))) → IsUndeclared plan.program v j row (Read n x)
        go (inl q) = absurd (never_same m j (record { worker = w; tag = row.tag; reaction = row.reaction; step = Read n y }) row q e refl)
        go (inr (z, q, f)) = let a : m ≡ length u + z = q in inr (z, w, y, omega arith, f)
    declared_second (Write n x) d = d
    declared_second (Schedule n x d) z = z
    declared_second Start d = d
    declared_second Stop d = d
    declared_second End d = d

    late_second : IsLate (u ++ v) (length u + j) row → IsLate v j row
    late_second (m, x, l, p, b) = go (get_append_cases u v m x p)
      where
        go : (slice_get u m ≡ Some x) ⊎ ((n : ℕ) × (m ≡ length u + n) × (slice_get v n ≡ Some x)) → IsLate v j row
        go (inl q) = absurd (Before-irrefl row.tag (Before-trans row.tag x.tag row.tag b (earlier m j x row q e)))
        go (inr (n, q, z)) = let a : m ≡ length u + n = q in (n, x, omega arith, z, b)

    breaks_second : (k : ℕ) → ¬ BreaksRowUntil last plan (u ++ v) (length u + j) row k
    breaks_second k (inl (q, b)) = by_row last plan v kept_too j row 1 e (inl (refl, late_second b))
    breaks_second k (inr (inl (q, b))) = by_row last plan v kept_too j row 2 e (inr (inl (refl, b)))
    breaks_second k (inr (inr (inl (q, o)))) = by_row last plan v kept_too j row 3 e (inr (inr (inl (refl, order_second row.step o))))
    breaks_second k (inr (inr (inr (inl (q, d))))) = by_row last plan v kept_too j row 4 e (inr (inr (inr (inl (refl, declared_second row.step d)))))
    breaks_second k (inr (inr (inr (inr (q, (st, n)))))) = by_row last plan v kept_too j row 5 e (inr (inr (inr (inr (refl, (st, λ m l p. n (length u + m) (omega arith) (get_right u v m ∙ p)))))))

  pub together : FirstRow last plan (u ++ v) None
  together c x = go (get_append_cases u v x.place x.row x.is_row)
    where
      go : (slice_get u x.place ≡ Some x.row) ⊎ ((j : ℕ) × (x.place ≡ length u + j) × (slice_get v j ≡ Some x.row)) → ⊥
      go (inl e) = breaks_first x.place x.row e c.rule x.breaks
      go (inr (j, q, e)) = breaks_second j x.row e c.rule (subst (λ (i : ℕ). BreaksRowUntil last plan (u ++ v) i x.row c.rule) q x.breaks)

-- a part of rows that fit fits
pub first_fits : (program : Parts) (u v : List Row) → RowsFit program (u ++ v) → RowsFit program u
first_fits program u v h = let a : length (u ++ v) ≡ length u + length v = length-append u v in let b : length (u ++ v) ≤ 4000000 = h.few in record { few = omega arith; each = λ i row e. h.each i row (get_left u v i row e) }

pub second_fits : (program : Parts) (u v : List Row) → RowsFit program (u ++ v) → RowsFit program v
second_fits program u v h = let a : length (u ++ v) ≡ length u + length v = length-append u v in let b : length (u ++ v) ≤ 4000000 = h.few in record { few = omega arith; each = λ i row e. h.each (length u + i) row (get_right u v i ∙ e) }
