-- What is found at hand is sure of the whole.
use Rattle.std.proofs.Common.{◌≡◌, ℕ, ◌+◌, ◌-◌, ◌<◌, ◌≤◌, ◌⊎◌, inl, inr, List, [], ◌∷◌, ◌++◌, length, take, refl, sym, ap, ◌∙◌, subst, arith, Some, None, slice_get, length-append}
use Rattle.std.proofs.{Math.Seq.take-append-add, lemmas.{List.append_assoc, Option.get_or_from_slice_get}}
use native.Mathlib.Decide.{dec_lt}
use Rattle.lft_tag.{specs.{declared.Tag.Tag, Tags.{Before, UpTo, after}}, proofs.Order.{Before-irrefl, Before-trans, Before-UpTo, after_past, order_cases}}
use Rattle.lft_lists.proofs.{Members.{Mem, get_mem, mem_cases}, Places.{get_left, get_right, get_append_cases, get_there, same_at, same_some}}
use Rattle.lft_lists.proofs.Picked.{take_one_more}
use Rattle.lft_ir.specs.declared.steps.row.{Row.Row, Step.TheVariants.Stop}
use Rattle.lft_model.specs.{declared.breach.Breach.Breach, Plans.PlanParts, Presence.{stop, requests}, Runs.end_row}
use Rattle.lft_model.specs.Breaches.{IsUnended, RowBreach, BreaksRowUntil}
use Rattle.lft_model.proofs.{Places.{slice_get_within, slice_get_take, slice_get_taken}, Stops.{asker, stop_added, stop_append}}
use Rattle.lft_rows.specs.inner.{Firsts.FirstRow, Parts.AreEarlier}
use Rattle.lft_queue.specs.Coming.AtTag.{AreBefore}
use Rattle.lft_stream.proofs.{Behind.in_time_added, Settling.{rows_in_time, rows_until}}
use Rattle.lft_monitor.specs.{Follows.{IsQuiet, IsSureBehind}, inner.Going.{IsFirstBad, IsRunLost}}
use Rattle.lft_monitor.proofs.{Hand.{breaks_own, breaks_whole, ended}, Over.{earlier, first_open}}

-- what a breach says of a row
abbrev pub IsOf : Breach → Row → Type 0
IsOf b x = (b.tag ≡ x.tag) × (b.reaction ≡ Some x.reaction)

-- a run at hand without an end
pub open_breach : (plan : PlanParts) (d v : List Row) (s : ℕ) (x : Row) → slice_get v s ≡ Some x → IsUnended v s x → (b : Breach) → b.rule ≡ 5 → b.row ≡ length d + s + 2 → IsOf b x → RowBreach plan (d ++ v) b
open_breach plan d v s x at o b rule row is = record {
  place = length d + s;
  row = x;
  is_row = get_right d v s ∙ at;
  breaks = inr (inr (inr (inr (rule, (o.0, ends)))));
  tag_is = is.0;
  reaction_is = is.1;
  row_is = row;
}
  where
    ends : (k : ℕ) → length d + s < k → ¬ (slice_get (d ++ v) k ≡ Some (end_row x.worker x.tag x.reaction))
    ends k l e = go (get_append_cases d v k (end_row x.worker x.tag x.reaction) e)
      where
        go : (slice_get d k ≡ Some (end_row x.worker x.tag x.reaction)) ⊎ ((m : ℕ) × (k ≡ length d + m) × (slice_get v m ≡ Some (end_row x.worker x.tag x.reaction))) → ⊥
        go (inl p) = let a : k < length d = slice_get_within d k (end_row x.worker x.tag x.reaction) p in absurd (omega arith)
        go (inr p) = let a : k ≡ length d + p.0 = p.1 in o.1 p.0 (omega arith) p.2

module _ (plan : PlanParts) (d u : List Row) (settled : FirstRow (stop plan d) plan d None) (first : (x : Row) → slice_get u 0 ≡ Some x → AreBefore d x.tag) where
  whole : (n : ℕ) → d ++ take n u ≡ take (length d + n) (d ++ u)
  whole n = sym (take-append-add d u n)

  long : length (d ++ u) ≡ length d + length u
  long = length-append d u

  -- a row that breaks one of the rules 1 to 4
  module _ (i k : ℕ) (o : IsFirstBad plan d u i k) where
    abbrev v : List Row
    v = take (i + 1) u

    inside : i < length u
    inside = slice_get_within u i o.row o.is_row

    at : slice_get v i ≡ Some o.row
    at = slice_get_taken (i + 1) u i o.row (omega arith) o.is_row

    abbrev near : Tag
    near = stop plan (d ++ v)

    abbrev far : Tag
    far = stop plan (d ++ take i u)

    parts : d ++ v ≡ (d ++ take i u) ++ o.row ∷ []
    parts = ap (λ (t : List Row). d ++ t) (take_one_more u i o.row inside (get_or_from_slice_get u i o.row o.row o.is_row)) ∙ sym (append_assoc d (take i u) (o.row ∷ []))

    nearer : UpTo near far
    nearer = subst (λ (t : List Row). UpTo (stop plan t) far) (sym parts) (stop_append plan (d ++ take i u) (o.row ∷ []))

    -- the row itself asks for no stop before it
    behind : Before near o.row.tag → Before far o.row.tag
    behind b = go (stop_added plan (d ++ take i u) (o.row ∷ []))
      where
        go : (stop plan ((d ++ take i u) ++ o.row ∷ []) ≡ far) ⊎ Mem (stop plan ((d ++ take i u) ++ o.row ∷ [])) (requests (o.row ∷ [])) → Before far o.row.tag
        go (inl q) = subst (λ (g : Tag). Before g o.row.tag) (ap (λ (t : List Row). stop plan t) parts ∙ q) b
        go (inr m) = absurd (by (asker (o.row ∷ []) (stop plan ((d ++ take i u) ++ o.row ∷ [])) m))
          where
            by : (x : Row) × Mem x (o.row ∷ []) × (x.step ≡ Stop) × (after x.tag 0 ≡ stop plan ((d ++ take i u) ++ o.row ∷ [])) → ⊥
            by (x, inl q, s, is) = Before-irrefl o.row.tag (Before-trans o.row.tag near o.row.tag (subst (λ (g : Tag). Before o.row.tag g) (ap (λ (y : Row). after y.tag 0) q ∙ is ∙ ap (λ (t : List Row). stop plan t) (sym parts)) (after_past o.row.tag 0)) b)
            by (x, inr n, s, is) = n

    to_far : (m : ℕ) → BreaksRowUntil near plan v i o.row m → BreaksRowUntil far plan v i o.row m
    to_far m (inl x) = inl x
    to_far m (inr (inl x)) = inr (inl (x.0, behind x.1))
    to_far m (inr (inr (inl x))) = inr (inr (inl x))
    to_far m (inr (inr (inr (inl x)))) = inr (inr (inr (inl x)))
    to_far m (inr (inr (inr (inr x)))) = inr (inr (inr (inr x)))

    some : (m : ℕ) → BreaksRowUntil near plan (d ++ v) (length d + i) o.row m → 0 < m
    some m (inl x) = let q : m ≡ 1 = x.0 in omega arith
    some m (inr (inl x)) = let q : m ≡ 2 = x.0 in omega arith
    some m (inr (inr (inl x))) = let q : m ≡ 3 = x.0 in omega arith
    some m (inr (inr (inr (inl x)))) = let q : m ≡ 4 = x.0 in omega arith
    some m (inr (inr (inr (inr x)))) = let q : m ≡ 5 = x.0 in omega arith

    -- where it isn't late, the rows that are done are earlier
    module _ (y : Row) (y_is : slice_get u 0 ≡ Some y) (up : UpTo y.tag o.row.tag) where
      settled_near : FirstRow near plan d None
      settled_near = rows_until plan d (stop plan d) near in_time settled
        where
          in_time : (m : ℕ) (x : Row) → slice_get d m ≡ Some x → UpTo x.tag near
          in_time m x p = subst (λ (t : List Row). UpTo x.tag (stop plan t)) (sym (parts ∙ append_assoc d (take i u) (o.row ∷ []))) (in_time_added plan d (take i u ++ o.row ∷ []) x.tag later (rows_in_time plan d (stop plan d) settled m x p))
            where
              later : (z : Row) → Mem z (take i u ++ o.row ∷ []) → Before x.tag z.tag
              later z n = go (mem_cases z (take i u) (o.row ∷ []) n)
                where
                  go : Mem z (take i u) ⊎ Mem z (o.row ∷ []) → Before x.tag z.tag
                  go (inl a) = let c = get_mem z (take i u) a in earlier plan d u i o.gone settled first m c.0 x z p c.1
                  go (inr (inl q)) = subst (λ (w : Row). Before x.tag w.tag) q (Before-UpTo x.tag y.tag o.row.tag (first y y_is m x p) up)
                  go (inr (inr f)) = absurd f

      are_earlier : AreEarlier d v
      are_earlier j n x z p q = by (dec_lt n i)
        where
          got : (n < i + 1) × (slice_get u n ≡ Some z)
          got = slice_get_take (i + 1) u n z q

          by : Dec (n < i) → Before x.tag z.tag
          by (yes less) = earlier plan d u i o.gone settled first j n x z p (slice_get_taken i u n z less got.1)
          by (no more) = let a : n < i + 1 = got.0 in subst (λ (w : Row). Before x.tag w.tag) (same_at u i n o.row z o.is_row got.1 (omega arith)) (Before-UpTo x.tag y.tag o.row.tag (first y y_is j x p) up)

      own : (m : ℕ) → BreaksRowUntil near plan (d ++ v) (length d + i) o.row m → BreaksRowUntil far plan v i o.row m
      own m b = to_far m (breaks_own plan d v near settled_near i are_earlier o.row at near m b)

    -- the row breaks no lesser rule
    least : (m : ℕ) → BreaksRowUntil near plan (d ++ v) (length d + i) o.row m → k ≤ m
    least m b = go (dec_lt m k)
      where
        y : (x : Row) × (slice_get u 0 ≡ Some x)
        y = get_there u 0 (omega (arith, inside))

        never : m < k → Before o.row.tag y.0.tag ⊎ UpTo y.0.tag o.row.tag → ⊥
        never l (inr up) = o.rule.2 m l (own y.0 y.1 up m b)
        never l (inl late) = by (dec_lt 0 i)
          where
            by : Dec (0 < i) → ⊥
            by (yes n) = let p = some m b in o.rule.2 1 (omega (arith, l, p)) (inl (refl, (0, y.0, n, slice_get_taken (i + 1) u 0 y.0 (omega arith) y.1, late)))
            by (no n) = Before-irrefl o.row.tag (subst (λ (w : Row). Before o.row.tag w.tag) (same_at u 0 i y.0 o.row y.1 o.is_row (omega arith)) late)

        go : Dec (m < k) → k ≤ m
        go (no n) = omega arith
        go (yes l) = absurd (never l (order_cases o.row.tag y.0.tag))

    -- each run at an earlier tag has its end
    ended_before : (c : Breach) → RowBreach plan (d ++ v) c → c.rule ≡ 5 → ¬ Before c.tag o.row.tag
    ended_before c x five before = by x.breaks
      where
        other : (n : ℕ) → c.rule ≡ n → n < 5 → ⊥
        other n is l = absurd (omega arith)

        by : BreaksRowUntil near plan (d ++ v) x.place x.row c.rule → ⊥
        by (inl p) = other 1 p.0 (omega arith)
        by (inr (inl p)) = other 2 p.0 (omega arith)
        by (inr (inr (inl p))) = other 3 p.0 (omega arith)
        by (inr (inr (inr (inl p)))) = other 4 p.0 (omega arith)
        by (inr (inr (inr (inr p)))) = go (get_append_cases d v x.place x.row x.is_row)
          where
            at_end : Row
            at_end = end_row x.row.worker x.row.tag x.row.reaction

            go : (slice_get d x.place ≡ Some x.row) ⊎ ((j : ℕ) × (x.place ≡ length d + j) × (slice_get v j ≡ Some x.row)) → ⊥
            go (inl e) = ended plan d v (stop plan d) settled i x.place x.row e (p.1.0, λ n l f. p.1.1 n l (get_left d v n at_end f))
            go (inr (j, q, e)) = here (dec_lt j i)
              where
                got : (j < i + 1) × (slice_get u j ≡ Some x.row)
                got = slice_get_take (i + 1) u j x.row e

                earlier_tag : Before x.row.tag o.row.tag
                earlier_tag = subst (λ (g : Tag). Before g o.row.tag) x.tag_is before

                here : Dec (j < i) → ⊥
                here (yes l) = o.ended j x.row (slice_get_taken i u j x.row l got.1) earlier_tag (p.1.0, λ n m f. let w = slice_get_take i u n at_end f in let a : n < i = w.0 in p.1.1 (length d + n) (omega arith) (get_right d v n ∙ slice_get_taken (i + 1) u n at_end (omega arith) w.1))
                here (no n) = let a : j < i + 1 = got.0 in Before-irrefl o.row.tag (subst (λ (w : Row). Before w.tag o.row.tag) (same_at u j i x.row o.row got.1 o.is_row (omega arith)) earlier_tag)

    pub bad_is_sure : IsQuiet plan (d ++ take i u) → (b : Breach) → b.rule ≡ k → b.row ≡ length d + i + 2 → ((x : Row) → slice_get u i ≡ Some x → IsOf b x) → (n : ℕ) × IsSureBehind plan (d ++ u) b n
    bad_is_sure quiet b rule row is = (
      length d + (i + 1),
      record {
        within = let l : i < length u = inside in omega (arith, long, l);
        breaks = subst (λ (t : List Row). RowBreach plan t b) (whole (i + 1)) breach;
        sure = inl (record {
          rule = small;
          last = row ∙ (let e : length d + i + 2 ≡ length d + (i + 1) + 1 = omega arith in e);
          quiet = subst (λ (t : List Row). IsQuiet plan t) (whole i ∙ ap (λ (n : ℕ). take n (d ++ u)) (let e : length d + i ≡ length d + (i + 1) - 1 = omega arith in e)) quiet;
          least = λ c x same. no_lesser c (subst (λ (t : List Row). RowBreach plan t c) (sym (whole (i + 1))) x) same;
          ended = λ c x five before. ended_before c (subst (λ (t : List Row). RowBreach plan t c) (sym (whole (i + 1))) x) five (subst (λ (g : Tag). Before c.tag g) (is o.row o.is_row).0 before);
        });
      },
    )
      where
        few : k < 5
        few = o.rule.1

        small : b.rule ≤ 4
        small = let q : b.rule ≡ k = rule in let l : k < 5 = few in omega arith

        breaks : BreaksRowUntil near plan (d ++ v) (length d + i) o.row k
        breaks = breaks_whole plan d v (stop plan d) settled i near far nearer o.row k few o.rule.0

        here : slice_get (d ++ v) (length d + i) ≡ Some o.row
        here = get_right d v i ∙ at

        breach : RowBreach plan (d ++ v) b
        breach = record {
          place = length d + i;
          row = o.row;
          is_row = here;
          breaks = subst (λ (m : ℕ). BreaksRowUntil near plan (d ++ v) (length d + i) o.row m) (sym rule) breaks;
          tag_is = (is o.row o.is_row).0;
          reaction_is = (is o.row o.is_row).1;
          row_is = row;
        }

        no_lesser : (c : Breach) → RowBreach plan (d ++ v) c → c.row ≡ b.row → b.rule ≤ c.rule
        no_lesser c x same =
            let place : x.place ≡ length d + i = (let p : c.row ≡ x.place + 2 = x.row_is in let q : c.row ≡ b.row = same in let r : b.row ≡ length d + i + 2 = row in omega arith) in
            let y : x.row ≡ o.row = same_at (d ++ v) x.place (length d + i) x.row o.row x.is_row here place in
            let b1 = subst (λ (z : Row). BreaksRowUntil near plan (d ++ v) x.place z c.rule) y x.breaks in
            let b2 = subst (λ (n : ℕ). BreaksRowUntil near plan (d ++ v) n o.row c.rule) place b1 in
            subst (λ (n : ℕ). n ≤ c.rule) (sym rule) (least c.rule b2)

  -- a run without an end, once a row is there at a later tag
  pub lost_is_sure : (s i : ℕ) → IsRunLost plan d u s i → IsQuiet plan (d ++ take i u) → (b : Breach) → b.rule ≡ 5 → b.row ≡ length d + s + 2 → ((x : Row) → slice_get u s ≡ Some x → IsOf b x) → (n : ℕ) × IsSureBehind plan (d ++ u) b n
  lost_is_sure s i o quiet b rule row is = (
    length d + i,
    record {
      within = let l : i < length u = slice_get_within u i o.later o.is_later in omega (arith, long, l);
      breaks = subst (λ (t : List Row). RowBreach plan t b) (whole i) breach;
      sure = inr (record {
        rule = rule;
        next = o.later;
        is_next = get_right d u i ∙ o.is_later;
        before = subst (λ (g : Tag). Before g o.later.tag) (sym (is o.row o.is_row).0) o.before;
        quiet = subst (λ (t : List Row). IsQuiet plan t) (whole i) quiet;
        first = λ c x. first_open plan d u i o.gone settled first s o.first b rule row c (subst (λ (t : List Row). RowBreach plan t c) (sym (whole i)) x);
      });
    },
  )
    where
      v : List Row
      v = take i u

      found : Row
      found = o.first.0

      same : found ≡ o.row
      same = same_some (slice_get u s) found o.row (slice_get_take i u s found o.first.2).1 o.is_row

      breach : RowBreach plan (d ++ v) b
      breach = open_breach plan d v s found o.first.2 o.first.3 b rule row ((is o.row o.is_row).0 ∙ ap (λ (x : Row). x.tag) (sym same), (is o.row o.is_row).1 ∙ ap (λ (x : Row). Some x.reaction) (sym same))
