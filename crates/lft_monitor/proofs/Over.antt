-- Rows at hand that are gone over, behind rows that are done.
use Rattle.std.proofs.Common.{◌≡◌, ℕ, ◌+◌, ◌-◌, ◌<◌, ◌≤◌, ◌⊎◌, inl, inr, List, [], ◌∷◌, ◌++◌, append-nil, length, take, refl, sym, ap, ◌∙◌, subst, arith, Some, None, slice_get, slice_range}
use Rattle.std.proofs.lemmas.List.{append_assoc, length-take-le}
use native.Mathlib.Decide.{dec_lt}
use Rattle.lft_tag.specs.{declared.Tag.Tag, Tags.{Before, UpTo}}
use Rattle.lft_tag.proofs.Order.{Before-irrefl, Before-trans, Before-UpTo, Before-weaken, UpTo-Before, UpTo-refl, UpTo-not, UpTo_antisym, order_cases, split_up}
use Rattle.lft_ir.{proofs.Ranges.{range-get, range-within}, specs.declared.steps.row.Row.Row}
use Rattle.lft_lists.proofs.Places.{get_append_cases, get_there, same_at}
use Rattle.lft_model.specs.{declared.breach.Breach.Breach, Plans.PlanParts, Presence.stop, Breaches.{IsUnended, BreaksRowUntil, RowBreach, TagBreach, RowOrder}}
use Rattle.lft_model.proofs.Places.{slice_get_within, slice_get_take, slice_get_taken}
use Rattle.lft_rows.specs.inner.{Firsts.FirstRow, Parts.AreEarlier, Passes.{FirstUnended, KeepsEarly}}
use Rattle.lft_queue.specs.Coming.AtTag.{AreBefore}
use Rattle.lft_stream.proofs.{Parting.up_to_second, Settling.rows_until}
use Rattle.lft_monitor.specs.{Sure.AreRowsFrom, inner.{Going.IsGoneTo, Kept.IsPastOfRows, Follows.BeginsLast}, declared.past.Past.Past}
use Rattle.lft_monitor.specs.Follows.{IsQuiet, KeepsButLast}
use Rattle.lft_monitor.proofs.{Finished.finished_law, Hand.breaks_own, Rows.breaks_back}

module _ (plan : PlanParts) (done rows : List Row) (i : ℕ) (gone : IsGoneTo plan done rows i) where
  abbrev pub over : List Row
  over = take i rows

  pub long : length over ≡ i
  long = length-take-le i rows gone.within

  in_over : (j : ℕ) (x : Row) → j < i → slice_get rows j ≡ Some x → slice_get over j ≡ Some x
  in_over j x l e = slice_get_taken i rows j x l e

  -- tags don't fall
  pub rising : (j k : ℕ) (x y : Row) → j ≤ k → k < i → slice_get rows j ≡ Some x → slice_get rows k ≡ Some y → UpTo x.tag y.tag
  rising j k x y l m e f = go (dec_lt j k) (order_cases y.tag x.tag)
    where
      go : Dec (j < k) → Before y.tag x.tag ⊎ UpTo x.tag y.tag → UpTo x.tag y.tag
      go d (inr u) = u
      go (yes n) (inl b) = absurd (gone.kept k y 1 m (in_over k y m f) (omega arith) (inl (refl, (j, x, n, in_over j x (omega arith) e, b))))
      go (no n) (inl b) = subst (λ (z : Row). UpTo x.tag z.tag) (same_at rows j k x y e f (omega arith)) (UpTo-refl x.tag)

  -- and none is past the stop
  pub in_time : (j : ℕ) (x : Row) → j < i → slice_get rows j ≡ Some x → UpTo x.tag (stop plan (done ++ over))
  in_time j x l e = go (order_cases (stop plan (done ++ over)) x.tag)
    where
      go : Before (stop plan (done ++ over)) x.tag ⊎ UpTo x.tag (stop plan (done ++ over)) → UpTo x.tag (stop plan (done ++ over))
      go (inl b) = absurd (gone.kept j x 2 l (in_over j x l e) (omega arith) (inr (inl (refl, b))))
      go (inr u) = u

  -- where the rows of the last tag begin, the rows before are at earlier tags
  module _ (begin : ℕ) (begins : BeginsLast rows i begin) where
    pub apart : (j k : ℕ) (x y : Row) → j < begin → begin ≤ k → k < i → slice_get rows j ≡ Some x → slice_get rows k ≡ Some y → Before x.tag y.tag
    apart j k x y l m n e f = go (split_up x.tag y.tag (rising j k x y (omega arith) n e f))
      where
        final : (z : Row) × (slice_get rows (i - 1) ≡ Some z)
        final = get_there rows (i - 1) (let w : i ≤ length rows = gone.within in omega arith)

        last : (z : Row) × (slice_get rows (begin - 1) ≡ Some z)
        last = get_there rows (begin - 1) (let w : i ≤ length rows = gone.within in omega arith)

        go : Before x.tag y.tag ⊎ (x.tag ≡ y.tag) → Before x.tag y.tag
        go (inl b) = b
        go (inr q) = absurd (begins.other last.0 final.0 (omega arith) last.1 final.1 (UpTo_antisym last.0.tag final.0.tag (rising (begin - 1) (i - 1) last.0 final.0 (omega arith) (omega arith) last.1 final.1) down))
          where
            -- what is at the tag of the last row ends with it
            down : UpTo final.0.tag last.0.tag
            down = subst (λ (g : Tag). UpTo g last.0.tag) (q ∙ begins.last.at_one k y final.0 m n f final.1) (rising j (begin - 1) x last.0 (omega arith) (omega arith) e last.1)

  module _ (settled : FirstRow (stop plan done) plan done None) (first : (x : Row) → slice_get rows 0 ≡ Some x → AreBefore done x.tag) where
    abbrev all : List Row
    all = done ++ over

    pub earlier : AreEarlier done over
    earlier m j x y p q =
        let o = slice_get_take i rows j y q in
        let l : j < i = o.0 in
        let z = get_there rows 0 (let w : i ≤ length rows = gone.within in omega arith) in
        Before-UpTo x.tag z.0.tag y.tag (first z.0 z.1 m x p) (rising 0 j z.0 y (omega arith) l z.1 o.1)

    kept : KeepsEarly (stop plan all) plan over (length over)
    kept = subst (λ (n : ℕ). KeepsEarly (stop plan all) plan over n) (sym long) gone.kept

    settled_all : FirstRow (stop plan all) plan done None
    settled_all = go (dec_lt 0 i)
      where
        nothing : (xs : List Row) → length xs ≡ 0 → xs ≡ []
        nothing [] e = refl
        nothing (x ∷ xs) e = absurd (omega arith)

        go : Dec (0 < i) → FirstRow (stop plan all) plan done None
        go (yes l) = rows_until plan done (stop plan done) (stop plan all) up settled
          where
            z : (x : Row) × (slice_get rows 0 ≡ Some x)
            z = get_there rows 0 (let w : i ≤ length rows = gone.within in omega arith)

            up : (m : ℕ) (x : Row) → slice_get done m ≡ Some x → UpTo x.tag (stop plan all)
            up m x e = Before-weaken x.tag (stop plan all) (Before-UpTo x.tag z.0.tag (stop plan all) (first z.0 z.1 m x e) (in_time 0 z.0 l z.1))
        go (no n) = subst (λ (t : List Row). FirstRow (stop plan t) plan done None) (sym (append-nil done) ∙ ap (λ (t : List Row). done ++ t) (sym (nothing over (long ∙ (let z : i ≡ 0 = omega arith in z))))) settled

    -- the row starts a run at hand that has no end
    abbrev IsOpenAt : Breach → Type 0
    IsOpenAt c = (j : ℕ) × (x : Row) × (slice_get over j ≡ Some x) × IsUnended over j x × (c.row ≡ length done + j + 2) × (c.rule ≡ 5) × (c.tag ≡ x.tag)

    -- no other row breaks a rule
    pub only_open : (c : Breach) → RowBreach plan all c → IsOpenAt c
    only_open c b = go (get_append_cases done over b.place b.row b.is_row)
      where
        last : Tag
        last = stop plan all

        go : (slice_get done b.place ≡ Some b.row) ⊎ ((j : ℕ) × (b.place ≡ length done + j) × (slice_get over j ≡ Some b.row)) → IsOpenAt c
        go (inl e) = absurd (settled_all c (record { place = b.place; row = b.row; is_row = e; breaks = breaks_back done over plan last b.place b.row c.rule e b.breaks; tag_is = b.tag_is; reaction_is = b.reaction_is; row_is = b.row_is }))
        go (inr (j, q, e)) = by (breaks_own plan done over last settled_all j earlier b.row e last c.rule (subst (λ (n : ℕ). BreaksRowUntil last plan all n b.row c.rule) q b.breaks))
          where
            few : (n : ℕ) → c.rule ≡ n → n < 5 → c.rule < 5
            few n is l = omega arith

            never : c.rule < 5 → ¬ BreaksRowUntil last plan over j b.row c.rule
            never l = kept j b.row c.rule (slice_get_within over j b.row e) e l

            by : BreaksRowUntil last plan over j b.row c.rule → IsOpenAt c
            by (inl x) = absurd (never (few 1 x.0 (omega arith)) (inl x))
            by (inr (inl x)) = absurd (never (few 2 x.0 (omega arith)) (inr (inl x)))
            by (inr (inr (inl x))) = absurd (never (few 3 x.0 (omega arith)) (inr (inr (inl x))))
            by (inr (inr (inr (inl x)))) = absurd (never (few 4 x.0 (omega arith)) (inr (inr (inr (inl x)))))
            by (inr (inr (inr (inr x)))) = (j, b.row, e, x.1, b.row_is ∙ ap (λ (n : ℕ). n + 2) q, x.0, b.tag_is)

    -- the first of these is the first breach
    pub first_open : (s : ℕ) → FirstUnended over i (Some s) → (b : Breach) → b.rule ≡ 5 → b.row ≡ length done + s + 2 → (c : Breach) → RowBreach plan all c → RowOrder b c
    first_open s found b rule row c x = go (only_open c x)
      where
        go : IsOpenAt c → RowOrder b c
        go (j, y, e, o, c_row, c_rule, c_tag) = by (dec_lt s j) (dec_lt j s)
          where
            by : Dec (s < j) → Dec (j < s) → RowOrder b c
            by (yes l) d = inl (omega arith)
            by (no n) (yes l) = absurd (found.4 j y l e o)
            by (no n) (no m) = inr (omega arith, omega arith)

    -- a run at hand without an end is at the last tag
    open_last : (c : Breach) → IsOpenAt c → (m : ℕ) (z : Row) → slice_get over m ≡ Some z → ¬ Before c.tag z.tag
    open_last c (j, y, e, o, c_row, c_rule, c_tag) m z at before = gone.ended last.0 last.1 j y e (Before-UpTo y.tag z.tag last.0.tag (subst (λ (g : Tag). Before g z.tag) c_tag before) (rising m (i - 1) z last.0 (omega (arith, l)) (omega (arith, l)) got.1 last.1)) o
      where
        got : (m < i) × (slice_get rows m ≡ Some z)
        got = slice_get_take i rows m z at

        l : m < i
        l = got.0

        last : (x : Row) × (slice_get rows (i - 1) ≡ Some x)
        last = get_there rows (i - 1) (let w : i ≤ length rows = gone.within in omega (arith, l))

    pub keeps_but_last : KeepsButLast plan all
    keeps_but_last c x = go (only_open c x)
      where
        go : IsOpenAt c → (c.rule ≡ 5) × ((m : ℕ) (z : Row) → slice_get all m ≡ Some z → ¬ Before c.tag z.tag)
        go o = (o.5, λ m z at before. by m z before (get_append_cases done over m z at))
          where
            by : (m : ℕ) (z : Row) → Before c.tag z.tag → (slice_get done m ≡ Some z) ⊎ ((k : ℕ) × (m ≡ length done + k) × (slice_get over k ≡ Some z)) → ⊥
            by m z before (inl at) = Before-irrefl c.tag (Before-trans c.tag z.tag c.tag before (subst (λ (g : Tag). Before z.tag g) (sym o.6) (earlier m o.0 z o.1 at o.2)))
            by m z before (inr (k, q, at)) = open_last c o k z at before

    -- where the rows before those at the last tag are judged, nothing is to be told
    module _ (begin : ℕ) (begins : BeginsLast rows i begin) (past : Past) (is : IsPastOfRows plan (done ++ slice_range rows 0 begin) past) where
      abbrev front : List Row
      front = done ++ slice_range rows 0 begin

      abbrev rest : List Row
      rest = slice_range rows begin i

      up : begin ≤ i
      up = begins.last.up

      parts : front ++ rest ≡ all
      parts = append_assoc done (slice_range rows 0 begin) rest ∙ ap (λ (t : List Row). done ++ t) (ap (λ (t : List Row). t ++ rest) (up_to_second rows 0 begin (omega arith)) ∙ up_to_second rows begin i up)

      in_rest : (k : ℕ) (y : Row) → slice_get rest k ≡ Some y → (begin + k < i) × (slice_get rows (begin + k) ≡ Some y)
      in_rest k y e = let l = range-within rows begin i k y gone.within e in (l, sym (range-get rows begin i k l) ∙ e)

      before_rest : (k : ℕ) (y : Row) → slice_get rest k ≡ Some y → AreBefore front y.tag
      before_rest k y e m x at = go (get_append_cases done (slice_range rows 0 begin) m x at)
        where
          own : (begin + k < i) × (slice_get rows (begin + k) ≡ Some y)
          own = in_rest k y e

          go : (slice_get done m ≡ Some x) ⊎ ((j : ℕ) × (m ≡ length done + j) × (slice_get (slice_range rows 0 begin) j ≡ Some x)) → Before x.tag y.tag
          go (inl p) = let l : begin + k < i = own.0 in earlier m (begin + k) x y p (in_over (begin + k) y l own.1)
          go (inr (j, q, p)) =
              let l : 0 + j < begin = range-within rows 0 begin j x (let w : i ≤ length rows = gone.within in omega (arith, up)) p in
              apart begin begins j (begin + k) x y (omega (arith, l)) (omega arith) own.0 (ap (λ (n : ℕ). slice_get rows n) (let z : j ≡ 0 + j = omega arith in z) ∙ sym (range-get rows 0 begin j l) ∙ p) own.1

      from : AreRowsFrom rest past.low
      from k y e = is.least y.tag (before_rest k y e)

      -- no row of them all is later than the last ones
      none_later : (k : ℕ) (y z : Row) (m : ℕ) → slice_get rest k ≡ Some y → slice_get all m ≡ Some z → ¬ Before y.tag z.tag
      none_later k y z m e at before = go (get_append_cases done over m z at)
        where
          own : (begin + k < i) × (slice_get rows (begin + k) ≡ Some y)
          own = in_rest k y e

          l : begin + k < i
          l = own.0

          final : (x : Row) × (slice_get rows (i - 1) ≡ Some x)
          final = get_there rows (i - 1) (let w : i ≤ length rows = gone.within in omega (arith, l))

          same : y.tag ≡ final.0.tag
          same = begins.last.at_one (begin + k) y final.0 (omega arith) l own.1 final.1

          go : (slice_get done m ≡ Some z) ⊎ ((j : ℕ) × (m ≡ length done + j) × (slice_get over j ≡ Some z)) → ⊥
          go (inl p) = Before-irrefl y.tag (Before-trans y.tag z.tag y.tag before (earlier m (begin + k) z y p (in_over (begin + k) y l own.1)))
          go (inr (j, q, p)) =
              let o = slice_get_take i rows j z p in
              let n : j < i = o.0 in
              UpTo-not z.tag y.tag (subst (λ (g : Tag). UpTo z.tag g) (sym same) (rising j (i - 1) z final.0 (omega (arith, n)) (omega (arith, n)) o.1 final.1)) before

      pub quiet : IsQuiet plan all
      quiet b (inl (x, inl few)) = let five : b.rule ≡ 5 = (keeps_but_last b x).0 in absurd (omega arith)
      quiet b (inl (x, inr fin)) = (keeps_but_last b x).1 fin.other fin.later fin.is_later (UpTo-Before b.tag fin.row.tag fin.later.tag fin.up fin.before)
      quiet b (inr (x, fin)) = go (get_append_cases front rest fin.place fin.row (subst (λ (t : List Row). slice_get t fin.place ≡ Some fin.row) (sym parts) fin.is_row))
        where
          go : (slice_get front fin.place ≡ Some fin.row) ⊎ ((k : ℕ) × (fin.place ≡ length front + k) × (slice_get rest k ≡ Some fin.row)) → ⊥
          go (inl p) =
              let low : Before b.tag past.low = UpTo-Before b.tag fin.row.tag past.low fin.up (is.before fin.place fin.row p) in
              is.unbroken b (inr ((finished_law plan front rest past.low b from low).0 (subst (λ (t : List Row). TagBreach plan t b) (sym parts) x), low))
          go (inr (k, q, p)) = none_later k fin.row fin.later fin.other p fin.is_later fin.before
