-- Rows that a follower goes past in parts.
use Rattle.std.proofs.Common.{◌≡◌, ℕ, ◌+◌, ◌-◌, ◌∷◌, ◌<◌, ◌≤◌, ◌^◌, ◌⊎◌, inl, inr, List, [], ◌++◌, length, take, drop, length-append, refl, sym, ap, ◌∙◌, subst, arith, Some, slice_get, slice_range}
use Rattle.std.specs.List.{copy_within}
use Rattle.std.proofs.Math.Seq.{take-add, drop-length}
use Rattle.std.proofs.lemmas.List.{append_assoc, append-nil, drop-drop, drop-take, length-drop, length-take-le, take-append-drop, take-append-le, take-take, take_rest}
use Rattle.lft_ir.{proofs.Ranges.length-range, specs.{Parts.Parts, declared.steps.row.Row.Row, Steps.Fits.RowsFit}}
use Rattle.lft_lists.proofs.Places.{get_left, get_right}
use Rattle.lft_model.{specs.{declared.breach.Breach.Breach, Fitting.EachFits, Plans.PlanParts, Breaches.RowBreach}, proofs.Places.slice_get_take}
use Rattle.lft_stream.proofs.Parting.{up_to_second}
use Rattle.lft_monitor.specs.declared.follower.{Follower.Follower, Hitch.Hitch}
use Rattle.lft_monitor.specs.inner.{Follows.{done_of, held_of, next_of, HasGonePast, IsFollowedOn, IsFollowerOf, IsHeld, IsHitch, IsJudgedTo}, Going.IsGoing}
use Rattle.lft_monitor.specs.{Sure.IsFirstBefore, Follows.{breach_of, AreTooMany, IsBadRow, IsLostRun, IsQuiet, IsSureSoFar, KeepsButLast}}
use Rattle.lft_monitor.proofs.Following.{fit_more, followed_on, going_over, held_over, hitch_over}
use Rattle.lft_monitor.specs.declared.follower.Hitch.TheVariants as hitch

-- what is sure of rows is sure with more behind them
sure_longer : (plan : PlanParts) (t u : List Row) (b : Breach) → IsSureSoFar plan t b → IsSureSoFar plan (t ++ u) b
sure_longer plan t u b (n, inl x) = (n, inl (record { within = let l = length-append t u in let m = x.within in omega (arith, l, m); breaks = subst (λ (v : List Row). RowBreach plan v b) (sym same) x.breaks; sure = go x.sure }))
  where
    same : take n (t ++ u) ≡ take n t
    same = take-append-le n t u x.within

    less : take (n - 1) (t ++ u) ≡ take (n - 1) t
    less = take-append-le (n - 1) t u (let m = x.within in omega (arith, m))

    go : IsBadRow plan t b n ⊎ IsLostRun plan t b n → IsBadRow plan (t ++ u) b n ⊎ IsLostRun plan (t ++ u) b n
    go (inl y) = inl (record { rule = y.rule; last = y.last; quiet = subst (λ (v : List Row). IsQuiet plan v) (sym less) y.quiet; least = λ c r. y.least c (subst (λ (v : List Row). RowBreach plan v c) same r); ended = λ c r. y.ended c (subst (λ (v : List Row). RowBreach plan v c) same r) })
    go (inr y) = inr (record { rule = y.rule; next = y.next; is_next = get_left t u n y.next y.is_next; before = y.before; quiet = subst (λ (v : List Row). IsQuiet plan v) (sym same) y.quiet; first = λ c r. y.first c (subst (λ (v : List Row). RowBreach plan v c) same r) })
sure_longer plan t u b (n, inr x) = (n, inr (record { within = let l = length-append t u in let m = x.within in omega (arith, l, m); some = x.some; row = x.row; last = get_left t u (n - 1) x.row x.last; first = subst (λ (v : List Row). IsFirstBefore plan v x.row.tag b) (sym same) x.first; kept = subst (λ (v : List Row). KeepsButLast plan v) (sym same) x.kept }))
  where
    same : take n (t ++ u) ≡ take n t
    same = take-append-le n t u x.within

hitch_longer : (plan : PlanParts) (t u : List Row) (n : ℕ) (h : Hitch) → IsHitch plan t n h → IsHitch plan (t ++ u) n h
hitch_longer plan t u n (hitch.Broken f) sure = sure_longer plan t u (breach_of f) sure
hitch_longer plan t u n (hitch.Odd line) odd = record { place = odd.place; row = odd.row; next = odd.next; is_row = get_left t u odd.place odd.row odd.is_row; is_next = get_left t u (odd.place + 1) odd.next odd.is_next; before = odd.before; behind = odd.behind; line_is = odd.line_is }

-- ---- rows are gone past in parts

-- the rows that are held
pub held_is : (f : Follower) (s : List Row) → s ≡ f.rows.items → slice_range s 0 f.held ≡ held_of f
held_is f s e = up_to_second s 0 f.held (omega arith) ∙ ap (λ (u : List Row). take f.held u) e

-- the first are dropped, and the others are in their place
pub shifted : (xs : List Row) (count n : ℕ) → count ≤ length xs → n ≡ length xs → take (n - count) (copy_within xs count n 0) ≡ drop count xs
shifted xs count n within e =
    let others : take (n - count) (drop count xs) ≡ drop count xs = ap (λ (m : ℕ). take (m - count) (drop count xs)) e ∙ take_rest xs count in
    let long = length-drop count xs in
    ap (λ (u : List Row). take (n - count) (u ++ drop (0 + (n - count)) xs)) others
    ∙ take-append-le (n - count) (drop count xs) (drop (0 + (n - count)) xs) (omega (arith, long, e))
    ∙ others

-- what a follower holds, and so many of the rows behind it
at_hand : (f : Follower) (count : ℕ) → slice_range f.rows.items 0 (f.held + count) ≡ held_of f ++ take count (next_of f)
at_hand f count = up_to_second f.rows.items 0 (f.held + count) (omega arith) ∙ take-add f.held count f.rows.items

-- they fit
next_fit : (program : Parts) (u : List Row) (count : ℕ) → EachFits program u → count ≤ length u → count ≤ 4000000 → RowsFit program (take count u)
next_fit program u count fits within few = record { few = let l = length-take-le count u within in omega (arith, l, few); each = λ i x e. fits i x (slice_get_take count u i x e).1 }

-- of rows the first are dropped, and those up to the end are held
module _ (xs : List Row) (begin end : ℕ) (up : begin ≤ end) (within : end ≤ length xs) where
  held_then : take (end - begin) (drop begin xs) ≡ slice_range (slice_range xs 0 end) begin (length (slice_range xs 0 end))
  held_then =
      let first : slice_range xs 0 end ≡ take end xs = up_to_second xs 0 end (omega arith) in
      let long : length (slice_range xs 0 end) ≡ end - 0 = length-range xs 0 end within in
      let same : length (slice_range xs 0 end) ≡ end = omega (arith, long) in
      let parted : end ≡ begin + (end - begin) = omega (arith, up) in
      sym (
      ap (λ (n : ℕ). slice_range (slice_range xs 0 end) begin n) same
      ∙ ap (λ (u : List Row). take (end - begin) (drop begin u)) (first ∙ ap (λ (n : ℕ). take n xs) parted)
      ∙ ap (λ (u : List Row). take (end - begin) u) (drop-take begin (end - begin) xs)
      ∙ take-take (end - begin) (end - begin) (drop begin xs) (omega arith)
      )

  next_then : drop (end - begin) (drop begin xs) ≡ drop end xs
  next_then = drop-drop (end - begin) begin xs ∙ ap (λ (n : ℕ). drop n xs) (let e : begin + (end - begin) ≡ end = omega (arith, up) in e)

  within_then : end - begin ≤ length (drop begin xs)
  within_then = let l = length-drop begin xs in omega (arith, l, up, within)

-- those that a follower holds, and so many of the next ones
module _ (plan : PlanParts) (t : List Row) (f : Follower) (is : IsFollowerOf plan t f) (count : ℕ) (within : count ≤ length (next_of f)) where
  pub hand_within : f.held + count ≤ length f.rows.items
  hand_within = let a = length-drop f.held f.rows.items in let b = is.within in omega (arith, a, b, within)

  -- where the first are dropped, the others come next
  pub next_left : (begin : ℕ) (left : List Row) → begin ≤ f.held + count → left ≡ drop begin f.rows.items → drop (f.held + count - begin) left ≡ drop count (next_of f)
  next_left begin left up is_left = ap (λ (u : List Row). drop (f.held + count - begin) u) is_left ∙ next_then f.rows.items begin (f.held + count) up hand_within ∙ sym (drop-drop count f.held f.rows.items)

  module _ (s : List Row) (hand : s ≡ slice_range f.rows.items 0 (f.held + count)) where
    same : s ≡ held_of f ++ take count (next_of f)
    same = hand ∙ at_hand f count

    parts : length s ≡ length (held_of f) + length (take count (next_of f))
    parts = ap (λ (u : List Row). length u) same ∙ length-append (held_of f) (take count (next_of f))

    long : length s ≡ f.held + count
    long = let a = parts in let b = length-take-le f.held f.rows.items is.within in let c = length-take-le count (next_of f) within in omega (arith, a, b, c)

    pub up_to_end : (begin : ℕ) → begin ≤ length s → begin ≤ f.held + count
    up_to_end begin up = let l = long in omega (arith, up, l)

    pub hand_going : IsGoing plan (done_of t f) s f.going
    hand_going = going_over plan t (take count (next_of f)) f is s same

    pub hand_hitch : (h : Hitch) → IsHitch plan (done_of t f ++ s) (length (done_of t f)) h → IsHitch plan (t ++ take count (next_of f)) (length (done_of t f)) h
    hand_hitch h stuck = hitch_over plan t (take count (next_of f)) f is s same h stuck

    -- the first are judged and dropped
    pub hand_on : (new : Follower) (begin : ℕ) → IsJudgedTo plan (done_of t f) s new.judged new.going begin → new.held ≡ f.held + count - begin → new.rows.items ≡ drop begin f.rows.items → IsFollowedOn plan t (take count (next_of f)) f new
    hand_on new begin to held left = followed_on plan t (take count (next_of f)) f is s same new begin to inside still
      where
        up : begin ≤ f.held + count
        up = up_to_end begin to.within

        inside : new.held ≤ length new.rows.items
        inside = let a = within_then f.rows.items begin (f.held + count) up hand_within in let b = ap (λ (u : List Row). length u) left in omega (arith, a, b, held)

        still : held_of new ≡ slice_range s begin (length s)
        still = ap (λ (n : ℕ). take n new.rows.items) held ∙ ap (λ (u : List Row). take (f.held + count - begin) u) left ∙ held_then f.rows.items begin (f.held + count) up hand_within ∙ ap (λ (u : List Row). slice_range u begin (length u)) (sym hand)

    module _ (short : f.held + count ≤ 4000000) (fits : EachFits plan.program (next_of f)) where
      pub hand_fit : RowsFit plan.program s
      hand_fit = subst (λ (u : List Row). RowsFit plan.program u) (sym same) (fit_more plan t (take count (next_of f)) f is (next_fit plan.program (next_of f) count fits within (omega (arith, short))) (let a = parts in let l = long in omega (arith, a, l, short)))

      pub hand_held : IsHeld plan (done_of t f) s f.judged
      hand_held = held_over plan t (take count (next_of f)) f is s same hand_fit

-- the first of all rows are gone past, and no fewer are judged than before
pub record IsOnWay (plan : PlanParts) (t all : List Row) (old mid : Follower) : Type 0 where
  pub first : List Row
  pub whole : first ++ next_of mid ≡ all
  pub follows : IsFollowerOf plan (t ++ first) mid
  pub further : length (done_of t old) ≤ length (done_of (t ++ first) mid)

pub none_gone : (plan : PlanParts) (t : List Row) (f : Follower) → IsFollowerOf plan t f → IsOnWay plan t (next_of f) f f
none_gone plan t f is = record {
  first = [];
  whole = refl;
  follows = subst (λ (u : List Row). IsFollowerOf plan u f) (sym (append-nil t)) is;
  further = subst (λ (u : List Row). length (done_of t f) ≤ length (done_of u f)) (sym (append-nil t)) (omega arith);
}

module _ (plan : PlanParts) (t all : List Row) (old mid : Follower) (way : IsOnWay plan t all old mid) where
  both : (t ++ way.first) ++ next_of mid ≡ t ++ all
  both = append_assoc t way.first (next_of mid) ∙ ap (λ (u : List Row). t ++ u) way.whole

  pub left_fit : EachFits plan.program all → EachFits plan.program (next_of mid)
  left_fit fits i x e = fits (length way.first + i) x (subst (λ (u : List Row). slice_get u (length way.first + i) ≡ Some x) way.whole (get_right way.first (next_of mid) i ∙ e))

  -- those at the last tag are as many as a table may have
  pub many_held : 4000000 ≤ mid.held → 0 < length (next_of mid) → AreTooMany (t ++ all)
  many_held many some = go (next_of mid) refl some
    where
      go : (u : List Row) → next_of mid ≡ u → 0 < length u → AreTooMany (t ++ all)
      go [] e l = absurd (omega (arith, l))
      go (x ∷ u) e l = inl (done_of (t ++ way.first) mid, held_of mid, x, u, sym both ∙ ap (λ (s : List Row). s ++ next_of mid) way.follows.parts ∙ ap (λ (s : List Row). (done_of (t ++ way.first) mid ++ held_of mid) ++ s) e, way.follows.at_one, let a = length-take-le mid.held mid.rows.items way.follows.within in omega (arith, a, many))

  -- more are judged than are counted
  pub many_judged : 2 ^ 62 < mid.judged.count → AreTooMany (t ++ all)
  many_judged many = inr (
      let a = way.follows.held.judged.counted in
      let b : length (t ++ way.first) ≡ length (done_of (t ++ way.first) mid) + length (held_of mid) = ap (λ (u : List Row). length u) way.follows.parts ∙ length-append (done_of (t ++ way.first) mid) (held_of mid) in
      let c = length-append (t ++ way.first) (next_of mid) in
      let d = ap (λ (u : List Row). length u) both in
      omega (arith, a, b, c, d, many))

  module _ (count : ℕ) where
    abbrev part : List Row
    part = take count (next_of mid)

    left : ((t ++ way.first) ++ part) ++ drop count (next_of mid) ≡ t ++ all
    left = append_assoc (t ++ way.first) part (drop count (next_of mid)) ∙ ap (λ (u : List Row). (t ++ way.first) ++ u) (take-append-drop count (next_of mid)) ∙ both

    -- why they aren't gone past is why all aren't
    pub hitch_on : (h : Hitch) → IsHitch plan ((t ++ way.first) ++ part) (length (done_of (t ++ way.first) mid)) h → IsHitch plan (t ++ all) (length (done_of t old)) h
    hitch_on h is = subst (λ (u : List Row). IsHitch plan u (length (done_of t old)) h) left (sooner h (hitch_longer plan ((t ++ way.first) ++ part) (drop count (next_of mid)) (length (done_of (t ++ way.first) mid)) h is))
      where
        sooner : (h : Hitch) → IsHitch plan (((t ++ way.first) ++ part) ++ drop count (next_of mid)) (length (done_of (t ++ way.first) mid)) h → IsHitch plan (((t ++ way.first) ++ part) ++ drop count (next_of mid)) (length (done_of t old)) h
        sooner (hitch.Broken f) sure = sure
        sooner (hitch.Odd line) odd = record { place = odd.place; row = odd.row; next = odd.next; is_row = odd.is_row; is_next = odd.is_next; before = odd.before; behind = let p = way.further in let q = odd.behind in omega (arith, p, q); line_is = odd.line_is }

    module _ (new : Follower) (on : IsFollowedOn plan (t ++ way.first) part mid new) (next : next_of new ≡ drop count (next_of mid)) where
      pub gone_on : IsOnWay plan t all old new
      gone_on = record {
        first = way.first ++ part;
        whole = append_assoc way.first part (next_of new) ∙ ap (λ (u : List Row). way.first ++ u) (ap (λ (u : List Row). part ++ u) next ∙ take-append-drop count (next_of mid)) ∙ way.whole;
        follows = subst (λ (u : List Row). IsFollowerOf plan u new) (append_assoc t way.first part) on.follows;
        further = let p = way.further in let q = on.further in let r = ap (λ (u : List Row). length (done_of u new)) (append_assoc t way.first part) in omega (arith, p, q, r);
      }

      -- they are the last
      pub all_gone : count ≡ length (next_of mid) → HasGonePast plan (t ++ all) new × IsQuiet plan (t ++ all)
      all_gone e = ((subst (λ (u : List Row). IsFollowerOf plan u new) end on.follows, next ∙ none), subst (λ (u : List Row). IsQuiet plan u) end on.quiet)
        where
          none : drop count (next_of mid) ≡ []
          none = ap (λ (n : ℕ). drop n (next_of mid)) e ∙ drop-length (next_of mid)

          end : (t ++ way.first) ++ part ≡ t ++ all
          end = sym (append-nil ((t ++ way.first) ++ part)) ∙ ap (λ (u : List Row). ((t ++ way.first) ++ part) ++ u) (sym none) ∙ left
