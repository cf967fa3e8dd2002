-- Rows whose tags are finished are judged behind others.
use Rattle.std.proofs.Common.{◌≡◌, ℕ, ◌+◌, ◌-◌, ◌^◌, ◌<◌, ◌≤◌, ◌⊎◌, inl, inr, List, [], ◌∷◌, ◌++◌, length, length-append, refl, sym, ap, ◌∙◌, subst, arith, Option, Some, None, slice_get, slice_range}
use Rattle.std.proofs.{Math.Seq.take-length, lemmas.List.{append_assoc, append-nil}}
use native.Mathlib.Decide.{dec_lt}
use Rattle.lft_tag.{specs.{declared.Tag.Tag, Tags.{Before, UpTo, after}}, proofs.Order.{UpTo-refl, Before-UpTo, from_first}}
use Rattle.lft_lists.proofs.Places.{get_last, get_right, get_there, same_at}
use Rattle.lft_ir.{proofs.Ranges.{range-get, range-within}, specs.declared.steps.row.Row.Row}
use Rattle.lft_model.{specs.{Plans.PlanParts, Presence.stop, Runs.{start_row, Ran}}, proofs.Places.slice_get_within}
use Rattle.lft_rows.specs.inner.Slices.{Rises}
use Rattle.lft_queue.specs.Coming.AtTag.{AreAt}
use Rattle.lft_stream.{specs.{declared.acceptor.Acceptor.Acceptor, inner.Kept.IsAcceptorOf, Kept.low_of}, proofs.Parting.{rises_from, up_to_second}}
use Rattle.lft_monitor.specs.{Sure.IsUnbroken, Reach.{IsLastOf, IsReach}, declared.{reach.Reach.Reach, judged.Judged.Judged}}
use Rattle.lft_monitor.specs.inner.{Kept.IsPastOfRows, Follows.{IsJudgedOf, AreAtLastTag, BeginsLast}}
use Rattle.lft_monitor.proofs.Going.{next_up}

-- where nothing is broken before a tag, nothing is before an earlier one
pub lower : (plan : PlanParts) (t : List Row) (low high : Tag) → UpTo low high → IsUnbroken plan t high → IsUnbroken plan t low
lower plan t low high up clean b (inl x) = clean b (inl (x.0, go x.1))
  where
    go : (b.rule ≤ 4) ⊎ Before b.tag low → (b.rule ≤ 4) ⊎ Before b.tag high
    go (inl few) = inl few
    go (inr before) = inr (Before-UpTo b.tag low high before up)
lower plan t low high up clean b (inr x) = clean b (inr (x.0, Before-UpTo b.tag low high x.1 up))

-- rows that are accepted up to their end rise
pub accepted_rise : (plan : PlanParts) (t : List Row) (a : Acceptor) → IsAcceptorOf plan t a → Rises t
accepted_rise plan t a is = rises_from (stop plan t) plan t is.stands.state.settled.rows

-- the last tag with a run is up to that of the last row
last_up : (t : List Row) (r : Reach) (x : Row) (n : ℕ) → Rises t → IsReach t r → slice_get t n ≡ Some x → length t ≡ n + 1 → UpTo (low_of r.tag) (after x.tag 0)
last_up t r x n rises is at long = go r.tag is.last
  where
    go : (o : Option Tag) → IsLastOf is.tags o → UpTo (low_of o) (after x.tag 0)
    go None last = from_first (after x.tag 0)
    go (Some g) last = next_up g x.tag (up (dec_lt ran.1.place n))
      where
        there : slice_get is.tags (length last.0) ≡ Some g
        there = subst (λ (xs : List Tag). slice_get xs (length last.0) ≡ Some g) (sym last.1) (get_last last.0 g)

        ran : (c : ℕ) × Ran t g c
        ran = is.tags_are.ran (length last.0) g there

        up : Dec (ran.1.place < n) → UpTo g x.tag
        up (yes l) = rises ran.1.place n (start_row ran.1.worker g ran.0) x l ran.1.starts at
        up (no m) =
            let a : ran.1.place < length t = slice_get_within t ran.1.place (start_row ran.1.worker g ran.0) ran.1.starts in
            let q : start_row ran.1.worker g ran.0 ≡ x = same_at t ran.1.place n (start_row ran.1.worker g ran.0) x ran.1.starts at (omega arith) in
            subst (λ (y : Row). UpTo g y.tag) q (UpTo-refl g)

-- more rows are judged
pub judged_more : (plan : PlanParts) (d u : List Row) (old new : Judged) → IsJudgedOf plan d old → 0 < length u → old.count + length u ≤ 2 ^ 62 + 4000000 → IsAcceptorOf plan (d ++ u) new.acceptor → ((x : Row) → slice_get u (length u - 1) ≡ Some x → IsUnbroken plan (d ++ u) (after x.tag 0)) → IsPastOfRows plan (d ++ u) new.past → new.count ≡ old.count + length u → IsReach (d ++ u) new.reach → IsJudgedOf plan (d ++ u) new
judged_more plan d u old new is some few acceptor clean past count reach = record {
  acceptor = acceptor;
  past = past;
  counted = let a : old.count ≡ length d = is.counted in let b : length (d ++ u) ≡ length d + length u = length-append d u in let c : new.count ≡ old.count + length u = count in omega arith;
  few = let c : new.count ≡ old.count + length u = count in omega (arith, few, c);
  clean = record { reach = reach; unbroken = lower plan (d ++ u) (low_of new.reach.tag) (after last.0.tag 0) up (clean last.0 last.1) };
}
  where
    last : (x : Row) × (slice_get u (length u - 1) ≡ Some x)
    last = get_there u (length u - 1) (omega arith)

    up : UpTo (low_of new.reach.tag) (after last.0.tag 0)
    up = last_up (d ++ u) new.reach last.0 (length d + (length u - 1)) (accepted_rise plan (d ++ u) new.acceptor acceptor) reach (get_right d u (length u - 1) ∙ last.1) (let b : length (d ++ u) ≡ length d + length u = length-append d u in omega arith)

-- no rows
pub no_rows : (u : List Row) → length u ≡ 0 → u ≡ []
no_rows [] e = refl
no_rows (x ∷ u) e = absurd (omega arith)

pub judged_none : (plan : PlanParts) (d u : List Row) (j : Judged) → length u ≡ 0 → IsJudgedOf plan d j → IsJudgedOf plan (d ++ u) j
judged_none plan d u j none is = subst (λ (t : List Row). IsJudgedOf plan t j) (sym (ap (λ (t : List Row). d ++ t) (no_rows u none) ∙ append-nil d)) is

-- rows from a place on are at one tag
last_at : (u : List Row) (n : ℕ) → AreAtLastTag u (length u) n → (g : Tag) × ((i : ℕ) (x : Row) → n ≤ i → i < length u → slice_get u i ≡ Some x → x.tag ≡ g)
last_at u n begins = go (dec_lt n (length u))
  where
    go : Dec (n < length u) → (g : Tag) × ((i : ℕ) (x : Row) → n ≤ i → i < length u → slice_get u i ≡ Some x → x.tag ≡ g)
    go (yes l) = let z = get_there u (length u - 1) (omega arith) in (z.0.tag, λ i x a b e. begins.at_one i x z.0 a b e z.1)
    go (no m) = (record { time = 0; micro = 0 }, λ i x a b e. absurd (omega arith))

pub rest_at : (u : List Row) (n : ℕ) → AreAtLastTag u (length u) n → (g : Tag) × AreAt (slice_range u n (length u)) g
rest_at u n begins = let g = last_at u n begins in (g.0, λ i x e. let l = range-within u n (length u) i x (omega arith) e in g.1 (n + i) x (omega arith) (omega (arith, l)) (sym (range-get u n (length u) i l) ∙ e))

-- rows that are held are parted where the last tag begins
pub parted : (t d u : List Row) (n : ℕ) → n ≤ length u → t ≡ d ++ u → t ≡ (d ++ slice_range u 0 n) ++ slice_range u n (length u)
parted t d u n l parts = parts ∙ ap (λ (x : List Row). d ++ x) (sym whole) ∙ sym (append_assoc d (slice_range u 0 n) (slice_range u n (length u)))
  where
    whole : slice_range u 0 n ++ slice_range u n (length u) ≡ u
    whole = ap (λ (x : List Row). x ++ slice_range u n (length u)) (up_to_second u 0 n (omega arith)) ∙ up_to_second u n (length u) l ∙ take-length u

-- no rows
pub begins_none : (rows : List Row) (end : ℕ) → end ≡ 0 → BeginsLast rows end 0
begins_none rows end none = record { last = record { up = omega arith; at_one = λ i x z a b. absurd (omega arith) }; some = λ l. l; other = λ x z l. absurd (omega arith) }

-- the last row alone
pub last_one : (rows : List Row) (end : ℕ) → AreAtLastTag rows end (end - 1)
last_one rows end = record { up = omega arith; at_one = λ i x z a b e f. ap (λ (r : Row). r.tag) (same_at rows i (end - 1) x z e f (omega arith)) }

module _ (rows : List Row) (end passed : ℕ) (x y : Row) where
  -- one row more is at the same tag
  pub begins_before : passed < end → AreAtLastTag rows end (end - passed) → slice_get rows (end - 1 - passed) ≡ Some x → slice_get rows (end - 1) ≡ Some y → x.tag ≡ y.tag → AreAtLastTag rows end (end - (passed + 1))
  begins_before inside begins at last same = record { up = omega arith; at_one = at_one }
    where
      at_one : (i : ℕ) (w z : Row) → end - (passed + 1) ≤ i → i < end → slice_get rows i ≡ Some w → slice_get rows (end - 1) ≡ Some z → w.tag ≡ z.tag
      at_one i w z a b e f = go (dec_lt i (end - passed))
        where
          go : Dec (i < end - passed) → w.tag ≡ z.tag
          go (yes l) = ap (λ (r : Row). r.tag) (same_at rows i (end - 1 - passed) w x e at (omega arith)) ∙ same ∙ ap (λ (r : Row). r.tag) (same_at rows (end - 1) (end - 1) y z last f refl)
          go (no m) = begins.at_one i w z (omega arith) b e f

  -- the row before is at another tag
  pub begins_other : 0 < passed → passed < end → AreAtLastTag rows end (end - passed) → slice_get rows (end - 1 - passed) ≡ Some x → slice_get rows (end - 1) ≡ Some y → (x.tag ≡ y.tag → ⊥) → BeginsLast rows end (end - passed)
  begins_other more inside begins at last differ = record {
    last = begins;
    some = λ l. omega arith;
    other = λ w z l e f q. differ (ap (λ (r : Row). r.tag) (same_at rows (end - 1 - passed) (end - passed - 1) x w at e (omega arith)) ∙ q ∙ ap (λ (r : Row). r.tag) (same_at rows (end - 1) (end - 1) z y f last refl));
  }

-- all rows are at the tag
pub begins_all : (rows : List Row) (end passed : ℕ) → 0 < end → end ≤ passed → AreAtLastTag rows end (end - passed) → BeginsLast rows end 0
begins_all rows end passed some all begins = record { last = subst (λ (n : ℕ). AreAtLastTag rows end n) (let e : end - passed ≡ 0 = omega arith in e) begins; some = λ l. l; other = λ x z l. absurd (omega arith) }
