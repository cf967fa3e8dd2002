-- What is kept of rows that are judged, with more rows behind them.
use Rattle.std.proofs.Common.{◌≡◌, ℕ, ◌+◌, ◌-◌, ◌<◌, ◌≤◌, ◌⊎◌, inl, inr, List, [], ◌++◌, length, length-append, sym, ap, ◌∙◌, subst, arith, Some, slice_get}
use native.Mathlib.Decide.{dec_lt}
use Rattle.lft_tag.{specs.{declared.Tag.Tag, Tags.{Before, UpTo, after}}, proofs.Order.{UpTo-Before, UpTo-refl, after_past, from_first, order_cases}}
use Rattle.lft_lists.proofs.Places.{get_append_cases, get_left, get_right, same_at}
use Rattle.lft_ir.specs.{declared.steps.row.Row.Row, Steps.Fits.{RowFits, RowsFit}}
use Rattle.lft_model.{specs.{Plans.PlanParts, Presence.stop}, proofs.Places.slice_get_within}
use Rattle.lft_rows.specs.inner.Slices.{Rises}
use Rattle.lft_queue.specs.Coming.AtTag.{AreBefore}
use Rattle.lft_monitor.specs.{Sure.IsUnbroken, inner.Kept.{AreWaysOfWrites, IsKept, IsPastOfRows}, declared.{kept.CarriedWrites.CarriedWrites, past.Past.Past}}
use Rattle.lft_monitor.proofs.Keeping.{AreLate, time_up, kept_both, kept_fit, kept_later, kept_more, kept_self, kept_through}

-- the tag behind another is the first one behind it
pub after_least : (h g : Tag) → Before h g → UpTo (after h 0) g
after_least h g (inl l) = inl l
after_least h g (inr e) = let l : h.micro < g.micro = e.1 in inr (e.0, omega arith)

-- more rows that rise, of which one is the last
module _ (plan : PlanParts) (t rows : List Row) (x : Row) (some : 0 < length rows) (last : slice_get rows (length rows - 1) ≡ Some x) (rises : Rises (t ++ rows)) where
  final : slice_get (t ++ rows) (length t + (length rows - 1)) ≡ Some x
  final = get_right t rows (length rows - 1) ∙ last

  pub before : AreBefore (t ++ rows) (after x.tag 0)
  before i y e = UpTo-Before y.tag x.tag (after x.tag 0) (go (dec_lt i (length t + (length rows - 1)))) (after_past x.tag 0)
    where
      go : Dec (i < length t + (length rows - 1)) → UpTo y.tag x.tag
      go (yes l) = rises i (length t + (length rows - 1)) y x l e final
      go (no m) =
          let a : i < length (t ++ rows) = slice_get_within (t ++ rows) i y e in
          let b : length (t ++ rows) ≡ length t + length rows = length-append t rows in
          subst (λ (r : Row). UpTo y.tag r.tag) (same_at (t ++ rows) i (length t + (length rows - 1)) y x e final (omega arith)) (UpTo-refl y.tag)

  pub past_more : (old new : Past) → IsPastOfRows plan t old → RowsFit plan.program rows → IsUnbroken plan (t ++ rows) (after x.tag 0) → new.low ≡ after x.tag 0 → new.stop ≡ stop plan (t ++ rows) → new.ways ≡ old.ways → (more : List Row) → IsKept (stop plan (t ++ rows)) plan (t ++ rows) rows more new.low → new.kept.items ≡ old.kept.items ++ more → IsPastOfRows plan (t ++ rows) new
  past_more old new is fit clean low stops ways more keeps kept = record {
    stop_is = stops;
    near = subst (λ (g : Tag). g.time ≤ 1000000000000000000) (sym low) (fit.each (length rows - 1) x last).recorded.0;
    before = under;
    least = λ g b. subst (λ (h : Tag). UpTo h g) (sym low) (after_least x.tag g (b (length t + (length rows - 1)) x final));
    fit = λ i y e. each i y (get_append_cases t rows i y e);
    unbroken = subst (λ (g : Tag). IsUnbroken plan (t ++ rows) g) (sym low) clean;
    ways = subst (λ (w : CarriedWrites). AreWaysOfWrites plan.program w) (sym ways) is.ways;
    kept = subst (λ (k : List Row). IsKept (stop plan (t ++ rows)) plan (t ++ rows) (t ++ rows) k new.low) (sym kept) (kept_both (stop plan (t ++ rows)) plan (t ++ rows) t old.kept.items rows more new.low (kept_later (stop plan (t ++ rows)) plan (t ++ rows) t old.kept.items old.low new.low (is.least new.low (λ i y e. under i y (get_left t rows i y e))) (kept_more plan t rows t old.kept.items old.low late is.kept)) keeps);
  }
    where
      under : AreBefore (t ++ rows) new.low
      under = subst (λ (g : Tag). AreBefore (t ++ rows) g) (sym low) before

      -- the tag behind a row at hand is behind all rows before
      late : AreLate rows old.low
      late i y e = time_up old.low (after y.tag 0) (is.least (after y.tag 0) (λ j z at. UpTo-Before z.tag y.tag (after y.tag 0) (rises j (length t + i) z y (let l : j < length t = slice_get_within t j z at in omega (arith, l)) (get_left t rows j z at) (get_right t rows i ∙ e)) (after_past y.tag 0)))

      each : (i : ℕ) (y : Row) → (slice_get t i ≡ Some y) ⊎ ((j : ℕ) × (i ≡ length t + j) × (slice_get rows j ≡ Some y)) → RowFits plan.program y
      each i y (inl e) = is.fit i y e
      each i y (inr e) = fit.each e.0 y e.2

-- rows are kept that are enough of those that were kept
pub past_less : (plan : PlanParts) (t : List Row) (old new : Past) → IsPastOfRows plan t old → IsKept (stop plan t) plan t old.kept.items new.kept.items old.low → new.low ≡ old.low → new.stop ≡ old.stop → new.ways ≡ old.ways → IsPastOfRows plan t new
past_less plan t old new is keeps low stops ways = record {
  stop_is = stops ∙ is.stop_is;
  near = subst (λ (g : Tag). g.time ≤ 1000000000000000000) (sym low) is.near;
  before = subst (λ (g : Tag). AreBefore t g) (sym low) is.before;
  least = λ g b. subst (λ (h : Tag). UpTo h g) (sym low) (is.least g b);
  fit = is.fit;
  unbroken = subst (λ (g : Tag). IsUnbroken plan t g) (sym low) is.unbroken;
  ways = subst (λ (w : CarriedWrites). AreWaysOfWrites plan.program w) (sym ways) is.ways;
  kept = subst (λ (g : Tag). IsKept (stop plan t) plan t t new.kept.items g) (sym low) (kept_through (stop plan t) plan t t old.kept.items new.kept.items old.low is.kept keeps);
}

-- before the first row
pub past_begins : (plan : PlanParts) (p : Past) → p.stop ≡ stop plan [] → p.low ≡ record { time = 0; micro = 0 } → p.kept.items ≡ [] → AreWaysOfWrites plan.program p.ways → IsPastOfRows plan [] p
past_begins plan p stops low none ways = record {
  stop_is = stops;
  near = let e : p.low.time ≡ 0 = ap (λ (g : Tag). g.time) low in omega arith;
  before = λ i x e. absurd (cc);
  least = λ g b. subst (λ (h : Tag). UpTo h g) (sym low) (from_first g);
  fit = λ i x e. absurd (cc);
  unbroken = subst (λ (g : Tag). IsUnbroken plan [] g) (sym low) clean;
  ways = ways;
  kept = subst (λ (k : List Row). IsKept (stop plan []) plan [] [] k p.low) (sym none) (kept_self (stop plan []) plan [] [] p.low);
}
  where
    clean : IsUnbroken plan [] (record { time = 0; micro = 0 })
    clean b (inl s) = let e = s.0.is_row in absurd (cc)
    clean b (inr s) = let l : Before b.tag (record { time = 0; micro = 0 }) = s.1 in absurd (omega arith)

-- no row before a place is before a tag
abbrev pub AreFromTo : List Row → Tag → ℕ → Type 0
AreFromTo rows low place = (i : ℕ) (x : Row) → i < place → slice_get rows i ≡ Some x → UpTo low x.tag

pub from_more : (rows : List Row) (low : Tag) (place : ℕ) (row : Row) → slice_get rows place ≡ Some row → ¬ Before row.tag low → AreFromTo rows low place → AreFromTo rows low (place + 1)
from_more rows low place row at late from i x l e = go (dec_lt i place)
  where
    up : Before row.tag low ⊎ UpTo low row.tag → UpTo low row.tag
    up (inl b) = absurd (late b)
    up (inr u) = u

    go : Dec (i < place) → UpTo low x.tag
    go (yes m) = from i x m e
    go (no m) = subst (λ (r : Row). UpTo low r.tag) (same_at rows place i row x at e (omega arith)) (up (order_cases row.tag low))

-- rows that are kept and more behind them fit
pub all_fit : (plan : PlanParts) (t rows all : List Row) (p : Past) → IsPastOfRows plan t p → RowsFit plan.program rows → all ≡ p.kept.items ++ rows → length all ≤ 4000000 → RowsFit plan.program all
all_fit plan t rows all p is fit parts few = record { few = few; each = λ i x e. go i x (get_append_cases p.kept.items rows i x (subst (λ (u : List Row). slice_get u i ≡ Some x) parts e)) }
  where
    go : (i : ℕ) (x : Row) → (slice_get p.kept.items i ≡ Some x) ⊎ ((j : ℕ) × (i ≡ length p.kept.items + j) × (slice_get rows j ≡ Some x)) → RowFits plan.program x
    go i x (inl e) = kept_fit (stop plan t) plan t p.kept.items p.low is.kept is.fit i x e
    go i x (inr e) = fit.each e.0 x e.2
