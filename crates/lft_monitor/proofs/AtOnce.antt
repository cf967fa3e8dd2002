-- Rows at hand that are gone over at once.
use Rattle.std.proofs.Common.{◌≡◌, ℕ, ◌+◌, ◌-◌, ◌<◌, List, ◌++◌, length, take, drop, sym, ap, ◌∙◌, subst, arith, Some, None, slice_get}
use Rattle.std.specs.List.{range_with_len}
use Rattle.std.proofs.{Math.Seq.take-length, lemmas.List.{take-append-drop, length-take-le, FromFn.{length-range_with_len, get_or-range_with_len}}}
use native.Mathlib.Decide.{dec_lt}
use Rattle.lft_tag.{specs.{declared.Tag.Tag, Tags.Before}, proofs.Order.{Before-irrefl, UpTo-refl}}
use Rattle.lft_ir.specs.declared.steps.row.Row.{Row}
use Rattle.lft_model.{specs.{Plans.PlanParts, Presence.stop}, proofs.Places.slice_get_within}
use Rattle.lft_rows.{specs.{declared.pass.Pass.Pass, inner.{Passes.{FirstUnended, HasPassed}, Slices.Rises}}, proofs.{Growing.grown_law, Rereads.rises_to}}
use Rattle.lft_monitor.specs.{declared.gone.Going.Going, inner.{Follows.BeginsLast, Going.{AreEnded, AreFewOpenRuns, IsGoing}}}

-- rows that a pass has gone over rise
pub passed_rise : (last : Tag) (plan : PlanParts) (t : List Row) (pass : Pass) → HasPassed last plan t (length t) pass → Rises t
passed_rise last plan t pass is j k x y l p q = (rises_to last plan t (length t) pass.known.last pass.known.last is.kept is.known.latest (UpTo-refl pass.known.last)).rows j k x y l (slice_get_within t k y q) p q

-- of so many rows no more runs are open
open_few : (t : List Row) → AreFewOpenRuns t (length t)
open_few t = (places, let l : length places ≡ length t = length-range_with_len 0 (length t) in omega arith, λ i x e o. (i, let l : length places ≡ length t = length-range_with_len 0 (length t) in let m : i < length t = slice_get_within t i x e in omega arith, let z : 0 + i ≡ i = omega arith in get_or-range_with_len 0 (length t) i i (slice_get_within t i x e) ∙ z))
  where
    places : List ℕ
    places = range_with_len 0 (length t)

module _ (plan : PlanParts) (done rows : List Row) (g : Going) (is : IsGoing plan done rows g) where
  -- what is gone over is so of all rows at hand
  pub passed_so_far : HasPassed g.stop plan rows g.passed g.pass
  passed_so_far = subst (λ (t : List Row). HasPassed g.stop plan t g.passed g.pass) (take-append-drop g.passed rows) (grown_law plan g.stop (take g.passed rows) (drop g.passed rows) g.passed g.pass (let a = length-take-le g.passed rows is.within in omega arith) is.passes)

  -- all are gone over, where no run is open that began before the last tag
  pub gone_at_once : (new : Going) (begin : ℕ) → BeginsLast rows (length rows) begin → FirstUnended rows begin None → HasPassed g.stop plan rows (length rows) new.pass → stop plan (done ++ rows) ≡ stop plan (done ++ take g.passed rows) → new.stop ≡ g.stop → new.passed ≡ length rows → new.runs ≡ length rows → IsGoing plan done rows new
  gone_at_once new begin begins none passes stays same all many = record {
    within = let e : new.passed ≡ length rows = all in omega arith;
    stop_is = same ∙ is.stop_is ∙ sym stays ∙ ap (λ (t : List Row). stop plan (done ++ t)) (sym whole);
    passes = subst (λ (last : Tag). HasPassed last plan (take new.passed rows) new.passed new.pass) (sym same) (subst (λ (t : List Row). HasPassed g.stop plan t new.passed new.pass) (sym whole) (subst (λ (n : ℕ). HasPassed g.stop plan rows n new.pass) (sym all) passes));
    ended = λ z e. subst (λ (t : List Row). AreEnded t z.tag) (sym whole) (ended z (subst (λ (n : ℕ). slice_get rows (n - 1) ≡ Some z) all e));
    few = let a : new.passed ≡ length rows = all in let b : new.runs ≡ length rows = many in omega arith;
    runs = subst (λ (t : List Row). AreFewOpenRuns t new.runs) (sym whole) (subst (λ (n : ℕ). AreFewOpenRuns rows n) (sym many) (open_few rows));
  }
    where
      whole : take new.passed rows ≡ rows
      whole = ap (λ (n : ℕ). take n rows) all ∙ take-length rows

      ended : (z : Row) → slice_get rows (length rows - 1) ≡ Some z → AreEnded rows z.tag
      ended z last i x e before o = go (dec_lt i begin)
        where
          go : Dec (i < begin) → ⊥
          go (yes l) = none i x l e o
          go (no m) = Before-irrefl z.tag (subst (λ (k : Tag). Before k z.tag) (begins.last.at_one i x z (omega arith) (slice_get_within rows i x e) e last) before)
