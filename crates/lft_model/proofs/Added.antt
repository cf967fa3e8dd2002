-- A recording to which rows are added: what has to be shown of these rows alone.
use Rattle.std.proofs.Common.{◌≡◌, ℕ, zero, suc, ◌+◌, ◌<◌, ◌⊎◌, inl, inr, List, [], ◌∷◌, ◌++◌, length, take, map, sym, ap, ◌∙◌, subst, arith, Option, Some, slice_get, filter_map}
use Rattle.std.proofs.{Math.Seq.take-append_seam, lemmas.List.{take-append-le, Elements.filter_map-append}}
use Rattle.lft_tag.{specs.{declared.Tag.Tag, Tags.{Before, UpTo}}, proofs.Order.{UpTo-not, Before-irrefl}}
use Rattle.lft_lists.proofs.{Places.{get_left, get_append_cases}, Mapped.mapped_from}
use Rattle.lft_ir.specs.declared.{parts.Value.Value, steps.row.{Row.Row, Step.{Step, TheVariants.{Start, Read, Write, Schedule, Stop, End}}}}
use Rattle.lft_model.specs.{Plans.{PlanParts, IsSoundPlan}, Presence.{Inputs, stop}, Runs.{Run, start_row, end_row, reads_at, ended_by, by_ends}}
use Rattle.lft_model.specs.{Breaches.{IsOpen, IsLate, IsOutOfOrder, IsUndeclared}, inner.Breaches.BreaksRow}
use Rattle.lft_model.specs.{OneWorker.{IsPending, Ready, Next, Path, NoClash, rows}, Recorded.{SoFar, run_row}}
use Rattle.lft_model.proofs.{Places.{slice_get_within, slice_get_taken}, Legality.{KeepsFour, keeps_four}, Ended.ended_before}
use Rattle.lft_model.proofs.Recording.{by_ends_taken, rows_up_to}

-- a path and one more next run
pub path_added : (plan : PlanParts) (l : List Run) (u : Run) → Path plan l → Next plan l u → Path plan (l ++ u ∷ [])
path_added plan l u path next k v e = go (get_append_cases l (u ∷ []) k v e)
  where
    last : (j : ℕ) → k ≡ length l + j → slice_get (u ∷ []) j ≡ Some v → Next plan (take k (l ++ u ∷ [])) v
    last zero q f =
        let same : u ≡ v = cc in
        let place : k ≡ length l = omega arith in
        let front : take k (l ++ u ∷ []) ≡ l = ap (λ (i : ℕ). take i (l ++ u ∷ [])) place ∙ take-append_seam l (u ∷ []) in
        subst (λ (xs : List Run). Next plan xs v) (sym front) (subst (λ (x : Run). Next plan l x) same next)
    last (suc j) q f = absurd (cc)

    go : (slice_get l k ≡ Some v) ⊎ ((j : ℕ) × (k ≡ length l + j) × (slice_get (u ∷ []) j ≡ Some v)) → Next plan (take k (l ++ u ∷ [])) v
    go (inl q) = let b : k < length l = slice_get_within l k v q in subst (λ (xs : List Run). Next plan xs v) (sym (take-append-le k l (u ∷ []) (omega arith))) (path k v q)
    go (inr r) = last r.0 r.1 r.2

module _ (plan : PlanParts) (t more : List Row) where
  -- the rows with those that are added
  abbrev grown : List Row
  grown = t ++ more

  -- a row at an old place is an old one
  old_row : (i : ℕ) (x : Row) → i < length t → slice_get grown i ≡ Some x → slice_get t i ≡ Some x
  old_row i x l e = ap (λ (rs : List Row). slice_get rs i) (sym (take-append_seam t more)) ∙ slice_get_taken (length t) (t ++ more) i x l e

  -- a run that is open at an old place was open there
  open_back : (i w : ℕ) (g : Tag) (r : ℕ) → i < length t → IsOpen grown i w g r → IsOpen t i w g r
  open_back i w g r l o =
      let b : o.start < i = o.before in
      record { start = o.start; before = o.before; starts = old_row o.start (start_row w g r) (omega arith) o.starts; not_ended = λ k a c e. o.not_ended k a c (get_left t more k (end_row w g r) e) }

  -- and one that was open there still is
  open_on : (i w : ℕ) (g : Tag) (r : ℕ) → i < length t → IsOpen t i w g r → IsOpen grown i w g r
  open_on i w g r l o = record { start = o.start; before = o.before; starts = get_left t more o.start (start_row w g r) o.starts; not_ended = λ k a c e. o.not_ended k a c (old_row k (end_row w g r) (let d : k < i = c in omega arith) e) }

  -- the rules 1 to 4 hold of all rows if they hold of the new rows, and no old row is after the stop
  pub keeps_added : KeepsFour plan t → ((i : ℕ) (x : Row) → slice_get t i ≡ Some x → UpTo x.tag (stop plan grown)) → ((j : ℕ) (x : Row) (k : ℕ) → slice_get more j ≡ Some x → k < 5 → ¬ BreaksRow plan grown (length t + j) x k) → KeepsFour plan grown
  keeps_added well in_time fresh b l o = by_part (get_append_cases t more o.place o.row o.is_row)
    where
      old : slice_get t o.place ≡ Some o.row → o.place < length t → BreaksRow plan (t ++ more) o.place o.row b.rule → ⊥
      old e d (inl q) = keeps_four plan t well o.place o.row b.rule l e (inl (q.0, (q.1.0, q.1.1, q.1.2, old_row q.1.0 q.1.1 (let z : q.1.0 < o.place = q.1.2 in omega arith) q.1.3, q.1.4)))
      old e d (inr (inl q)) = UpTo-not o.row.tag (stop plan (t ++ more)) (in_time o.place o.row e) q.1
      old e d (inr (inr (inl q))) = keeps_four plan t well o.place o.row b.rule l e (inr (inr (inl (q.0, order o.row.step q.1))))
        where
          still : IsOpen t o.place o.row.worker o.row.tag o.row.reaction → IsOpen (t ++ more) o.place o.row.worker o.row.tag o.row.reaction
          still y = open_on o.place o.row.worker o.row.tag o.row.reaction d y

          order : (s : Step) → IsOutOfOrder (t ++ more) o.place o.row s → IsOutOfOrder t o.place o.row s
          order Start (inl w) = inl (w.0, w.1, w.2, old_row w.0 (start_row w.1 o.row.tag o.row.reaction) (let z : w.0 < o.place = w.2 in omega arith) w.3)
          order Start (inr w) = inr (w.0, w.1, open_back o.place o.row.worker w.0 w.1 d w.2)
          order (Read n v) x = λ y. x (still y)
          order (Write n v) x = λ y. x (still y)
          order (Schedule n v k) x = λ y. x (still y)
          order Stop x = λ y. x (still y)
          order End x = λ y. x (still y)
      old e d (inr (inr (inr (inl q)))) = keeps_four plan t well o.place o.row b.rule l e (inr (inr (inr (inl (q.0, declared o.row.step q.1)))))
        where
          declared : (s : Step) → IsUndeclared plan.program (t ++ more) o.place o.row s → IsUndeclared plan.program t o.place o.row s
          declared Start x = x
          declared (Read n v) (inl x) = inl x
          declared (Read n v) (inr w) = inr (w.0, w.1, w.2, w.3, old_row w.0 (record { worker = w.1; tag = o.row.tag; reaction = o.row.reaction; step = Read n w.2 }) (let z : w.0 < o.place = w.3 in omega arith) w.4)
          declared (Write n v) x = x
          declared (Schedule n v k) x = x
          declared Stop x = x
          declared End x = x
      old e d (inr (inr (inr (inr q)))) = let z : b.rule ≡ 5 = q.0 in omega arith

      by_part : (slice_get t o.place ≡ Some o.row) ⊎ ((j : ℕ) × (o.place ≡ length t + j) × (slice_get more j ≡ Some o.row)) → ⊥
      by_part (inl e) = old e (slice_get_within t o.place o.row e) o.breaks
      by_part (inr r) = fresh r.0 o.row b.rule r.2 l (subst (λ (i : ℕ). BreaksRow plan (t ++ more) i o.row b.rule) r.1 o.breaks)

  module _ (kept : KeepsFour plan grown) where
    -- the ended runs are those from before, and those that the new rows end
    pub by_ends_added : by_ends plan grown ≡ by_ends plan t ++ filter_map (λ row. ended_by plan grown row row.step) more
    by_ends_added =
        let a : by_ends plan (take (length t) (t ++ more)) ≡ ended_before plan (t ++ more) (length t) = by_ends_taken plan (t ++ more) kept (length t) in
        let b : by_ends plan t ≡ filter_map (λ (row : Row). ended_by plan (t ++ more) row row.step) t = ap (λ (rs : List Row). by_ends plan rs) (sym (take-append_seam t more)) ∙ a ∙ ap (λ (rs : List Row). filter_map (λ (row : Row). ended_by plan (t ++ more) row row.step) rs) (take-append_seam t more) in
        filter_map-append (λ (row : Row). ended_by plan (t ++ more) row row.step) t more ∙ ap (λ (us : List Run). us ++ filter_map (λ (row : Row). ended_by plan (t ++ more) row row.step) more) (sym b)

    -- so a recording goes on if its ended runs do, each old start keeps its reads, and each new start was ready
    pub so_far_added : SoFar plan t → Path plan (by_ends plan grown) → NoClash plan (by_ends plan grown) → ((i w : ℕ) (g : Tag) (r : ℕ) → slice_get t i ≡ Some (start_row w g r) → reads_at plan grown g r ≡ reads_at plan t g r) → ((j w : ℕ) (g : Tag) (r : ℕ) → slice_get more j ≡ Some (start_row w g r) → Ready plan (by_ends plan (take (length t + j) grown)) g r × Inputs plan (rows plan (by_ends plan (take (length t + j) grown))) g r (reads_at plan grown g r)) → SoFar plan grown
    so_far_added so_far path no_clash same_reads fresh = record { rows_well = kept; path = path; no_clash = no_clash; started = started }
      where
        started : (i w : ℕ) (g : Tag) (r : ℕ) → slice_get (t ++ more) i ≡ Some (start_row w g r) → Ready plan (by_ends plan (take i (t ++ more))) g r × Inputs plan (rows plan (by_ends plan (take i (t ++ more)))) g r (reads_at plan (t ++ more) g r)
        started i w g r e = by_part (get_append_cases t more i (start_row w g r) e)
          where
            by_part : (slice_get t i ≡ Some (start_row w g r)) ⊎ ((j : ℕ) × (i ≡ length t + j) × (slice_get more j ≡ Some (start_row w g r))) → Ready plan (by_ends plan (take i (t ++ more))) g r × Inputs plan (rows plan (by_ends plan (take i (t ++ more)))) g r (reads_at plan (t ++ more) g r)
            by_part (inl q) =
                let l : i < length t = slice_get_within t i (start_row w g r) q in
                let s = so_far.started i w g r q in
                let z : take i (t ++ more) ≡ take i t = take-append-le i t more (omega arith) in
                let y : reads_at plan (t ++ more) g r ≡ reads_at plan t g r = same_reads i w g r q in
                subst (λ (rs : List Row). Ready plan (by_ends plan rs) g r × Inputs plan (rows plan (by_ends plan rs)) g r (reads_at plan (t ++ more) g r)) (sym z) (s.0, subst (λ (os : List (Option Value)). Inputs plan (rows plan (by_ends plan (take i t))) g r os) (sym y) s.1)
            by_part (inr q) =
                let s = fresh q.0 w g r q.2 in
                subst (λ (k : ℕ). Ready plan (by_ends plan (take k (t ++ more))) g r × Inputs plan (rows plan (by_ends plan (take k (t ++ more)))) g r (reads_at plan (t ++ more) g r)) (sym q.1) s

-- a row that is added for a step of a run
pub record AddedRow (w : ℕ) (g : Tag) (r : ℕ) (steps : List Step) (j : ℕ) (x : Row) : Type 0 where
  pub is_step : slice_get steps j ≡ Some x.step
  pub row_is : run_row w g r x.step ≡ x

-- each row that is added for some steps of a run is that of one of the steps
pub added_row : (w : ℕ) (g : Tag) (r : ℕ) (steps : List Step) (j : ℕ) (x : Row) → slice_get (map (run_row w g r) steps) j ≡ Some x → AddedRow w g r steps j x
added_row w g r steps j x e =
    let q = mapped_from (run_row w g r) steps j x e in
    let s : q.0 ≡ x.step = ap (λ (y : Row). y.step) q.2 in
    record { is_step = q.1 ∙ ap Some s; row_is = ap (λ (z : Step). run_row w g r z) (sym s) ∙ q.2 }

-- no row that is added at a tag at which a reaction is pending is late
pub added_in_time : (plan : PlanParts) (good : IsSoundPlan plan) (t : List Row) (so_far : SoFar plan t) (w : ℕ) (g : Tag) (r c : ℕ) → IsPending plan (by_ends plan t) g c → (steps : List Step) (j : ℕ) (x : Row) → slice_get (map (run_row w g r) steps) j ≡ Some x → ¬ IsLate (t ++ map (run_row w g r) steps) (length t + j) x
added_in_time plan good t so_far w g r c pending steps j x e late = by_part (get_append_cases t (map (run_row w g r) steps) late.0 late.1 late.3)
  where
    tag_is : (i : ℕ) (y : Row) → slice_get (map (run_row w g r) steps) i ≡ Some y → y.tag ≡ g
    tag_is i y f = ap (λ (z : Row). z.tag) (sym (added_row w g r steps i y f).row_is)

    after_it : Before g late.1.tag
    after_it = subst (λ (h : Tag). Before h late.1.tag) (tag_is j x e) late.4

    by_part : (slice_get t late.0 ≡ Some late.1) ⊎ ((i : ℕ) × (late.0 ≡ length t + i) × (slice_get (map (run_row w g r) steps) i ≡ Some late.1)) → ⊥
    by_part (inl f) = UpTo-not late.1.tag g (rows_up_to plan good t so_far g c pending late.0 late.1 f) after_it
    by_part (inr f) = Before-irrefl g (subst (λ (h : Tag). Before g h) (tag_is f.0 late.1 f.2) after_it)
