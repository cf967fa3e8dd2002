-- A run that is committed: its step rows and its end row keep a recording so far.
use Rattle.std.proofs.Common.{◌≡◌, ℕ, zero, suc, ◌+◌, ◌<◌, ◌≤◌, ◌⊎◌, inl, inr, List, [], ◌∷◌, ◌++◌, length, take, map, refl, sym, ap, ◌∙◌, subst, arith, Option, Some, None, slice_get, filter_map}
use Rattle.std.{specs.List.last_or, proofs.lemmas.List.Elements.filter_map-append}
use native.Mathlib.Decide.{ℕ_discrete, dec_lt}
use Rattle.lft_tag.{specs.{declared.Tag.Tag, Tags.{Before, UpTo, after}}, proofs.Order.{UpTo-not, UpTo-trans, UpTo-Before, Before-weaken, after_past}}
use Rattle.lft_lists.proofs.{Members.{Mem, mem_get, mem_cases, mem_from_map, mem_from_filter, none_nil, last-append_nil}, Places.{get_left, get_append_cases}}
use Rattle.lft_ir.specs.declared.{parts.{Value.Value, Name.Name}, steps.row.{Row.Row, Step.{Step, TheVariants.{Start, Read, Write, Schedule, Stop, End}}}}
use Rattle.lft_model.specs.{Plans.{PlanParts, IsSoundPlan}, Presence.{Inputs, requests, stop}}
use Rattle.lft_model.specs.Runs.{Run, start_row, end_row, value_read, read_of, step_of, steps_of, inputs_of, reads_at, run_at, ended_by, by_ends}
use Rattle.lft_model.specs.{Breaches.{IsOpen, IsOutOfOrder, IsUndeclared}, inner.Breaches.BreaksRow, OneWorker.{Ready, Next, Path, NoClash, rows}}
use Rattle.lft_model.specs.Recorded.{SoFar, MayAnswer, run_row, committed_rows}
use Rattle.lft_model.proofs.{Places.slice_get_within, Stops.{asker, stop_added}, Legality.{KeepsFour, in_time, opened, one_starter}, Steps.step_row}
use Rattle.lft_model.proofs.{Ended.{all_ended, stop_down}, Law.EndRow, Answered.answers_well, Recording.{rows_up_to, open_ready_now, none_after_end}}
use Rattle.lft_model.proofs.Added.{keeps_added, by_ends_added, so_far_added, path_added, AddedRow, added_row, added_in_time}

-- the open run of r at g by worker w, with steps that r may make
module _ (plan : PlanParts) (good : IsSoundPlan plan) (t : List Row) (so_far : SoFar plan t) (w : ℕ) (g : Tag) (r : ℕ) (open_run : IsOpen t (length t) w g r) (steps : List Step) (may : (s : Step) → Mem s steps → MayAnswer plan r s) where
  -- the rows that are added
  abbrev new_rows : List Row
  new_rows = committed_rows w g r steps

  -- an answered step before the last, or the end at the last
  abbrev AnswerOrEnd : ℕ → Step → Type 0
  AnswerOrEnd j s = ((s ≡ End) × (j ≡ length steps)) ⊎ (MayAnswer plan r s × (j < length steps))

  -- each step of the new rows is one of these
  answer_or_end : (j : ℕ) (s : Step) → slice_get (steps ++ End ∷ []) j ≡ Some s → AnswerOrEnd j s
  answer_or_end j s e = go (get_append_cases steps (End ∷ []) j s e)
    where
      last : (i : ℕ) → j ≡ length steps + i → slice_get (End ∷ []) i ≡ Some s → AnswerOrEnd j s
      last zero q f = inl ((let z : End ≡ s = cc in sym z), omega arith)
      last (suc i) q f = absurd (cc)

      go : (slice_get steps j ≡ Some s) ⊎ ((i : ℕ) × (j ≡ length steps + i) × (slice_get (End ∷ []) i ≡ Some s)) → AnswerOrEnd j s
      go (inl q) = inr (may s (mem_get steps j s q), slice_get_within steps j s q)
      go (inr q) = last q.0 q.1 q.2

  -- and one that isn't the end is an answer
  answer_of : (j : ℕ) (s : Step) → ¬ (s ≡ End) → AnswerOrEnd j s → MayAnswer plan r s
  answer_of j s n (inl z) = absurd (n z.0)
  answer_of j s n (inr z) = z.0

  -- the run has not ended yet
  pub not_ended : ¬ EndRow t (length t) g r
  not_ended o = go (dec_lt open_run.start o.place)
    where
      go : Dec (open_run.start < o.place) → ⊥
      go (no n) = none_after_end plan t so_far.rows_well o.place o.worker g r o.ends open_run.start (start_row w g r) (before_start n (ℕ_discrete open_run.start o.place)) open_run.starts refl refl
        where
          before_start : ¬ (open_run.start < o.place) → Dec (open_run.start ≡ o.place) → o.place < open_run.start
          before_start n (yes e) = let z : Some (start_row w g r) ≡ Some (end_row o.worker g r) = sym open_run.starts ∙ ap (λ k. slice_get t k) e ∙ o.ends in let y : start_row w g r ≡ end_row o.worker g r = cc in let s : Start ≡ End = ap (λ (x : Row). x.step) y in absurd (cc)
          before_start n (no m) = omega arith
      go (yes b) =
          let u = opened plan t so_far.rows_well o.place (end_row o.worker g r) o.ends tt in
          let v : w ≡ o.worker = one_starter plan t so_far.rows_well open_run.start u.start w o.worker g r open_run.starts u.starts in
          open_run.not_ended o.place b o.before (o.ends ∙ ap (λ (d : ℕ). Some (end_row d g r)) (sym v))

  -- so it is ready now, and its reads are its inputs
  pub now : Ready plan (by_ends plan t) g r × Inputs plan (rows plan (by_ends plan t)) g r (reads_at plan t g r)
  now = open_ready_now plan good t so_far open_run.start w g r open_run.starts not_ended

  -- no row is after it
  pub up_to : (i : ℕ) (x : Row) → slice_get t i ≡ Some x → UpTo x.tag g
  up_to i x e = rows_up_to plan good t so_far g r now.0.pending i x e

  -- the new rows are at its tag
  new_tag : (x : Row) → Mem x new_rows → x.tag ≡ g
  new_tag x m = let p = mem_from_map (run_row w g r) (steps ++ End ∷ []) x m in ap (λ (y : Row). y.tag) (sym p.2)

  -- the new stop is the old one, or after all rows
  pub new_stop : (stop plan (t ++ committed_rows w g r steps) ≡ stop plan t) ⊎ Before g (stop plan (t ++ committed_rows w g r steps))
  new_stop = go (stop_added plan t new_rows)
    where
      go : (stop plan (t ++ new_rows) ≡ stop plan t) ⊎ Mem (stop plan (t ++ new_rows)) (requests new_rows) → (stop plan (t ++ new_rows) ≡ stop plan t) ⊎ Before g (stop plan (t ++ new_rows))
      go (inl e) = inl e
      go (inr m) = let a = asker new_rows (stop plan (t ++ new_rows)) m in inr (subst (λ (k : Tag). Before g k) (ap (λ (h : Tag). after h 0) (sym (new_tag a.0 a.1)) ∙ a.3) (after_past g 0))

  -- so no old row is after the new stop
  old_in_time : (i : ℕ) (x : Row) → slice_get t i ≡ Some x → UpTo x.tag (stop plan (t ++ new_rows))
  old_in_time i x e = go new_stop
    where
      go : (stop plan (t ++ new_rows) ≡ stop plan t) ⊎ Before g (stop plan (t ++ new_rows)) → UpTo x.tag (stop plan (t ++ new_rows))
      go (inl q) = subst (λ (k : Tag). UpTo x.tag k) (sym q) (in_time plan t so_far.rows_well i x e)
      go (inr b) = Before-weaken x.tag (stop plan (t ++ new_rows)) (UpTo-Before x.tag g (stop plan (t ++ new_rows)) (up_to i x e) b)

  -- nor is the run
  pub its_time : UpTo g (stop plan (t ++ new_rows))
  its_time = old_in_time open_run.start (start_row w g r) open_run.starts

  -- the run is open at each of its new rows
  open_there : (j : ℕ) → j ≤ length steps → IsOpen (t ++ new_rows) (length t + j) w g r
  open_there j b = record { start = open_run.start; before = (let a : open_run.start < length t = open_run.before in omega arith); starts = get_left t new_rows open_run.start (start_row w g r) open_run.starts; not_ended = none }
    where
      none : (k : ℕ) → open_run.start < k → k < length t + j → ¬ (slice_get (t ++ new_rows) k ≡ Some (end_row w g r))
      none k a c e = go (get_append_cases t new_rows k (end_row w g r) e)
        where
          go : (slice_get t k ≡ Some (end_row w g r)) ⊎ ((i : ℕ) × (k ≡ length t + i) × (slice_get new_rows i ≡ Some (end_row w g r))) → ⊥
          go (inl q) = open_run.not_ended k a (slice_get_within t k (end_row w g r) q) q
          go (inr q) = by (answer_or_end q.0 End (added_row w g r (steps ++ End ∷ []) q.0 (end_row w g r) q.2).is_step)
            where
              by : AnswerOrEnd q.0 End → ⊥
              by (inl z) = let y : q.0 ≡ length steps = z.1 in let x : k ≡ length t + q.0 = q.1 in omega arith
              by (inr z) = z.0

  -- the rules 1 to 4 at the new rows
  keeps_new : (j : ℕ) (x : Row) (k : ℕ) → slice_get new_rows j ≡ Some x → k < 5 → ¬ BreaksRow plan (t ++ new_rows) (length t + j) x k
  keeps_new j x k e l b = go b
    where
      n : AddedRow w g r (steps ++ End ∷ []) j x
      n = added_row w g r (steps ++ End ∷ []) j x e

      its_kind : (s : Step) → x.step ≡ s → AnswerOrEnd j s
      its_kind s q = answer_or_end j s (n.is_step ∙ ap Some q)

      within : AnswerOrEnd j x.step → j ≤ length steps
      within (inl q) = let z : j ≡ length steps = q.1 in omega arith
      within (inr q) = let z : j < length steps = q.1 in omega arith

      its_open : IsOpen (t ++ new_rows) (length t + j) x.worker x.tag x.reaction
      its_open = subst (λ (y : Row). IsOpen (t ++ new_rows) (length t + j) y.worker y.tag y.reaction) n.row_is (open_there j (within (its_kind x.step refl)))

      not_after : Before (stop plan (t ++ new_rows)) x.tag → ⊥
      not_after q = UpTo-not g (stop plan (t ++ new_rows)) its_time (subst (λ (h : Tag). Before (stop plan (t ++ new_rows)) h) (ap (λ (y : Row). y.tag) (sym n.row_is)) q)

      in_order : (s : Step) → x.step ≡ s → IsOutOfOrder (t ++ new_rows) (length t + j) x s → ⊥
      in_order Start s q = answer_of j Start (λ z. cc) (its_kind Start s)
      in_order (Read a d) s q = q its_open
      in_order (Write a d) s q = q its_open
      in_order (Schedule a d c) s q = q its_open
      in_order Stop s q = q its_open
      in_order End s q = q its_open

      its_answer : (s : Step) → x.step ≡ s → ¬ (s ≡ End) → MayAnswer plan x.reaction s
      its_answer s q d = subst (λ (c : ℕ). MayAnswer plan c s) (ap (λ (y : Row). y.reaction) n.row_is) (answer_of j s d (its_kind s q))

      declared : (s : Step) → x.step ≡ s → IsUndeclared plan.program (t ++ new_rows) (length t + j) x s → ⊥
      declared Start s q = q
      declared Stop s q = q
      declared End s q = q
      declared (Write a d) s q = q (its_answer (Write a d) s (λ z. cc))
      declared (Schedule a d c) s q = q (its_answer (Schedule a d c) s (λ z. cc))
      declared (Read a d) s q = its_answer (Read a d) s (λ z. cc)

      go : BreaksRow plan (t ++ new_rows) (length t + j) x k → ⊥
      go (inl q) = added_in_time plan good t so_far w g r r now.0.pending (steps ++ End ∷ []) j x e q.1
      go (inr (inl q)) = not_after q.1
      go (inr (inr (inl q))) = in_order x.step refl q.1
      go (inr (inr (inr (inl q)))) = declared x.step refl q.1
      go (inr (inr (inr (inr q)))) = let z : k ≡ 5 = q.0 in omega arith

  -- so the rules 1 to 4 hold of all rows
  pub committed_kept : KeepsFour plan (t ++ committed_rows w g r steps)
  committed_kept = keeps_added plan t new_rows so_far.rows_well old_in_time keeps_new

  -- one run more has ended
  pub committed_runs : by_ends plan (t ++ committed_rows w g r steps) ≡ by_ends plan t ++ run_at plan (t ++ committed_rows w g r steps) g r ∷ []
  committed_runs = by_ends_added plan t new_rows committed_kept ∙ ap (λ (us : List Run). by_ends plan t ++ us) (ends steps may)
    where
      ends : (ss : List Step) → ((s : Step) → Mem s ss → MayAnswer plan r s) → filter_map (λ (row : Row). ended_by plan (t ++ new_rows) row row.step) (map (run_row w g r) (ss ++ End ∷ [])) ≡ run_at plan (t ++ new_rows) g r ∷ []
      ends [] m = refl
      ends (Start ∷ ss) m = absurd (m Start (inl refl))
      ends (Read a d ∷ ss) m = absurd (m (Read a d) (inl refl))
      ends (Write a d ∷ ss) m = ends ss (λ s q. m s (inr q))
      ends (Schedule a d c ∷ ss) m = ends ss (λ s q. m s (inr q))
      ends (Stop ∷ ss) m = ends ss (λ s q. m s (inr q))
      ends (End ∷ ss) m = absurd (m End (inl refl))

  -- no step of the new rows reads
  no_read : (n : Name) (s : Step) → Mem s (steps ++ End ∷ []) → value_read n s ≡ None
  no_read n s q = by s (mem_cases s steps (End ∷ []) q)
    where
      by : (s : Step) → Mem s steps ⊎ Mem s (End ∷ []) → value_read n s ≡ None
      by Start z = refl
      by (Write a d) z = refl
      by (Schedule a d k) z = refl
      by Stop z = refl
      by End z = refl
      by (Read a d) (inl z) = absurd (may (Read a d) z)
      by (Read a d) (inr (inl z)) = absurd (cc)
      by (Read a d) (inr (inr z)) = absurd z

  -- so all reads are as they were
  pub same_reads : (h : Tag) (c : ℕ) → reads_at plan (t ++ committed_rows w g r steps) h c ≡ reads_at plan t h c
  same_reads h c = each (inputs_of plan.program c)
    where
      none : (n : Name) (j : ℕ) (s : Step) → slice_get (filter_map (step_of h c) new_rows) j ≡ Some s → value_read n s ≡ None
      none n j s e =
          let q = mem_from_filter (step_of h c) new_rows s (mem_get (filter_map (step_of h c) new_rows) j s e) in
          let p = mem_from_map (run_row w g r) (steps ++ End ∷ []) q.0 q.1 in
          let y : p.0 ≡ s = ap (λ (x : Row). x.step) p.2 ∙ (step_row t h c q.0 s q.2).2 in
          subst (λ (u : Step). value_read n u ≡ None) y (no_read n p.0 p.1)

      one : (n : Name) → read_of (steps_of (t ++ new_rows) h c) n ≡ read_of (steps_of t h c) n
      one n =
          let its = filter_map (step_of h c) new_rows in
          let a : steps_of (t ++ new_rows) h c ≡ steps_of t h c ++ its = filter_map-append (step_of h c) t new_rows in
          let b : filter_map (value_read n) (steps_of t h c ++ its) ≡ filter_map (value_read n) (steps_of t h c) ++ filter_map (value_read n) its = filter_map-append (value_read n) (steps_of t h c) its in
          ap (λ (ss : List Step). last_or None (filter_map (value_read n) ss)) a ∙ ap (λ (vs : List Value). last_or None vs) b ∙ last-append_nil None (filter_map (value_read n) (steps_of t h c)) (filter_map (value_read n) its) (none_nil (value_read n) its (none n))

      each : (ns : List Name) → map (read_of (steps_of (t ++ new_rows) h c)) ns ≡ map (read_of (steps_of t h c)) ns
      each [] = refl
      each (n ∷ ns) = ap (λ (o : Option Value). o ∷ map (read_of (steps_of (t ++ new_rows) h c)) ns) (one n) ∙ ap (λ (os : List (Option Value)). read_of (steps_of t h c) n ∷ os) (each ns)

  -- a run that is committed without a collision keeps a recording so far
  pub committed_so_far : NoClash plan (by_ends plan t ++ run_at plan (t ++ committed_rows w g r steps) g r ∷ []) → SoFar plan (t ++ committed_rows w g r steps)
  committed_so_far no_clash = so_far_added plan t new_rows committed_kept so_far (subst (λ (l : List Run). Path plan l) (sym committed_runs) (path_added plan (by_ends plan t) (run_at plan (t ++ new_rows) g r) so_far.path next)) (subst (λ (l : List Run). NoClash plan l) (sym committed_runs) no_clash) (λ i v h c e. same_reads h c) none_started
    where
      its_end : UpTo g (stop plan (rows plan (by_ends plan t ++ run_at plan (t ++ new_rows) g r ∷ [])))
      its_end = UpTo-trans g (stop plan (t ++ new_rows)) (stop plan (rows plan (by_ends plan t ++ run_at plan (t ++ new_rows) g r ∷ []))) its_time (subst (λ (l : List Run). UpTo (stop plan (t ++ new_rows)) (stop plan (rows plan l))) (sym (all_ended plan (t ++ new_rows)) ∙ committed_runs) (stop_down plan (t ++ new_rows) (length (t ++ new_rows))))

      next : Next plan (by_ends plan t) (run_at plan (t ++ new_rows) g r)
      next = record { ready = now.0; reads = subst (λ (os : List (Option Value)). Inputs plan (rows plan (by_ends plan t)) g r os) (sym (same_reads g r)) now.1; answers = answers_well plan (t ++ new_rows) committed_kept g r; no_clash = no_clash g its_end }

      none_started : (j v : ℕ) (h : Tag) (c : ℕ) → slice_get new_rows j ≡ Some (start_row v h c) → Ready plan (by_ends plan (take (length t + j) (t ++ new_rows))) h c × Inputs plan (rows plan (by_ends plan (take (length t + j) (t ++ new_rows)))) h c (reads_at plan (t ++ new_rows) h c)
      none_started j v h c e = absurd (answer_of j Start (λ z. cc) (answer_or_end j Start (added_row w g r (steps ++ End ∷ []) j (start_row v h c) e).is_step))
