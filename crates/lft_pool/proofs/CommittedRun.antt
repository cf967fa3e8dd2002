-- What a book keeps when a run is committed.
use Rattle.std.proofs.Common.{◌≡◌, ℕ, ℤ, zero, suc, ◌+◌, ◌<◌, ◌≤◌, ◌⊎◌, inl, inr, List, [], ◌∷◌, ◌++◌, append-nil, length, length-append, take, map, refl, sym, ap, ◌∙◌, subst, arith, Option, Some, None, slice_get, filter_map, zip, cond, ◌==◌, unwrap_or, Bool, true, false, pos}
use Rattle.std.{specs.List.{last_or, cons_option}, proofs.{Math.Seq.take-append_seam, lemmas.List.{take-append-le, Elements.filter_map-append}}}
use Rattle.lft_tag.specs.{declared.Tag.Tag, Tags.{UpTo, IsRecorded}}
use Rattle.lft_lists.proofs.{Members.{Mem, mem_get, mem_cases, mem_from_map, none_nil, last-append_some}, Places.{get_append_cases, get_left}}
use Rattle.lft_lists.proofs.Mapped.{mapped_from}
use Rattle.lft_ir.specs.declared.{parts.Value.Value, steps.row.{Row.Row, Step.{Step, TheVariants.{Start, Read, Write, Schedule, Stop, End}}}}
use Rattle.lft_ir.specs.Steps.Fits.{RowsFit, RowFits, StepFits}
use Rattle.lft_model.specs.{Plans.{PlanParts, IsSoundPlan}, Presence.{stop, Collision}}
use Rattle.lft_model.specs.{Runs.{Run, start_row, end_row, step_of, steps_of, reads_at, run_at, by_ends}, Breaches.IsOpen}
use Rattle.lft_model.specs.OneWorker.{HasRun, NoClash, InOrderOfPrecedence}
use Rattle.lft_model.specs.Recorded.{Follows, IsAnswer, OnlyEndedAnswer, MayAnswer, run_row, committed_rows, answered, answered_steps, instance_of, word_left, word_after}
use Rattle.lft_model.proofs.{Places.slice_get_within, Legality.{IsOrdered, IsInner, Inside, KeepsFour, opened}, Steps.{step_row, row_step, RowOf, step_mem}}
use Rattle.lft_model.proofs.{Ended.all_ended, Grown.added_none, Law.{EndRow, end_of_run, collision_down}, Reached.all_stop, Recording.recorded_in_order}
use Rattle.lft_model.proofs.Committed.{committed_kept, committed_runs, same_reads, committed_so_far, not_ended}
use Rattle.lft_pool.{specs.{declared.bodies.done.Done.Done, Books.{law_of, IsRecording}}, proofs.BegunRun.{HandsOn, MeetsLaw}}
use Rattle.lft_scheduler.{specs.{Starts.{started_row, started_count}, inner.Agendas.MayEnd}, proofs.RunEnded.{quiet_more, ran_before}}

-- one item more on both sides of two lists of one length
zip_both : {X Y : Type 0} (xs : List X) (x : X) (ys : List Y) (y : Y) → length ys ≡ length xs → zip (xs ++ x ∷ []) (ys ++ y ∷ []) ≡ zip xs ys ++ (x, y) ∷ []
zip_both [] x [] y e = refl
zip_both [] x (z ∷ ys) y e = absurd (omega arith)
zip_both (z ∷ xs) x [] y e = absurd (omega arith)
zip_both (z ∷ xs) x (k ∷ ys) y e = ap (λ ps. (z, k) ∷ ps) (zip_both xs x ys y (omega arith))

module _ (holds : ℕ → Tag → ℤ → List (Option Value) → Done → Type 0) (plan : PlanParts) (good : IsSoundPlan plan) (t : List Row) (states : List (ℤ × ℤ)) (is : IsRecording holds plan t states) (w : ℕ) (g : Tag) (r : ℕ) (open_run : IsOpen t (length t) w g r) (steps : List Step) (may : (s : Step) → Mem s steps → MayAnswer plan r s) where
  kept : KeepsFour plan (t ++ committed_rows w g r steps)
  kept = committed_kept plan good t is.so_far w g r open_run steps may

  -- one run more has ended
  pub ended_more : by_ends plan (t ++ committed_rows w g r steps) ≡ by_ends plan t ++ run_at plan (t ++ committed_rows w g r steps) g r ∷ []
  ended_more = committed_runs plan good t is.so_far w g r open_run steps may

  -- each new row is of the run, and one of its steps or the end
  new_row : (j : ℕ) (x : Row) → slice_get (committed_rows w g r steps) j ≡ Some x → (x ≡ run_row w g r x.step) × (slice_get (steps ++ End ∷ []) j ≡ Some x.step)
  new_row j x e =
      let q = mapped_from (run_row w g r) (steps ++ End ∷ []) j x e in
      let z : q.0 ≡ x.step = ap (λ (y : Row). y.step) q.2 in
      (sym q.2 ∙ ap (λ (s : Step). run_row w g r s) z, q.1 ∙ ap Some z)

  ending : MayEnd plan t w g r steps
  ending = record { so_far = is.so_far; quiet = is.quiet; open_run = open_run; may = λ k s e. may s (mem_get steps k s e) }

  quiet : OnlyEndedAnswer (t ++ committed_rows w g r steps)
  quiet = quiet_more plan good t w g r steps ending

  in_order : IsOrdered plan (t ++ committed_rows w g r steps)
  in_order = record { well = kept; told = told; precedence = precedence }
    where
      inner : (s : Step) → IsAnswer s → IsInner s
      inner Start a = a
      inner (Read n v) a = tt
      inner (Write n v) a = tt
      inner (Schedule n v d) a = tt
      inner Stop a = tt
      inner End a = tt

      told : (i : ℕ) (x : Row) → slice_get (t ++ committed_rows w g r steps) i ≡ Some x → IsAnswer x.step → Inside (t ++ committed_rows w g r steps) i x.tag x.reaction
      told i x e a =
          let o = opened plan (t ++ committed_rows w g r steps) kept i x e (inner x.step a) in
          let q = quiet i x e a in
          record { start = o.start; end = q.0; worker = x.worker; starts = o.starts; ends = q.2; after_start = o.before; before_end = q.1 }

      precedence : InOrderOfPrecedence plan (t ++ committed_rows w g r steps)
      precedence h a c p first second =
          let b = recorded_in_order plan good t is.so_far h a c p (ran_before plan good t w g r steps ending h a first) (ran_before plan good t w g r steps ending h c second) in
          record { ended_at = b.ended_at; started_at = b.started_at; worker = b.worker; other = b.other; ends = get_left t (committed_rows w g r steps) b.ended_at (end_row b.worker h a) b.ends; starts = get_left t (committed_rows w g r steps) b.started_at (start_row b.other h c) b.starts; before = b.before }

  -- rows without a collision up to their stop make none by their ended runs
  no_clash : ((h : Tag) → UpTo h (stop plan (t ++ committed_rows w g r steps)) → ¬ Collision plan (t ++ committed_rows w g r steps) h) → NoClash plan (by_ends plan t ++ run_at plan (t ++ committed_rows w g r steps) g r ∷ [])
  no_clash clean = subst (λ (l : List Run). NoClash plan l) (sym (all_ended plan (t ++ committed_rows w g r steps)) ∙ ended_more) (λ h u c. clean h (subst (λ (k : Tag). UpTo h k) (all_stop plan good (t ++ committed_rows w g r steps) in_order) u) (collision_down plan good (t ++ committed_rows w g r steps) kept (length (t ++ committed_rows w g r steps)) h c))

  its_end : ¬ EndRow t (length t) g r
  its_end = not_ended plan good t is.so_far w g r open_run steps may

  -- the steps of the run: what it had, its answer, its end
  steps_now : steps_of (t ++ committed_rows w g r steps) g r ≡ steps_of t g r ++ (steps ++ End ∷ [])
  steps_now = filter_map-append (step_of g r) t (committed_rows w g r steps) ∙ ap (λ ss. steps_of t g r ++ ss) (all (steps ++ End ∷ []))
    where
      all : (ss : List Step) → filter_map (step_of g r) (map (run_row w g r) ss) ≡ ss
      all [] = refl
      all (s ∷ ss) = let q : step_of g r (run_row w g r s) ≡ Some s = row_step g r (run_row w g r s) refl refl in rw q (ap (λ zs. s ∷ zs) (all ss))

  -- the answered steps of the run are the answer
  answered_now : answered_steps (t ++ committed_rows w g r steps) g r ≡ steps
  answered_now = ap (λ (ss : List Step). filter_map answered ss) steps_now ∙ filter_map-append answered (steps_of t g r) (steps ++ End ∷ []) ∙ ap (λ (ss : List Step). ss ++ filter_map answered (steps ++ End ∷ [])) (none_nil answered (steps_of t g r) none) ∙ its steps may
    where
      its : (ss : List Step) → ((s : Step) → Mem s ss → MayAnswer plan r s) → filter_map answered (ss ++ End ∷ []) ≡ ss
      its [] m = refl
      its (Start ∷ ss) m = absurd (m Start (inl refl))
      its (Read a d ∷ ss) m = absurd (m (Read a d) (inl refl))
      its (Write a d ∷ ss) m = ap (λ zs. Write a d ∷ zs) (its ss (λ s q. m s (inr q)))
      its (Schedule a d c ∷ ss) m = ap (λ zs. Schedule a d c ∷ zs) (its ss (λ s q. m s (inr q)))
      its (Stop ∷ ss) m = ap (λ zs. Stop ∷ zs) (its ss (λ s q. m s (inr q)))
      its (End ∷ ss) m = absurd (m End (inl refl))

      by : (s : Step) → ¬ IsAnswer s → answered s ≡ None
      by Start n = refl
      by (Read a d) n = refl
      by (Write a d) n = absurd (n tt)
      by (Schedule a d c) n = absurd (n tt)
      by Stop n = absurd (n tt)
      by End n = refl

      none : (j : ℕ) (s : Step) → slice_get (steps_of t g r) j ≡ Some s → answered s ≡ None
      none j s e = by s silent
        where
          silent : ¬ IsAnswer s
          silent a =
              let o : RowOf t g r s = step_mem t g r s (mem_get (steps_of t g r) j s e) in
              let q = is.quiet o.place o.row o.is_row (subst (λ (z : Step). IsAnswer z) (sym o.step_is) a) in
              let f : slice_get t q.0 ≡ Some (end_row o.row.worker g r) = q.2 ∙ ap (λ (h : Tag). Some (end_row o.row.worker h o.row.reaction)) o.tag_is ∙ ap (λ (c : ℕ). Some (end_row o.row.worker g c)) o.reaction_is in
              its_end (record { place = q.0; worker = o.row.worker; before = slice_get_within t q.0 (end_row o.row.worker g r) f; ends = f })

  -- a run that had ended keeps its steps
  steps_kept : (h : Tag) (c : ℕ) → EndRow t (length t) h c → steps_of (t ++ committed_rows w g r steps) h c ≡ steps_of t h c
  steps_kept h c o = added_none (step_of h c) t (committed_rows w g r steps) none
    where
      none : (x : Row) → Mem x (committed_rows w g r steps) → step_of h c x ≡ None
      none x m = go (step_of h c x) refl
        where
          go : (z : Option Step) → step_of h c x ≡ z → step_of h c x ≡ None
          go None q = q
          go (Some s) q =
              let p = step_row t h c x s q in
              let f = mem_from_map (run_row w g r) (steps ++ End ∷ []) x m in
              let a : h ≡ g = sym p.0 ∙ ap (λ (y : Row). y.tag) (sym f.2) in
              let b : c ≡ r = sym p.1 ∙ ap (λ (y : Row). y.reaction) (sym f.2) in
              absurd (its_end (record { place = o.place; worker = o.worker; before = o.before; ends = o.ends ∙ ap (λ (k : Tag). Some (end_row o.worker k c)) a ∙ ap (λ (d : ℕ). Some (end_row o.worker g d)) b }))

  end_of : (k : ℕ) (u : Run) → slice_get (by_ends plan t) k ≡ Some u → EndRow t (length t) u.tag u.reaction
  end_of k u e = end_of_run plan t (length t) u.tag u.reaction (subst (λ (l : List Run). HasRun l u.tag u.reaction) (all_ended plan t) (record { place = k; run = u; is_run = e; same_tag = refl; same_reaction = refl }))

  -- each row is of the program
  pub committed_each : ((s : Step) → Mem s steps → StepFits plan.program s) → (i : ℕ) (x : Row) → slice_get (t ++ committed_rows w g r steps) i ≡ Some x → RowFits plan.program x
  committed_each fits i x e = go i x (get_append_cases t (committed_rows w g r steps) i x e)
    where
      its : RowFits plan.program (start_row w g r)
      its = is.fit.each open_run.start (start_row w g r) open_run.starts

      step : (s : Step) → Mem s steps ⊎ Mem s (End ∷ []) → StepFits plan.program s
      step s (inl m) = fits s m
      step s (inr (inl e)) = subst (λ (z : Step). StepFits plan.program z) e tt
      step s (inr (inr e)) = absurd e

      go : (i : ℕ) (x : Row) → (slice_get t i ≡ Some x) ⊎ ((j : ℕ) × (i ≡ length t + j) × (slice_get (committed_rows w g r steps) j ≡ Some x)) → RowFits plan.program x
      go i x (inl e) = is.fit.each i x e
      go i x (inr e) =
          let n = new_row e.0 x e.2 in
          record { recorded = subst (λ (y : Row). IsRecorded y.tag) (sym n.0) its.recorded; reaction = subst (λ (y : Row). y.reaction < length plan.program.reactions) (sym n.0) its.reaction; step = step x.step (mem_cases x.step steps (End ∷ []) (mem_get (steps ++ End ∷ []) e.0 x.step n.1)) }

  -- the words before and after, and the law
  module _ (before after : ℤ) (word_is : before ≡ word_after plan.program (instance_of plan.program r) (by_ends plan t) states) (lawful : holds r g before (reads_at plan t g r) (record { state = after; steps = steps })) where
    follows : Follows plan (law_of holds) (t ++ committed_rows w g r steps) (states ++ (before, after) ∷ [])
    follows = record {
      one_each = length-append states ((before, after) ∷ []) ∙ ap (λ (n : ℕ). n + 1) is.follows.one_each ∙ sym (length-append (by_ends plan t) (run_at plan (t ++ committed_rows w g r steps) g r ∷ [])) ∙ ap length (sym ended_more);
      handed_on = subst (λ (l : List Run). HandsOn plan (states ++ (before, after) ∷ []) l) (sym ended_more) hands;
      meets = subst (λ (l : List Run). MeetsLaw holds (t ++ committed_rows w g r steps) (states ++ (before, after) ∷ []) l) (sym ended_more) met;
    }
      where
        lengths : length states ≡ length (by_ends plan t)
        lengths = is.follows.one_each

        -- the pair of words of the k-th of the runs
        words_old : (k : ℕ) (words : ℤ × ℤ) → k < length (by_ends plan t) → slice_get (states ++ (before, after) ∷ []) k ≡ Some words → slice_get states k ≡ Some words
        words_old k words l e = go (get_append_cases states ((before, after) ∷ []) k words e)
          where
            go : (slice_get states k ≡ Some words) ⊎ ((j : ℕ) × (k ≡ length states + j) × (slice_get ((before, after) ∷ []) j ≡ Some words)) → slice_get states k ≡ Some words
            go (inl f) = f
            go (inr f) = let z : k ≡ length states + f.0 = f.1 in let y : length states ≡ length (by_ends plan t) = lengths in absurd (omega arith)

        words_new : (k : ℕ) (words : ℤ × ℤ) → k ≡ length (by_ends plan t) → slice_get (states ++ (before, after) ∷ []) k ≡ Some words → (before, after) ≡ words
        words_new k words q e = go (get_append_cases states ((before, after) ∷ []) k words e)
          where
            at : (j : ℕ) → slice_get ((before, after) ∷ []) j ≡ Some words → (before, after) ≡ words
            at zero f = cc
            at (suc j) f = absurd (cc)

            go : (slice_get states k ≡ Some words) ⊎ ((j : ℕ) × (k ≡ length states + j) × (slice_get ((before, after) ∷ []) j ≡ Some words)) → (before, after) ≡ words
            go (inl f) = let l : k < length states = slice_get_within states k words f in let y : length states ≡ length (by_ends plan t) = lengths in absurd (omega arith)
            go (inr f) = at f.0 f.2

        -- the runs: an old one, or the new one at their end
        old_or_new : (k : ℕ) (u : Run) → slice_get (by_ends plan t ++ run_at plan (t ++ committed_rows w g r steps) g r ∷ []) k ≡ Some u → (slice_get (by_ends plan t) k ≡ Some u) ⊎ ((k ≡ length (by_ends plan t)) × (run_at plan (t ++ committed_rows w g r steps) g r ≡ u))
        old_or_new k u e = go (get_append_cases (by_ends plan t) (run_at plan (t ++ committed_rows w g r steps) g r ∷ []) k u e)
          where
            at : (j : ℕ) → k ≡ length (by_ends plan t) + j → slice_get (run_at plan (t ++ committed_rows w g r steps) g r ∷ []) j ≡ Some u → (k ≡ length (by_ends plan t)) × (run_at plan (t ++ committed_rows w g r steps) g r ≡ u)
            at zero q f = (omega arith, cc)
            at (suc j) q f = absurd (cc)

            go : (slice_get (by_ends plan t) k ≡ Some u) ⊎ ((j : ℕ) × (k ≡ length (by_ends plan t) + j) × (slice_get (run_at plan (t ++ committed_rows w g r steps) g r ∷ []) j ≡ Some u)) → (slice_get (by_ends plan t) k ≡ Some u) ⊎ ((k ≡ length (by_ends plan t)) × (run_at plan (t ++ committed_rows w g r steps) g r ≡ u))
            go (inl f) = inl f
            go (inr f) = inr (at f.0 f.1 f.2)

        hands : HandsOn plan (states ++ (before, after) ∷ []) (by_ends plan t ++ run_at plan (t ++ committed_rows w g r steps) g r ∷ [])
        hands k u words e f = go (old_or_new k u e)
          where
            front : (k : ℕ) → k ≤ length (by_ends plan t) → (take k (by_ends plan t ++ run_at plan (t ++ committed_rows w g r steps) g r ∷ []) ≡ take k (by_ends plan t)) × (take k (states ++ (before, after) ∷ []) ≡ take k states)
            front k l = let y : length states ≡ length (by_ends plan t) = lengths in (take-append-le k (by_ends plan t) (run_at plan (t ++ committed_rows w g r steps) g r ∷ []) (omega arith), take-append-le k states ((before, after) ∷ []) (omega arith))

            old : slice_get (by_ends plan t) k ≡ Some u → words.0 ≡ word_after plan.program (instance_of plan.program u.reaction) (take k (by_ends plan t ++ run_at plan (t ++ committed_rows w g r steps) g r ∷ [])) (take k (states ++ (before, after) ∷ []))
            old q =
                let l : k < length (by_ends plan t) = slice_get_within (by_ends plan t) k u q in
                let z = front k (omega arith) in
                is.follows.handed_on k u words q (words_old k words l f) ∙ ap (λ (us : List Run). word_after plan.program (instance_of plan.program u.reaction) us (take k states)) (sym z.0) ∙ ap (λ (ss : List (ℤ × ℤ)). word_after plan.program (instance_of plan.program u.reaction) (take k (by_ends plan t ++ run_at plan (t ++ committed_rows w g r steps) g r ∷ [])) ss) (sym z.1)

            new : k ≡ length (by_ends plan t) → run_at plan (t ++ committed_rows w g r steps) g r ≡ u → words.0 ≡ word_after plan.program (instance_of plan.program u.reaction) (take k (by_ends plan t ++ run_at plan (t ++ committed_rows w g r steps) g r ∷ [])) (take k (states ++ (before, after) ∷ []))
            new q v =
                let a : before ≡ words.0 = ap (λ (x : ℤ × ℤ). x.0) (words_new k words q f) in
                let b : r ≡ u.reaction = ap (λ (x : Run). x.reaction) v in
                let us : take k (by_ends plan t ++ run_at plan (t ++ committed_rows w g r steps) g r ∷ []) ≡ by_ends plan t = ap (λ (i : ℕ). take i (by_ends plan t ++ run_at plan (t ++ committed_rows w g r steps) g r ∷ [])) q ∙ take-append_seam (by_ends plan t) (run_at plan (t ++ committed_rows w g r steps) g r ∷ []) in
                let ss : take k (states ++ (before, after) ∷ []) ≡ states = ap (λ (i : ℕ). take i (states ++ (before, after) ∷ [])) (q ∙ sym lengths) ∙ take-append_seam states ((before, after) ∷ []) in
                sym a ∙ word_is ∙ ap (λ (c : ℕ). word_after plan.program (instance_of plan.program c) (by_ends plan t) states) b ∙ ap (λ (xs : List Run). word_after plan.program (instance_of plan.program u.reaction) xs states) (sym us) ∙ ap (λ (xs : List (ℤ × ℤ)). word_after plan.program (instance_of plan.program u.reaction) (take k (by_ends plan t ++ run_at plan (t ++ committed_rows w g r steps) g r ∷ [])) xs) (sym ss)

            go : (slice_get (by_ends plan t) k ≡ Some u) ⊎ ((k ≡ length (by_ends plan t)) × (run_at plan (t ++ committed_rows w g r steps) g r ≡ u)) → words.0 ≡ word_after plan.program (instance_of plan.program u.reaction) (take k (by_ends plan t ++ run_at plan (t ++ committed_rows w g r steps) g r ∷ [])) (take k (states ++ (before, after) ∷ []))
            go (inl q) = old q
            go (inr q) = new q.0 q.1

        met : MeetsLaw holds (t ++ committed_rows w g r steps) (states ++ (before, after) ∷ []) (by_ends plan t ++ run_at plan (t ++ committed_rows w g r steps) g r ∷ [])
        met k u words e f = go (old_or_new k u e)
          where
            its_law : holds r g before (reads_at plan (t ++ committed_rows w g r steps) g r) (record { state = after; steps = answered_steps (t ++ committed_rows w g r steps) g r })
            its_law = subst (λ (ss : List Step). holds r g before (reads_at plan (t ++ committed_rows w g r steps) g r) (record { state = after; steps = ss })) (sym answered_now) (subst (λ (os : List (Option Value)). holds r g before os (record { state = after; steps = steps })) (sym (same_reads plan good t is.so_far w g r open_run steps may g r)) lawful)

            go : (slice_get (by_ends plan t) k ≡ Some u) ⊎ ((k ≡ length (by_ends plan t)) × (run_at plan (t ++ committed_rows w g r steps) g r ≡ u)) → law_of holds u.reaction u.tag words.0 u.reads words.1 (answered_steps (t ++ committed_rows w g r steps) u.tag u.reaction)
            go (inl q) =
                let l : k < length (by_ends plan t) = slice_get_within (by_ends plan t) k u q in
                subst (λ (ss : List Step). law_of holds u.reaction u.tag words.0 u.reads words.1 (filter_map answered ss)) (sym (steps_kept u.tag u.reaction (end_of k u q))) (is.follows.meets k u words q (words_old k words l f))
            go (inr q) =
                let a : (before, after) ≡ words = words_new k words q.0 f in
                subst (λ (x : ℤ × ℤ). law_of holds u.reaction u.tag x.0 u.reads x.1 (answered_steps (t ++ committed_rows w g r steps) u.tag u.reaction)) a (subst (λ (v : Run). law_of holds v.reaction v.tag before v.reads after (answered_steps (t ++ committed_rows w g r steps) v.tag v.reaction)) q.1 its_law)

    fit : ((s : Step) → Mem s steps → StepFits plan.program s) → length (t ++ committed_rows w g r steps) ≤ 4000000 → RowsFit plan.program (t ++ committed_rows w g r steps)
    fit fits few = record { few = few; each = committed_each fits }

    pub committed_recording : ((h : Tag) → UpTo h (stop plan (t ++ committed_rows w g r steps)) → ¬ Collision plan (t ++ committed_rows w g r steps) h) → ((s : Step) → Mem s steps → StepFits plan.program s) → length (t ++ committed_rows w g r steps) ≤ 4000000 → IsRecording holds plan (t ++ committed_rows w g r steps) (states ++ (before, after) ∷ [])
    committed_recording clean fits few = record { so_far = committed_so_far plan good t is.so_far w g r open_run steps may (no_clash clean); follows = follows; fit = fit fits few; quiet = quiet }

    -- the words of the instances: one changes
    pub word_more : (instance : ℕ) → word_after plan.program instance (by_ends plan (t ++ committed_rows w g r steps)) (states ++ (before, after) ∷ []) ≡ cond (instance_of plan.program r == instance) after (word_after plan.program instance (by_ends plan t) states)
    word_more instance = ap (λ (us : List Run). word_after plan.program instance us (states ++ (before, after) ∷ [])) ended_more ∙ ap (λ (ps : List (Run × (ℤ × ℤ))). unwrap_or (last_or None (filter_map (word_left plan.program instance) ps)) (pos 0)) (zip_both (by_ends plan t) (run_at plan (t ++ committed_rows w g r steps) g r) states (before, after) is.follows.one_each) ∙ ap (λ (vs : List ℤ). unwrap_or (last_or None vs) (pos 0)) (filter_map-append (word_left plan.program instance) (zip (by_ends plan t) states) ((run_at plan (t ++ committed_rows w g r steps) g r, (before, after)) ∷ [])) ∙ by (instance_of plan.program r == instance)
      where
        by : (b : Bool) → unwrap_or (last_or None (filter_map (word_left plan.program instance) (zip (by_ends plan t) states) ++ cons_option (cond b (Some after) None) [])) (pos 0) ≡ cond b after (word_after plan.program instance (by_ends plan t) states)
        by true = ap (λ (o : Option ℤ). unwrap_or o (pos 0)) (last-append_some None (filter_map (word_left plan.program instance) (zip (by_ends plan t) states)) (after ∷ []) after refl)
        by false = ap (λ (vs : List ℤ). unwrap_or (last_or None vs) (pos 0)) (append-nil (filter_map (word_left plan.program instance) (zip (by_ends plan t) states)))

-- no run more has started
pub committed_count : (plan : PlanParts) (t : List Row) (w : ℕ) (g : Tag) (r : ℕ) (steps : List Step) → ((s : Step) → Mem s steps → MayAnswer plan r s) → started_count (t ++ committed_rows w g r steps) ≡ started_count t
committed_count plan t w g r steps may = ap length (added_none (λ (row : Row). started_row row.step) t (committed_rows w g r steps) none)
  where
    by : (s : Step) → Mem s steps ⊎ Mem s (End ∷ []) → started_row s ≡ None
    by Start (inl m) = absurd (may Start m)
    by Start (inr (inl e)) = absurd (cc)
    by Start (inr (inr e)) = absurd e
    by (Read n v) m = refl
    by (Write n v) m = refl
    by (Schedule n v d) m = refl
    by Stop m = refl
    by End m = refl

    none : (x : Row) → Mem x (committed_rows w g r steps) → started_row x.step ≡ None
    none x m =
        let f = mem_from_map (run_row w g r) (steps ++ End ∷ []) x m in
        subst (λ (s : Step). started_row s ≡ None) (ap (λ (y : Row). y.step) f.2) (by f.0 (mem_cases f.0 steps (End ∷ []) f.1))
