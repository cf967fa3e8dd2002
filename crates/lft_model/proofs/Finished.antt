-- A recording whose runs have all ended, after which nothing is pending, is legal.
use Rattle.std.proofs.Common.{◌≡◌, ℕ, ◌+◌, ◌<◌, ◌≤◌, ◌⊎◌, inl, inr, List, [], ◌∷◌, ◌++◌, length, length-append, refl, sym, ap, ◌∙◌, subst, arith, Option, Some, None, slice_get, filter_map, Bool, true, false, cond, ◌==◌, eqb-true}
use Rattle.std.specs.List.{AllZip}
use Rattle.lft_ir.proofs.Origins.{origin_unique}
use Rattle.lft_ir.specs.Parts.{inputs}
use Rattle.lft_ir.specs.declared.parts.{Value.Value, Name.{Name, TheVariants.{Port, Action}}, Trigger.{Trigger, TheVariants.{Startup, Shutdown, Timer, On}}}
use Rattle.lft_ir.specs.declared.steps.row.{Row.Row, Step.{Step, TheVariants.{Start, Schedule, End}}}
use Rattle.lft_tag.specs.{declared.Tag.Tag, Tags.{UpTo, same_tag}}
use Rattle.lft_lists.proofs.Members.{Mem, mem_get, get_mem, mem_left, mem_right, mem_cases, mem_filter, mem_from_filter, last_at, none_nil, mem_contains, contains_mem}
use Rattle.lft_model.specs.Plans.{PlanParts, IsSoundPlan}
use Rattle.lft_model.specs.Presence.{written, scheduled, value_scheduled, given, min_delay, events_of, Last, IsWrittenFrom, At, Triggered, Occurs, Shows, Inputs, stop, Collision, ClashesAt}
use Rattle.lft_model.specs.Runs.{Run, Ran, start_row, end_row, steps_of, effects_of, reads_at, run_at, ended_by, by_ends, rows_of_run, rows_of}
use Rattle.lft_model.specs.{inner.Breaches.{BreaksRow, BreaksTag, BreaksAt}, Breaches.{IsUnended, IsTooEarly, Legal}, OneWorker.{HasRun, IsPending, rows}}
use Rattle.lft_model.specs.Recorded.{SoFar, IsAnswer}
use Rattle.lft_model.proofs.{Places.{slice_get_within, filter_map_get}, Legality.{KeepsRows, IsOrdered, Inside, told_all, ran_at}}
use Rattle.lft_model.proofs.Steps.{own_schedule, mem_step, scheduled_some, some_scheduled, both_true}
use Rattle.lft_model.proofs.Ended.{ended_before, all_ended, ended_some, row_own, scheduled_by, by_scheduled, Schedules, written_down, events_down, row_is}
use Rattle.lft_model.proofs.{Kept.{dec_mem, writer_inside, last_kept}, Reached.{declared_schedule, all_stop}}
use Rattle.lft_model.proofs.{Counted.{only, of_run, count, end_key, run_cover, rows_cover}, Law.{end_of_run, run_of_end}, Paths.{triggered_kept, inputs_kept}}
use Rattle.lft_model.proofs.Recording.{recorded_in_order}

-- where all runs have ended, the ended runs show what the trace shows
module _ (plan : PlanParts) (good : IsSoundPlan plan) (t : List Row) (ordered : IsOrdered plan t) where
  -- the rows of all ended runs
  abbrev own : List Row
  own = rows_of plan.program (ended_before plan t (length t))

  -- the ended runs have the last writes of the trace
  last_all : (h : Tag) (p : ℕ) (v : Value) → Last t h p v → Last own h p v
  last_all h p v e = let l = last_at (written h p) t v e in let n = writer_inside plan good.sound t ordered h p v l in last_kept plan good.sound t ordered h p v l (length t) (slice_get_within t n.end (end_row n.worker h l.item.reaction) n.ends)

  -- and its schedulings
  scheduled_all : (g : Tag) (a min : ℕ) (v : Value) → Mem v (filter_map (scheduled g a min) t) → Mem v (filter_map (scheduled g a min) own)
  scheduled_all g a min v m = go (mem_from_filter (scheduled g a min) t v m)
    where
      at : (k : ℕ) (x : Row) → slice_get t k ≡ Some x → Schedules g a min x.tag x.step v → Mem v (filter_map (scheduled g a min) (rows_of plan.program (ended_before plan t (length t))))
      at k x e s =
          let z : x.step ≡ Schedule (Action a) v s.extra = scheduled_some a x.step (s.extra, v) s.value_is in
          let n : Inside t k x.tag x.reaction = ordered.told k x e (subst (λ (y : Step). IsAnswer y) (sym z) tt) in
          let st : Mem x.step (steps_of t x.tag x.reaction) = mem_step t x.tag x.reaction k x e refl refl in
          let sv : Mem (s.extra, v) (filter_map (value_scheduled a) (steps_of t x.tag x.reaction)) = mem_filter (value_scheduled a) x.step (s.extra, v) (steps_of t x.tag x.reaction) st s.value_is in
          let o = own_schedule plan.program t x.tag x.reaction (reads_at plan t x.tag x.reaction) a s.extra v (declared_schedule plan good t ordered k x a s.extra v e z) sv in
          row_own plan t (scheduled g a min) (length t) v (record { place = n.end; worker = n.worker; tag = x.tag; reaction = x.reaction; step = Schedule (Action a) v s.extra; is_before = slice_get_within t n.end (end_row n.worker x.tag x.reaction) n.ends; is_end = n.ends; is_step = o; gives = by_scheduled g a min (record { worker = 0; tag = x.tag; reaction = x.reaction; step = Schedule (Action a) v s.extra }) v (record { extra = s.extra; arrives = s.arrives; value_is = some_scheduled a s.extra v }) })

      go : ((x : Row) × Mem x t × (scheduled g a min x ≡ Some v)) → Mem v (filter_map (scheduled g a min) (rows_of plan.program (ended_before plan t (length t))))
      go q = let f = get_mem q.0 t q.1 in at f.0 q.0 f.1 (scheduled_by g a min q.0 v q.2)

  -- so they show of each name what the trace shows
  pub at_own : (g : Tag) (n : Name) (v : Value) → At plan t g n v → At plan own g n v
  at_own g (Port p) v o = (o.0, record { origin = o.1.origin; delays = o.1.delays; is_origin = o.1.is_origin; arrives = o.1.arrives; is_last = last_all o.0 o.1.origin v o.1.is_last })
  at_own g (Action a) v c = mem_contains v (events_of plan own g a) (go (mem_cases v (filter_map (scheduled g a (min_delay plan.program a)) t) (filter_map (given g a) plan.externals.events) (contains_mem v (events_of plan t g a) c)))
    where
      go : Mem v (filter_map (scheduled g a (min_delay plan.program a)) t) ⊎ Mem v (filter_map (given g a) plan.externals.events) → Mem v (events_of plan (rows_of plan.program (ended_before plan t (length t))) g a)
      go (inl m) = mem_left v (filter_map (scheduled g a (min_delay plan.program a)) (rows_of plan.program (ended_before plan t (length t)))) (filter_map (given g a) plan.externals.events) (scheduled_all g a (min_delay plan.program a) v m)
      go (inr m) = mem_right v (filter_map (scheduled g a (min_delay plan.program a)) (rows_of plan.program (ended_before plan t (length t)))) (filter_map (given g a) plan.externals.events) m

  -- and no more
  pub own_at : (g : Tag) (n : Name) (v : Value) → At plan own g n v → At plan t g n v
  own_at g (Port p) v o =
      let d = written_down plan t (length t) g p o.0 v o.1 in
      let e : d.1.origin ≡ o.1.origin = (origin_unique d.1.is_origin o.1.is_origin).0 in
      let there : Last t o.0 o.1.origin d.0 = subst (λ (q : ℕ). Last t o.0 q d.0) e d.1.is_last in
      let up : Last own o.0 o.1.origin d.0 = last_all o.0 o.1.origin d.0 there in
      (o.0, record { origin = o.1.origin; delays = o.1.delays; is_origin = o.1.is_origin; arrives = o.1.arrives; is_last = there ∙ sym up ∙ o.1.is_last })
  own_at g (Action a) v c = mem_contains v (events_of plan t g a) (events_down plan t (length t) g a v (contains_mem v (events_of plan own g a) c))

  -- they trigger what the trace triggers
  pub triggered_own : (g : Tag) (r : ℕ) → Triggered plan t g r → Triggered plan own g r
  triggered_own g r o = record { reaction = o.reaction; trigger = o.trigger; is_reaction = o.is_reaction; is_trigger = o.is_trigger; occurs = go o.trigger o.occurs }
    where
      go : (x : Trigger) → Occurs plan t g x → Occurs plan (rows_of plan.program (ended_before plan t (length t))) g x
      go Startup e = e
      go Shutdown e = e ∙ sym (all_stop plan good t ordered)
      go (Timer n) e = e
      go (On n) e = (e.0, at_own g n e.0 e.1)

  -- and no more
  pub own_triggered : (g : Tag) (r : ℕ) → Triggered plan own g r → Triggered plan t g r
  own_triggered g r o = record { reaction = o.reaction; trigger = o.trigger; is_reaction = o.is_reaction; is_trigger = o.is_trigger; occurs = go o.trigger o.occurs }
    where
      go : (x : Trigger) → Occurs plan (rows_of plan.program (ended_before plan t (length t))) g x → Occurs plan t g x
      go Startup e = e
      go Shutdown e = e ∙ all_stop plan good t ordered
      go (Timer n) e = e
      go (On n) e = (e.0, own_at g n e.0 e.1)

  -- what may be read of a name by the ended runs may be read of it in the trace
  own_shows : (g : Tag) (n : Name) (o : Option Value) → Shows plan own g n o → Shows plan t g n o
  own_shows g n None s = λ p. s (p.0, at_own g n p.0 p.1)
  own_shows g n (Some v) s = own_at g n v s

  -- and so of each of some names
  own_all : (g : Tag) (ns : List Name) (os : List (Option Value)) → AllZip (Shows plan own g) ns os → AllZip (Shows plan t g) ns os
  own_all g [] [] z = z
  own_all g [] (o ∷ os) z = z
  own_all g (n ∷ ns) [] z = z
  own_all g (n ∷ ns) (o ∷ os) z = (own_shows g n o z.0, own_all g ns os z.1)

  -- what a reaction reads by the ended runs it reads in the trace
  pub own_inputs : (g : Tag) (r : ℕ) (shown : List (Option Value)) → Inputs plan own g r shown → Inputs plan t g r shown
  own_inputs g r shown o = record { reaction = o.reaction; is_reaction = o.is_reaction; each = own_all g (inputs o.reaction) shown o.each }

  -- the ended runs give an action no fewer events
  no_fewer : (g : Tag) (a : ℕ) → length (filter_map (scheduled g a (min_delay plan.program a)) t) ≤ length (filter_map (scheduled g a (min_delay plan.program a)) (rows_of plan.program (by_ends plan t)))
  no_fewer g a = rows_cover plan t g a (min_delay plan.program a) has_key covered
    where
      is_effect : (k : ℕ) (x : Row) (v : Value) → slice_get t k ≡ Some x → scheduled g a (min_delay plan.program a) x ≡ Some v → Mem (Action a) (effects_of plan.program x.reaction) × Inside t k x.tag x.reaction
      is_effect k x v e q =
          let s : Schedules g a (min_delay plan.program a) x.tag x.step v = scheduled_by g a (min_delay plan.program a) x v q in
          let z : x.step ≡ Schedule (Action a) v s.extra = scheduled_some a x.step (s.extra, v) s.value_is in
          (declared_schedule plan good t ordered k x a s.extra v e z, ordered.told k x e (subst (λ (y : Step). IsAnswer y) (sym z) tt))

      has_key : (x : Row) (v : Value) → Mem x t → scheduled g a (min_delay plan.program a) x ≡ Some v → Mem (x.tag, x.reaction) (filter_map (λ y. end_key y y.step) t)
      has_key x v m q =
          let p = get_mem x t m in
          let n = (is_effect p.0 x v p.1 q).1 in
          mem_filter (λ (y : Row). end_key y y.step) (end_row n.worker x.tag x.reaction) (x.tag, x.reaction) t (mem_get t n.end (end_row n.worker x.tag x.reaction) n.ends) refl

      covered : (x : Row) → Mem x t → x.step ≡ End → count (only (x.tag, x.reaction) (scheduled g a (min_delay plan.program a))) t ≤ length (filter_map (scheduled g a (min_delay plan.program a)) (rows_of_run plan.program (run_at plan t x.tag x.reaction)))
      covered x m s = go (dec_mem (Action a) (effects_of plan.program x.reaction))
        where
          go : Dec (Mem (Action a) (effects_of plan.program x.reaction)) → count (only (x.tag, x.reaction) (scheduled g a (min_delay plan.program a))) t ≤ length (filter_map (scheduled g a (min_delay plan.program a)) (rows_of_run plan.program (run_at plan t x.tag x.reaction)))
          go (yes e) = run_cover g a (min_delay plan.program a) t x.tag x.reaction plan e
          go (no d) = let z : count (only (x.tag, x.reaction) (scheduled g a (min_delay plan.program a))) t ≡ 0 = ap length (none_nil (only (x.tag, x.reaction) (scheduled g a (min_delay plan.program a))) t none) in omega arith
            where
              none : (j : ℕ) (y : Row) → slice_get t j ≡ Some y → only (x.tag, x.reaction) (scheduled g a (min_delay plan.program a)) y ≡ None
              none j y e = at (of_run (x.tag, x.reaction) y) refl (scheduled g a (min_delay plan.program a) y) refl
                where
                  at : (b : Bool) → of_run (x.tag, x.reaction) y ≡ b → (o : Option Value) → scheduled g a (min_delay plan.program a) y ≡ o → cond b o None ≡ None
                  at false p o q = refl
                  at true p None q = refl
                  at true p (Some v) q =
                      let r : x.reaction ≡ y.reaction = eqb-true x.reaction y.reaction (both_true (same_tag x.tag y.tag) (x.reaction == y.reaction) p).1 in
                      absurd (d (subst (λ (c : ℕ). Mem (Action a) (effects_of plan.program c)) (sym r) (is_effect j y v e q).0))

  -- so they make each collision of the trace
  pub collision_own : (g : Tag) → Collision plan t g → Collision plan (rows plan (by_ends plan t)) g
  collision_own g c = go c.0 c.1
    where
      go : (n : Name) → ClashesAt plan t g n → Collision plan (rows plan (by_ends plan t)) g
      go (Port p) k =
          subst (λ (l : List Run). Collision plan (rows_of plan.program l) g) (sym (all_ended plan t)) (Port p, record { first = k.first; second = k.second; first_value = k.first_value; second_value = k.second_value; is_first = written_own p k.first k.first_value k.is_first; is_second = written_own p k.second k.second_value k.is_second; differ = k.differ })
        where
          written_own : (p : ℕ) (h : Tag) (v : Value) → IsWrittenFrom plan t g p h v → IsWrittenFrom plan (rows_of plan.program (ended_before plan t (length t))) g p h v
          written_own p h v o = record { origin = o.origin; delays = o.delays; is_origin = o.is_origin; arrives = o.arrives; is_last = last_all h o.origin v o.is_last }
      go (Action a) k =
          let all = filter_map (scheduled g a (min_delay plan.program a)) t in
          let its = filter_map (scheduled g a (min_delay plan.program a)) (rows_of plan.program (by_ends plan t)) in
          let out = filter_map (given g a) plan.externals.events in
          let x : length (all ++ out) ≡ length all + length out = length-append all out in
          let y : length (its ++ out) ≡ length its + length out = length-append its out in
          let z : length all ≤ length its = no_fewer g a in
          let w : 2 ≤ length (all ++ out) = k in
          let f : 2 ≤ length (its ++ out) = omega arith in
          (Action a, f)

-- a recording whose runs have all ended
abbrev pub AllEnded : List Row → Type 0
AllEnded t = (i w : ℕ) (g : Tag) (r : ℕ) → slice_get t i ≡ Some (start_row w g r) → (k : ℕ) × (i < k) × (slice_get t k ≡ Some (end_row w g r))

module _ (plan : PlanParts) (good : IsSoundPlan plan) (t : List Row) (so_far : SoFar plan t) (each_ended : AllEnded t) where
  -- no row breaks one of the rules 1 to 5
  keeps_all : KeepsRows plan t
  keeps_all b o = go o.breaks
    where
      unended : IsUnended t o.place o.row → ⊥
      unended u =
          let s : slice_get t o.place ≡ Some (start_row o.row.worker o.row.tag o.row.reaction) = o.is_row ∙ ap Some (row_is o.row o.row.worker o.row.tag o.row.reaction Start refl refl refl u.0) in
          let e = each_ended o.place o.row.worker o.row.tag o.row.reaction s in
          u.1 e.0 e.1 e.2

      go : BreaksRow plan t o.place o.row b.rule → ⊥
      go (inl q) = so_far.rows_well b (let e : b.rule ≡ 1 = q.0 in omega arith) o
      go (inr (inl q)) = so_far.rows_well b (let e : b.rule ≡ 2 = q.0 in omega arith) o
      go (inr (inr (inl q))) = so_far.rows_well b (let e : b.rule ≡ 3 = q.0 in omega arith) o
      go (inr (inr (inr (inl q)))) = so_far.rows_well b (let e : b.rule ≡ 4 = q.0 in omega arith) o
      go (inr (inr (inr (inr q)))) = unended q.1

  -- and the runs keep to the order of precedence
  its_order : IsOrdered plan t
  its_order = record { well = so_far.rows_well; told = told_all plan t keeps_all; precedence = recorded_in_order plan good t so_far }

  -- the ended runs have the stop of the recording
  its_stop : stop plan (rows plan (by_ends plan t)) ≡ stop plan t
  its_stop = ap (λ (l : List Run). stop plan (rows_of plan.program l)) (all_ended plan t) ∙ all_stop plan good t its_order

  -- each run that was started is among the ended runs
  its_run : (g : Tag) (r : ℕ) → (o : Ran t g r) → HasRun (by_ends plan t) g r
  its_run g r o = let e = each_ended o.place o.worker g r o.starts in subst (λ (l : List Run). HasRun l g r) (sym (all_ended plan t)) (run_of_end plan t (length t) g r (record { place = e.0; worker = o.worker; before = slice_get_within t e.0 (end_row o.worker g r) e.2; ends = e.2 }))

  -- and its reaction is triggered
  its_trigger : (g : Tag) (r : ℕ) → Ran t g r → Triggered plan t g r
  its_trigger g r o =
      let h = its_run g r o in
      let a : Triggered plan (rows plan (by_ends plan t)) h.run.tag h.run.reaction = triggered_kept plan good (by_ends plan t) so_far.path h.place h.run h.is_run in
      let b : Triggered plan (rows plan (by_ends plan t)) g r = subst (λ (c : ℕ). Triggered plan (rows plan (by_ends plan t)) g c) h.same_reaction (subst (λ (k : Tag). Triggered plan (rows plan (by_ends plan t)) k h.run.reaction) h.same_tag a) in
      own_triggered plan good t its_order g r (subst (λ (l : List Run). Triggered plan (rows plan l) g r) (all_ended plan t) b)

  -- and its reads are its inputs
  its_inputs : (g : Tag) (r : ℕ) → Ran t g r → Inputs plan t g r (reads_at plan t g r)
  its_inputs g r o = own_inputs plan good t its_order g r (reads_at plan t g r) (subst (λ (l : List Run). Inputs plan (rows plan l) g r (reads_at plan t g r)) (all_ended plan t) (from (its_run g r o)))
    where
      from : HasRun (by_ends plan t) g r → Inputs plan (rows plan (by_ends plan t)) g r (reads_at plan t g r)
      from h =
          let z : run_at plan t g r ≡ h.run = run_at_place h in
          let a : Inputs plan (rows plan (by_ends plan t)) h.run.tag h.run.reaction h.run.reads = inputs_kept plan good (by_ends plan t) so_far.path h.place h.run h.is_run in
          subst (λ (u : Run). Inputs plan (rows plan (by_ends plan t)) u.tag u.reaction u.reads) (sym z) a
        where
          run_at_place : (h : HasRun (by_ends plan t) g r) → run_at plan t g r ≡ h.run
          run_at_place h =
              let f = filter_map_get (λ (row : Row). ended_by plan t row row.step) t h.place h.run h.is_run in
              let q = ended_some plan t f.item f.item.step h.run f.gives in
              let a : f.item.tag ≡ g = ap (λ (u : Run). u.tag) q.1 ∙ h.same_tag in
              let b : f.item.reaction ≡ r = ap (λ (u : Run). u.reaction) q.1 ∙ h.same_reaction in
              ap (λ (k : Tag). run_at plan t k r) (sym a) ∙ ap (λ (c : ℕ). run_at plan t f.item.tag c) (sym b) ∙ q.1

  -- a recording that is finished is legal
  pub finished_legal : ((g : Tag) (r : ℕ) → ¬ IsPending plan (by_ends plan t) g r) → Legal plan t
  finished_legal finished = record { rows = keeps_all; tags = λ b o. by b.tag b.reaction b.rule o.in_time o.breaks }
    where
      in_time : (g : Tag) → UpTo g (stop plan t) → UpTo g (stop plan (rows plan (by_ends plan t)))
      in_time g u = subst (λ (k : Tag). UpTo g k) (sym its_stop) u

      ran_of : (g : Tag) (r : ℕ) → HasRun (by_ends plan t) g r → Ran t g r
      ran_of g r h = let e = end_of_run plan t (length t) g r (subst (λ (l : List Run). HasRun l g r) (all_ended plan t) h) in ran_at plan t so_far.rows_well e.place (end_row e.worker g r) g r e.ends refl refl

      early : (g : Tag) (r : ℕ) → Ran t g r → IsTooEarly plan t g r → ⊥
      early g r o e = e.not_ended (recorded_in_order plan good t so_far g e.earlier r e.precedes e.earlier_ran o)

      by_reaction : (g : Tag) (r k : ℕ) → UpTo g (stop plan t) → BreaksTag plan t g r k → ⊥
      by_reaction g r k u (inl q) = finished g r (record { in_time = in_time g u; triggered = subst (λ (l : List Run). Triggered plan (rows plan l) g r) (sym (all_ended plan t)) (triggered_own plan good t its_order g r q.1); no_run = λ h. q.2 (ran_of g r h) })
      by_reaction g r k u (inr (inl q)) = q.2 (its_trigger g r q.1)
      by_reaction g r k u (inr (inr (inl q))) = early g r q.1 q.2
      by_reaction g r k u (inr (inr (inr q))) = q.2 (its_inputs g r q.1)

      by : (g : Tag) (o : Option ℕ) (k : ℕ) → UpTo g (stop plan t) → BreaksAt plan t g o k → ⊥
      by g None k u q = so_far.no_clash g (in_time g u) (collision_own plan good t its_order g q.1)
      by g (Some r) k u q = by_reaction g r k u q
