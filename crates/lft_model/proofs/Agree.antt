-- Two legal traces that have the same earlier runs have the same inputs.
use Rattle.std.proofs.Common.{◌≡◌, ℕ, zero, suc, ◌+◌, ◌<◌, ◌≤◌, ◌⊎◌, inl, inr, List, [], ◌∷◌, length, map, refl, sym, ap, ◌∙◌, subst, arith, Option, Some, None, slice_get, filter_map, Contains}
use Rattle.std.specs.List.{last_or, AllZip}
use native.Mathlib.Decide.{ℕ_discrete, dec_lt}
use Rattle.lft_ir.proofs.Origins.{origin_unique}
use Rattle.lft_ir.specs.{Parts.inputs, Origins.Origin}
use Rattle.lft_ir.specs.declared.parts.{Reaction.Reaction, Value.Value, Name.{Name, TheVariants.{Port, Action}}}
use Rattle.lft_ir.specs.declared.parts.Trigger.{Trigger, TheVariants.{Startup, Shutdown, Timer, On}}
use Rattle.lft_ir.specs.declared.steps.row.{Row.Row, Step.{Step, TheVariants.{Schedule, Stop}}}
use Rattle.lft_tag.specs.{declared.Tag.Tag, Tags.{Before, UpTo, after, after_all}}
use Rattle.lft_tag.proofs.Order.{order_cases, UpTo-refl, UpTo-trans, UpTo_antisym, Before-UpTo, Before-weaken, UpTo-not, after_past, after_some_past}
use Rattle.lft_lists.proofs.Members.{Mem, mem_get, get_mem, mem_left, mem_right, mem_cases, mem_filter, mem_from_filter, last_of_mem, LastAt, last_at, nil_of_none, mem_contains, contains_mem}
use Rattle.lft_lists.proofs.Mapped.{map_same}
use Rattle.lft_model.specs.Plans.{PlanParts, IsSoundPlan}
use Rattle.lft_model.specs.Presence.{written, value_written, scheduled, value_scheduled, given, min_delay, events_of, Last, IsWrittenFrom, At, Triggered, Occurs, Shows, Inputs, requests, stop, Collision}
use Rattle.lft_model.specs.Runs.{Answer, answer_at, request_of, read_of, Ran, steps_of, outcome_of, inputs_of, effects_of, reads_at}
use Rattle.lft_model.specs.{Recorded.{SameHistory, SameRuns, AnswerAlike}, Breaches.{Legal, EndsBefore}}
use Rattle.lft_model.proofs.{Places.tag_discrete, Stops.{ask, asker, stop_external, stop_asked, stop_cases}}
use Rattle.lft_model.proofs.{Steps.{RowOf, step_mem, request_mem, mem_request, mem_step, scheduled_some}, Ended.{scheduled_by, by_scheduled, Schedules}}
use Rattle.lft_model.proofs.Legality.{KeepsFour, four, ordered, ran_at, Inside, one_start, one_end, in_order_of_precedence, ran_in_time, no_collision}
use Rattle.lft_model.proofs.Kept.{effect_of, before_direct, write_row, WriteRow, writer_effect, writer_inside, own_last, others_before}
use Rattle.lft_model.proofs.{Reached.{declared_schedule, input_of_trigger}, Decided.dec_ran, Law.{runs_if_triggered, triggered_if_ran, reads_inputs}}
use Rattle.lft_graph.specs.Precedence.{Precedes, Precedes.{one, more}}

-- r ran at h in both traces or in neither, and answered the same
pub record SameRun (plan : PlanParts) (t s : List Row) (h : Tag) (a : ℕ) : Type 0 where
  pub there : Ran t h a → Ran s h a
  pub back : Ran s h a → Ran t h a
  pub answers : answer_at plan t h a ≡ answer_at plan s h a
  pub reads : reads_at plan t h a ≡ reads_at plan s h a

pub swap : (plan : PlanParts) (t s : List Row) (h : Tag) (a : ℕ) → SameRun plan t s h a → SameRun plan s t h a
swap plan t s h a o = record { there = o.back; back = o.there; answers = sym o.answers; reads = sym o.reads }

-- what comes before a run: an earlier tag, or a reaction that precedes it at the tag
abbrev pub IsBefore : PlanParts → Tag → ℕ → Tag → ℕ → Type 0
IsBefore plan g r h a = Before h g ⊎ ((h ≡ g) × Precedes plan.program a r)

abbrev pub SameBefore : PlanParts → List Row → List Row → Tag → ℕ → Type 0
SameBefore plan t s g r = (h : Tag) (a : ℕ) → IsBefore plan g r h a → SameRun plan t s h a

-- names whose origins are written, and whose tag is reached, by runs that are the same
module _ (plan : PlanParts) (good : IsSoundPlan plan) (t s : List Row) (first : Legal plan t) (second : Legal plan s) (g : Tag) (Wanted : Name → Type 0) (near : (p o a : ℕ) (ds : List ℕ) (h : Tag) → Wanted (Port p) → Origin plan.program p o ds → after_all h ds ≡ g → Mem (Port o) (effects_of plan.program a) → SameRun plan t s h a) (past : (h : Tag) (a : ℕ) → Before h g → SameRun plan t s h a) where
  same_last : (h : Tag) (a p : ℕ) (v : Value) → SameRun plan t s h a → Mem (Port p) (effects_of plan.program a) → last_or None (filter_map (value_written p) (steps_of t h a)) ≡ Some v → last_or None (filter_map (value_written p) (steps_of s h a)) ≡ Some v
  same_last h a p v o m e =
      let q : outcome_of (steps_of t h a) (Port p) ≡ outcome_of (steps_of s h a) (Port p) = map_same (outcome_of (steps_of t h a)) (outcome_of (steps_of s h a)) (effects_of plan.program a) (Port p) (ap (λ (y : Answer). y.outcomes) o.answers) m in
      let z : last_or None (filter_map (value_written p) (steps_of t h a)) ≡ last_or None (filter_map (value_written p) (steps_of s h a)) = cc in
      sym z ∙ e

  same_last_back : (h : Tag) (a p : ℕ) (v : Value) → SameRun plan t s h a → Mem (Port p) (effects_of plan.program a) → last_or None (filter_map (value_written p) (steps_of s h a)) ≡ Some v → last_or None (filter_map (value_written p) (steps_of t h a)) ≡ Some v
  same_last_back h a p v o m e =
      let q : outcome_of (steps_of t h a) (Port p) ≡ outcome_of (steps_of s h a) (Port p) = map_same (outcome_of (steps_of t h a)) (outcome_of (steps_of s h a)) (effects_of plan.program a) (Port p) (ap (λ (y : Answer). y.outcomes) o.answers) m in
      let z : last_or None (filter_map (value_written p) (steps_of t h a)) ≡ last_or None (filter_map (value_written p) (steps_of s h a)) = cc in
      z ∙ e

  same_schedules : (h : Tag) (a n : ℕ) → SameRun plan t s h a → Mem (Action n) (effects_of plan.program a) → filter_map (value_scheduled n) (steps_of t h a) ≡ filter_map (value_scheduled n) (steps_of s h a)
  same_schedules h a n o m =
      let q : outcome_of (steps_of t h a) (Action n) ≡ outcome_of (steps_of s h a) (Action n) = map_same (outcome_of (steps_of t h a)) (outcome_of (steps_of s h a)) (effects_of plan.program a) (Action n) (ap (λ (y : Answer). y.outcomes) o.answers) m in
      cc

  -- the last value written to the origin of an input is the same in both
  last_same_in : (p o : ℕ) (ds : List ℕ) (h : Tag) (v : Value) → Wanted (Port p) → Origin plan.program p o ds → after_all h ds ≡ g → Last t h o v → Last s h o v
  last_same_in p o ds h v input way e last = found (write_row plan good.sound s (ordered plan s second) 0 h a o v (same_last h a o v here effect mine))
    where
      l : LastAt (written h o) t v
      l = last_at (written h o) t v last

      a : ℕ
      a = l.item.reaction

      effect : Mem (Port o) (effects_of plan.program l.item.reaction)
      effect = writer_effect plan good.sound t (ordered plan t first) h o v l

      mine : last_or None (filter_map (value_written o) (steps_of t h l.item.reaction)) ≡ Some v
      mine = own_last plan good.sound t (ordered plan t first) h o v l

      here : SameRun plan t s h l.item.reaction
      here = near p o l.item.reaction ds h input way e effect

      found : WriteRow plan good.sound s (ordered plan s second) h l.item.reaction o v → Last s h o v
      found w = from (last_of_mem v (filter_map (written h o) s) (mem_filter (written h o) w.row v s (mem_get s w.place w.row w.is_row) w.is_written))
        where
          from : ((x : Value) × Last s h o x) → Last s h o v
          from q = decide (ℕ_discrete m.item.reaction l.item.reaction)
            where
              m : LastAt (written h o) s q.0
              m = last_at (written h o) s q.0 q.1

              its_effect : Mem (Port o) (effects_of plan.program m.item.reaction)
              its_effect = writer_effect plan good.sound s (ordered plan s second) h o q.0 m

              its : last_or None (filter_map (value_written o) (steps_of s h m.item.reaction)) ≡ Some q.0
              its = own_last plan good.sound s (ordered plan s second) h o q.0 m

              there : SameRun plan t s h m.item.reaction
              there = near p o m.item.reaction ds h input way e its_effect

              decide : Dec (m.item.reaction ≡ l.item.reaction) → Last s h o v
              decide (yes z) =
                  let x : last_or None (filter_map (value_written o) (steps_of s h l.item.reaction)) ≡ Some q.0 = subst (λ (c : ℕ). last_or None (filter_map (value_written o) (steps_of s h c)) ≡ Some q.0) z its in
                  let y : last_or None (filter_map (value_written o) (steps_of s h l.item.reaction)) ≡ Some v = same_last h l.item.reaction o v here effect mine in
                  q.1 ∙ sym x ∙ y
              decide (no z) = absurd (apart_twice (λ e. z (sym e)) z (write_row plan good.sound t (ordered plan t first) 0 h m.item.reaction o q.0 theirs) w)
                where
                  theirs : last_or None (filter_map (value_written o) (steps_of t h m.item.reaction)) ≡ Some q.0
                  theirs = same_last_back h m.item.reaction o q.0 there its_effect its

                  apart_twice : ¬ (l.item.reaction ≡ m.item.reaction) → ¬ (m.item.reaction ≡ l.item.reaction) → WriteRow plan good.sound t (ordered plan t first) h m.item.reaction o q.0 → WriteRow plan good.sound s (ordered plan s second) h l.item.reaction o v → ⊥
                  apart_twice ne en b a = by_number (dec_lt l.item.reaction m.item.reaction)
                    where
                      la : Inside t l.place h l.item.reaction
                      la = writer_inside plan good.sound t (ordered plan t first) h o v l

                      mb : Inside s m.place h m.item.reaction
                      mb = writer_inside plan good.sound s (ordered plan s second) h o q.0 m

                      in_t : b.within.end < la.end
                      in_t = others_before plan good.sound t (ordered plan t first) h o v l m.item.reaction q.0 its_effect theirs en b.within.end b.within.worker b.within.ends

                      in_s : a.within.end < mb.end
                      in_s = others_before plan good.sound s (ordered plan s second) h o q.0 m l.item.reaction v effect (same_last h l.item.reaction o v here effect mine) ne a.within.end a.within.worker a.within.ends

                      ahead : EndsBefore t h l.item.reaction m.item.reaction → ⊥
                      ahead x =
                          let e1 : x.ended_at ≡ la.end = one_end plan t (four plan t first.rows) x.ended_at la.end x.worker la.worker h l.item.reaction x.ends la.ends in
                          let e2 : x.started_at ≡ b.within.start = one_start plan t (four plan t first.rows) x.started_at b.within.start x.other b.within.worker h m.item.reaction x.starts b.within.starts in
                          let o1 : x.ended_at < x.started_at = x.before in
                          let o2 : b.within.start < b.place = b.within.after_start in
                          let o3 : b.place < b.within.end = b.within.before_end in
                          let o4 : b.within.end < la.end = in_t in
                          omega arith

                      behind : EndsBefore s h m.item.reaction l.item.reaction → ⊥
                      behind x =
                          let e1 : x.ended_at ≡ mb.end = one_end plan s (four plan s second.rows) x.ended_at mb.end x.worker mb.worker h m.item.reaction x.ends mb.ends in
                          let e2 : x.started_at ≡ a.within.start = one_start plan s (four plan s second.rows) x.started_at a.within.start x.other a.within.worker h l.item.reaction x.starts a.within.starts in
                          let o1 : x.ended_at < x.started_at = x.before in
                          let o2 : a.within.start < a.place = a.within.after_start in
                          let o3 : a.place < a.within.end = a.within.before_end in
                          let o4 : a.within.end < mb.end = in_s in
                          omega arith

                      by_number : Dec (l.item.reaction < m.item.reaction) → ⊥
                      by_number (yes k) = ahead (in_order_of_precedence plan t first h l.item.reaction m.item.reaction (one (before_direct plan good.sound t (ordered plan t first) l.item.reaction m.item.reaction o effect its_effect k)) (record { place = la.start; worker = la.worker; starts = la.starts }) (record { place = b.within.start; worker = b.within.worker; starts = b.within.starts }))
                      by_number (no k) = behind (in_order_of_precedence plan s second h m.item.reaction l.item.reaction (one (before_direct plan good.sound s (ordered plan s second) m.item.reaction l.item.reaction o its_effect effect (omega arith))) (record { place = mb.start; worker = mb.worker; starts = mb.starts }) (record { place = a.within.start; worker = a.within.worker; starts = a.within.starts }))

  written_same : (p : ℕ) (h : Tag) (v : Value) → Wanted (Port p) → IsWrittenFrom plan t g p h v → IsWrittenFrom plan s g p h v
  written_same p h v input o = record { origin = o.origin; delays = o.delays; is_origin = o.is_origin; arrives = o.arrives; is_last = last_same_in p o.origin o.delays h v input o.is_origin o.arrives o.is_last }

  scheduled_same : (a min : ℕ) (v : Value) → Mem v (filter_map (scheduled g a min) t) → Mem v (filter_map (scheduled g a min) s)
  scheduled_same a min v m = go (mem_from_filter (scheduled g a min) t v m)
    where
      there : (x : Row) → Schedules g a min x.tag x.step v → (y : Step) → Mem y (steps_of s x.tag x.reaction) → (z : ℕ × Value) → value_scheduled a y ≡ Some z → Some z ≡ value_scheduled a x.step → Mem v (filter_map (scheduled g a min) s)
      there x k y n z e f =
          let o = step_mem s x.tag x.reaction y n in
          let w : value_scheduled a o.row.step ≡ Some (k.extra, v) = ap (λ (u : Step). value_scheduled a u) o.step_is ∙ e ∙ f ∙ k.value_is in
          mem_filter (scheduled g a min) o.row v s (mem_get s o.place o.row o.is_row) (by_scheduled g a min o.row v (record { extra = k.extra; arrives = ap (λ (u : Tag). after u (min + k.extra)) o.tag_is ∙ k.arrives; value_is = w }))

      at : (k : ℕ) (x : Row) → slice_get t k ≡ Some x → Schedules g a min x.tag x.step v → Mem v (filter_map (scheduled g a min) s)
      at k x e c =
          let z : x.step ≡ Schedule (Action a) v c.extra = scheduled_some a x.step (c.extra, v) c.value_is in
          let b : Before x.tag g = subst (λ (y : Tag). Before x.tag y) c.arrives (after_past x.tag (min + c.extra)) in
          let st : Mem x.step (steps_of t x.tag x.reaction) = mem_step t x.tag x.reaction k x e refl refl in
          let sv : Mem (c.extra, v) (filter_map (value_scheduled a) (steps_of t x.tag x.reaction)) = mem_filter (value_scheduled a) x.step (c.extra, v) (steps_of t x.tag x.reaction) st c.value_is in
          let eq = same_schedules x.tag x.reaction a (past x.tag x.reaction b) (declared_schedule plan good t (ordered plan t first) k x a c.extra v e z) in
          let ss : Mem (c.extra, v) (filter_map (value_scheduled a) (steps_of s x.tag x.reaction)) = subst (λ (ys : List (ℕ × Value)). Mem (c.extra, v) ys) eq sv in
          let f = mem_from_filter (value_scheduled a) (steps_of s x.tag x.reaction) (c.extra, v) ss in
          there x c f.0 f.1 (c.extra, v) f.2 (sym c.value_is)

      go : ((x : Row) × Mem x t × (scheduled g a min x ≡ Some v)) → Mem v (filter_map (scheduled g a min) s)
      go q = let f = get_mem q.0 t q.1 in at f.0 q.0 f.1 (scheduled_by g a min q.0 v q.2)

  -- such a name has the same events in both
  pub at_near : (n : Name) (v : Value) → Wanted n → At plan t g n v → At plan s g n v
  at_near (Port p) v input o = (o.0, written_same p o.0 v input o.1)
  at_near (Action a) v input c = mem_contains v (events_of plan s g a) (go (mem_cases v (filter_map (scheduled g a (min_delay plan.program a)) t) (filter_map (given g a) plan.externals.events) (contains_mem v (events_of plan t g a) c)))
    where
      go : Mem v (filter_map (scheduled g a (min_delay plan.program a)) t) ⊎ Mem v (filter_map (given g a) plan.externals.events) → Mem v (events_of plan s g a)
      go (inl m) = mem_left v (filter_map (scheduled g a (min_delay plan.program a)) s) (filter_map (given g a) plan.externals.events) (scheduled_same a (min_delay plan.program a) v m)
      go (inr m) = mem_right v (filter_map (scheduled g a (min_delay plan.program a)) s) (filter_map (given g a) plan.externals.events) m

module _ (plan : PlanParts) (good : IsSoundPlan plan) (t s : List Row) (first : Legal plan t) (second : Legal plan s) (g : Tag) (r : ℕ) (same : SameBefore plan t s g r) (reaction : Reaction) (is_reaction : slice_get plan.program.reactions r ≡ Some reaction) where
  -- a writer of the origin of an input comes before the run
  writer_before : (p o a : ℕ) (ds : List ℕ) (h : Tag) → Contains (inputs reaction) (Port p) → Origin plan.program p o ds → after_all h ds ≡ g → Mem (Port o) (effects_of plan.program a) → IsBefore plan g r h a
  writer_before p o a [] h input way e m = let x = effect_of plan.program a (Port o) m in inr (e, one (inr (record { writer = x.0; reader = reaction; is_writer = x.1; is_reader = is_reaction; origin = o; port = p; is_effect = x.2; is_input = input; undelayed = way })))
  writer_before p o a (d ∷ ds) h input way e m = inl (subst (λ (k : Tag). Before h k) e (after_some_past h d ds))

  -- an input of the run has the same events in both
  pub at_same : (n : Name) (v : Value) → Contains (inputs reaction) n → At plan t g n v → At plan s g n v
  at_same n v input o = at_near plan good t s first second g (λ m. Contains (inputs reaction) m) (λ p o a ds h i way e m. same h a (writer_before p o a ds h i way e m)) (λ h a b. same h a (inl b)) n v input o

module _ (plan : PlanParts) (good : IsSoundPlan plan) (t s : List Row) (first : Legal plan t) (second : Legal plan s) (g : Tag) (r : ℕ) (same : SameBefore plan t s g r) where
  -- a stop that was asked for before the tag is asked for in both
  asked_same : (k : Tag) → UpTo k g → Mem k (requests t) → Mem k (requests s)
  asked_same k u m = go (asker t k m)
    where
      go : ((x : Row) × Mem x t × (x.step ≡ Stop) × (after x.tag 0 ≡ k)) → Mem k (requests s)
      go a =
          let x : Row = a.0 in
          let b : Before x.tag g = Before-UpTo x.tag k g (subst (λ (j : Tag). Before x.tag j) a.3 (after_past x.tag 0)) u in
          let p = get_mem x t a.1 in
          let mt : Mem Stop (steps_of t x.tag x.reaction) = subst (λ (z : Step). Mem z (steps_of t x.tag x.reaction)) a.2 (mem_step t x.tag x.reaction p.0 x p.1 refl refl) in
          let e : request_of (steps_of t x.tag x.reaction) ≡ request_of (steps_of s x.tag x.reaction) = ap (λ (y : Answer). y.stops) (same x.tag x.reaction (inl b)).answers in
          let ms : Mem Stop (steps_of s x.tag x.reaction) = request_mem (steps_of s x.tag x.reaction) (sym e ∙ mem_request (steps_of t x.tag x.reaction) mt) in
          let r = step_mem s x.tag x.reaction Stop ms in
          subst (λ (j : Tag). Mem j (requests s)) (ap (λ (j : Tag). after j 0) r.tag_is ∙ a.3) (ask s r.row (mem_get s r.place r.row r.is_row) r.step_is)

-- up to a tag before which all runs are the same, neither stop comes before the other
module _ (plan : PlanParts) (good : IsSoundPlan plan) (t s : List Row) (first : Legal plan t) (second : Legal plan s) (g : Tag) (r : ℕ) (same : SameBefore plan t s g r) where
  in_time_same : UpTo g (stop plan t) → UpTo g (stop plan s)
  in_time_same u = go (stop_cases plan s) (order_cases (stop plan s) g)
    where
      go : (stop plan s ≡ plan.externals.stop) ⊎ Mem (stop plan s) (requests s) → Before (stop plan s) g ⊎ UpTo g (stop plan s) → UpTo g (stop plan s)
      go c (inr v) = v
      go (inl e) (inl b) = subst (λ (k : Tag). UpTo g k) (sym e) (UpTo-trans g (stop plan t) plan.externals.stop u (stop_external plan t))
      go (inr m) (inl b) =
          let n : Mem (stop plan s) (requests t) = asked_same plan good s t second first g r (λ h a q. swap plan t s h a (same h a q)) (stop plan s) (Before-weaken (stop plan s) g b) m in
          absurd (UpTo-not g (stop plan s) (UpTo-trans g (stop plan t) (stop plan s) u (stop_asked plan t (stop plan s) n)) b)

  stop_same : g ≡ stop plan t → g ≡ stop plan s
  stop_same e = UpTo_antisym g (stop plan s) (in_time_same (subst (λ (k : Tag). UpTo g k) e (UpTo-refl g))) (subst (λ (k : Tag). UpTo (stop plan s) k) (sym e) (go (stop_cases plan t)))
    where
      go : (stop plan t ≡ plan.externals.stop) ⊎ Mem (stop plan t) (requests t) → UpTo (stop plan s) (stop plan t)
      go (inl q) = subst (λ (k : Tag). UpTo (stop plan s) k) (sym q) (stop_external plan s)
      go (inr m) = stop_asked plan s (stop plan t) (asked_same plan good t s first second g r same (stop plan t) (subst (λ (k : Tag). UpTo k g) e (UpTo-refl g)) m)

  triggered_same : Triggered plan t g r → Triggered plan s g r
  triggered_same o = record { reaction = o.reaction; trigger = o.trigger; is_reaction = o.is_reaction; is_trigger = o.is_trigger; occurs = go o.trigger o.is_trigger o.occurs }
    where
      go : (x : Trigger) → Contains o.reaction.triggers x → Occurs plan t g x → Occurs plan s g x
      go Startup c e = e
      go Shutdown c e = stop_same e
      go (Timer n) c e = e
      go (On n) c e = (e.0, at_same plan good t s first second g r same o.reaction o.is_reaction n e.0 (input_of_trigger o.reaction n c) e.1)

  -- a run of the one trace is a run of the other
  pub ran_same : Ran t g r → Ran s g r
  ran_same o = runs_if_triggered plan good s second g r (in_time_same (ran_in_time plan t (four plan t first.rows) g r o)) (triggered_same (triggered_if_ran plan good t first g r o))

  all_same : (reaction : Reaction) → slice_get plan.program.reactions r ≡ Some reaction → (ns : List Name) (os : List (Option Value)) → ((n : Name) → Mem n ns → Contains (inputs reaction) n) → AllZip (Shows plan t g) ns os → AllZip (Shows plan s g) ns os
  all_same reaction e [] [] k z = z
  all_same reaction e [] (o ∷ os) k z = z
  all_same reaction e (n ∷ ns) [] k z = z
  all_same reaction e (n ∷ ns) (o ∷ os) k z = (go o z.0, all_same reaction e ns os (λ m q. k m (inr q)) z.1)
    where
      go : (o : Option Value) → Shows plan t g n o → Shows plan s g n o
      go None d = λ p. d (p.0, at_same plan good s t second first g r (λ h a b. swap plan t s h a (same h a b)) reaction e n p.0 (k n (inl refl)) p.1)
      go (Some v) d = at_same plan good t s first second g r same reaction e n v (k n (inl refl)) d

  pub inputs_same : (reads : List (Option Value)) → Inputs plan t g r reads → Inputs plan s g r reads
  inputs_same reads o = record { reaction = o.reaction; is_reaction = o.is_reaction; each = all_same o.reaction o.is_reaction (inputs o.reaction) reads (λ n m. mem_contains n (inputs o.reaction) m) o.each }

-- without a collision a name shows one thing
module _ (plan : PlanParts) (t : List Row) (g : Tag) (no_clash : ¬ Collision plan t g) where
  one_value : (n : Name) (v w : Value) → At plan t g n v → At plan t g n w → v ≡ w
  one_value (Port p) v w a b = go (tag_discrete a.0 b.0)
    where
      go : Dec (a.0 ≡ b.0) → v ≡ w
      go (yes e) =
          let o = origin_unique a.1.is_origin b.1.is_origin in
          let x : last_or None (filter_map (written a.0 a.1.origin) t) ≡ Some v = a.1.is_last in
          let y : last_or None (filter_map (written b.0 b.1.origin) t) ≡ Some w = b.1.is_last in
          let z : last_or None (filter_map (written a.0 a.1.origin) t) ≡ last_or None (filter_map (written b.0 b.1.origin) t) = ap (λ (h : Tag). last_or None (filter_map (written h a.1.origin) t)) e ∙ ap (λ (q : ℕ). last_or None (filter_map (written b.0 q) t)) o.0 in
          cc
      go (no e) = absurd (no_clash (Port p, record { first = a.0; second = b.0; first_value = v; second_value = w; is_first = a.1; is_second = b.1; differ = e }))
  one_value (Action a) v w x y = go (events_of plan t g a) (λ l. no_clash (Action a, l)) (contains_mem v (events_of plan t g a) x) (contains_mem w (events_of plan t g a) y)
    where
      go : (vs : List Value) → ¬ (2 ≤ length vs) → Mem v vs → Mem w vs → v ≡ w
      go [] n p q = absurd p
      go (x ∷ []) n (inl p) (inl q) = sym p ∙ q
      go (x ∷ []) n (inl p) (inr q) = absurd q
      go (x ∷ []) n (inr p) q = absurd p
      go (x ∷ y ∷ ys) n p q = absurd (n (omega arith))

  one_show : (n : Name) (o u : Option Value) → Shows plan t g n o → Shows plan t g n u → o ≡ u
  one_show n None None a b = refl
  one_show n None (Some w) a b = absurd (a (w, b))
  one_show n (Some v) None a b = absurd (b (v, a))
  one_show n (Some v) (Some w) a b = ap Some (one_value n v w a b)

  one_list : (ns : List Name) (os us : List (Option Value)) → AllZip (Shows plan t g) ns os → AllZip (Shows plan t g) ns us → os ≡ us
  one_list [] [] [] a b = refl
  one_list [] [] (u ∷ us) a b = absurd b
  one_list [] (o ∷ os) us a b = absurd a
  one_list (n ∷ ns) [] us a b = absurd a
  one_list (n ∷ ns) (o ∷ os) [] a b = absurd b
  one_list (n ∷ ns) (o ∷ os) (u ∷ us) a b = let p : o ≡ u = one_show n o u a.0 b.0 in let q : os ≡ us = one_list ns os us a.1 b.1 in ap (λ z. z ∷ os) p ∙ ap (λ zs. u ∷ zs) q

  pub one_inputs : (r : ℕ) (os us : List (Option Value)) → Inputs plan t g r os → Inputs plan t g r us → os ≡ us
  one_inputs r os us a b =
      let x : Some a.reaction ≡ Some b.reaction = sym a.is_reaction ∙ b.is_reaction in
      let y : a.reaction ≡ b.reaction = cc in
      one_list (inputs b.reaction) os us (subst (λ (z : Reaction). AllZip (Shows plan t g) (inputs z) os) y a.each) b.each

precedes_rises : (plan : PlanParts) (good : IsSoundPlan plan) {a b : ℕ} → Precedes plan.program a b → good.levels.level a < good.levels.level b
precedes_rises plan good {a} {b} (one d) = good.levels.rises a b d
precedes_rises plan good (more {a} {b} {c} d p) = let x : good.levels.level a < good.levels.level b = good.levels.rises a b d in let y : good.levels.level b < good.levels.level c = precedes_rises plan good p in omega arith

-- no reaction precedes itself
pub acyclic : (plan : PlanParts) (good : IsSoundPlan plan) (r : ℕ) → ¬ Precedes plan.program r r
acyclic plan good r p = let x : good.levels.level r < good.levels.level r = precedes_rises plan good p in omega arith

-- a reaction that has no run at a tag has no step there
pub no_steps : (plan : PlanParts) (t : List Row) → KeepsFour plan t → (g : Tag) (r : ℕ) → ¬ Ran t g r → steps_of t g r ≡ []
no_steps plan t well g r n = nil_of_none (steps_of t g r) (λ s m. let o : RowOf t g r s = step_mem t g r s m in n (ran_at plan t well o.place o.row g r o.is_row o.tag_is o.reaction_is))

-- a run that neither trace has is the same
pub absent_same : (plan : PlanParts) (t s : List Row) → Legal plan t → Legal plan s → (g : Tag) (r : ℕ) → ¬ Ran t g r → ¬ Ran s g r → SameRun plan t s g r
absent_same plan t s first second g r n m =
    let x : steps_of t g r ≡ [] = no_steps plan t (four plan t first.rows) g r n in
    let y : steps_of s g r ≡ [] = no_steps plan s (four plan s second.rows) g r m in
    let e : steps_of t g r ≡ steps_of s g r = x ∙ sym y in
    record { there = λ q. absurd (n q); back = λ q. absurd (m q); answers = ap (λ (zs : List Step). let y : Answer = record { outcomes = map (outcome_of zs) (effects_of plan.program r); stops = request_of zs } in y) e; reads = ap (λ (zs : List Step). map (read_of zs) (inputs_of plan.program r)) e }

-- where all that comes before a run is the same, so are its history and its reads
module _ (plan : PlanParts) (good : IsSoundPlan plan) (t s : List Row) (first : Legal plan t) (second : Legal plan s) (g : Tag) (r : ℕ) (same : SameBefore plan t s g r) where
  earlier_same : (h : Tag) (a : ℕ) (x y : Reaction) → slice_get plan.program.reactions r ≡ Some x → slice_get plan.program.reactions a ≡ Some y → y.instance ≡ x.instance → (Before h g ⊎ ((h ≡ g) × (a < r))) → SameRun plan t s h a
  earlier_same h a x y e f k (inl b) = same h a (inl b)
  earlier_same h a x y e f k (inr b) = same h a (inr (b.0, one (inl (record { first = y; second = x; is_first = f; is_second = e; same_instance = k; declared_first = good.sound.numbered a r y x f e k b.1 }))))

  pub history_same : SameHistory plan t s g r
  history_same = record {
    there = λ h a o. let z = earlier_same h a o.reaction o.other o.is_reaction o.is_other o.same_instance o.earlier in (z.there o.ran, z.reads);
    back = λ h a o. let z = earlier_same h a o.reaction o.other o.is_reaction o.is_other o.same_instance o.earlier in (z.back o.ran, z.reads);
  }

  pub reads_same : Ran t g r → reads_at plan t g r ≡ reads_at plan s g r
  reads_same o =
      let u = ran_same plan good t s first second g r same o in
      let x = inputs_same plan good t s first second g r same (reads_at plan t g r) (reads_inputs plan good t first g r o) in
      one_inputs plan s g (no_collision plan s second g (ran_in_time plan s (four plan s second.rows) g r u)) r (reads_at plan t g r) (reads_at plan s g r) x (reads_inputs plan good s second g r u)

module _ (plan : PlanParts) (good : IsSoundPlan plan) (t s : List Row) (first : Legal plan t) (second : Legal plan s) (alike : AnswerAlike plan t s) where
  -- one run more is the same
  one_more : (g : Tag) (r : ℕ) → SameBefore plan t s g r → SameRun plan t s g r
  one_more g r same = go (dec_ran t g r)
    where
      go : Dec (Ran t g r) → SameRun plan t s g r
      go (yes o) =
          let u = ran_same plan good t s first second g r same o in
          let e = reads_same plan good t s first second g r same o in
          record { there = λ q. u; back = λ q. o; answers = alike g r o u (history_same plan good t s first second g r same) e; reads = e }
      go (no n) = absent_same plan t s first second g r n (λ q. n (ran_same plan good s t second first g r (λ h a b. swap plan t s h a (same h a b)) q))

  -- up to a time, a microstep and a level
  Below : ℕ → ℕ → ℕ → Tag → ℕ → Type 0
  Below time micro level h a = (h.time < time) ⊎ (((h.time ≡ time) × (h.micro < micro)) ⊎ ((h.time ≡ time) × (h.micro ≡ micro) × (good.levels.level a < level)))

  Upto : ℕ → ℕ → ℕ → Type 0
  Upto time micro level = (h : Tag) (a : ℕ) → Below time micro level h a → SameRun plan t s h a

  before_of : (h : Tag) (a : ℕ) → Upto h.time h.micro (good.levels.level a) → SameBefore plan t s h a
  unfolding Upto Below
  before_of h a u k c (inl (inl l)) = u k c (inl l)
  before_of h a u k c (inl (inr p)) = u k c (inr (inl p))
  before_of h a u k c (inr p) = u k c (inr (inr (ap (λ (x : Tag). x.time) p.0, ap (λ (x : Tag). x.micro) p.0, precedes_rises plan good p.1)))

  level_up : (time micro : ℕ) → Upto time micro 0 → (level : ℕ) → Upto time micro level
  unfolding Upto Below
  level_up time micro u zero = u
  level_up time micro u (suc level) = step (level_up time micro u level)
    where
      step : Upto time micro level → Upto time micro (suc level)
      step w h a (inl l) = w h a (inl l)
      step w h a (inr (inl p)) = w h a (inr (inl p))
      step w h a (inr (inr p)) = at (dec_lt (good.levels.level a) level)
        where
          at : Dec (good.levels.level a < level) → SameRun plan t s h a
          at (yes l) = w h a (inr (inr (p.0, p.1, l)))
          at (no n) =
              let q : good.levels.level a < suc level = p.2 in
              let e : good.levels.level a ≡ level = omega arith in
              one_more h a (before_of h a (λ k c b. w k c (subst (λ (x : ℕ). Below x micro level k c) p.0 (subst (λ (x : ℕ). Below h.time x level k c) p.1 (subst (λ (x : ℕ). Below h.time h.micro x k c) e b)))))

  micro_up : (time : ℕ) → Upto time 0 0 → (micro level : ℕ) → Upto time micro level
  unfolding Upto Below
  micro_up time u zero = level_up time 0 u
  micro_up time u (suc micro) = level_up time (suc micro) (start (micro_up time u micro))
    where
      start : ((level : ℕ) → Upto time micro level) → Upto time (suc micro) 0
      start w h a (inl l) = w 0 h a (inl l)
      start w h a (inr (inl p)) = at (dec_lt h.micro micro)
        where
          at : Dec (h.micro < micro) → SameRun plan t s h a
          at (yes l) = w 0 h a (inr (inl (p.0, l)))
          at (no n) = let q : h.micro < suc micro = p.1 in w (suc (good.levels.level a)) h a (inr (inr (p.0, omega arith, omega arith)))
      start w h a (inr (inr p)) = let l : good.levels.level a < 0 = p.2 in absurd (omega arith)

  time_up : (time micro level : ℕ) → Upto time micro level
  unfolding Upto Below
  time_up zero = micro_up 0 start
    where
      start : Upto 0 0 0
      start h a (inl l) = absurd (omega arith)
      start h a (inr (inl p)) = let l : h.micro < 0 = p.1 in absurd (omega arith)
      start h a (inr (inr p)) = let l : good.levels.level a < 0 = p.2 in absurd (omega arith)
  time_up (suc time) = micro_up (suc time) (start (time_up time))
    where
      start : ((micro level : ℕ) → Upto time micro level) → Upto (suc time) 0 0
      start w h a (inl l) = at (dec_lt h.time time)
        where
          at : Dec (h.time < time) → SameRun plan t s h a
          at (yes k) = w 0 0 h a (inl k)
          at (no n) = w (suc h.micro) 0 h a (inr (inl (omega arith, omega arith)))
      start w h a (inr (inl p)) = let l : h.micro < 0 = p.1 in absurd (omega arith)
      start w h a (inr (inr p)) = let l : good.levels.level a < 0 = p.2 in absurd (omega arith)

  run_same : (g : Tag) (r : ℕ) → SameRun plan t s g r
  unfolding Upto Below
  run_same g r = time_up g.time g.micro (suc (good.levels.level r)) g r (inr (inr (refl, refl, omega arith)))

  pub agree : SameRuns plan t s
  agree = record { there = λ g r. (run_same g r).there; back = λ g r. (run_same g r).back; reads = λ g r o. (run_same g r).reads; answers = λ g r o. (run_same g r).answers }

-- traces that have the same runs have the same value of each port and action at each tag
module _ (plan : PlanParts) (good : IsSoundPlan plan) (t s : List Row) (first : Legal plan t) (second : Legal plan s) (same : SameRuns plan t s) where
  pub same_run_at : (h : Tag) (a : ℕ) → SameRun plan t s h a
  same_run_at h a = go (dec_ran t h a)
    where
      go : Dec (Ran t h a) → SameRun plan t s h a
      go (yes o) = record { there = λ q. same.there h a q; back = λ q. o; answers = same.answers h a o; reads = same.reads h a o }
      go (no n) = absent_same plan t s first second h a n (λ q. n (same.back h a q))

  pub values_same : (g : Tag) (n : Name) (v : Value) → At plan t g n v → At plan s g n v
  values_same g n v o = at_near plan good t s first second g (λ m. Unit {0}) (λ p o a ds h i way e m. same_run_at h a) (λ h a b. same_run_at h a) n v tt o
