-- In a ordered trace each run reads and is triggered by what had ended before it.
use Rattle.std.proofs.Common.{◌≡◌, ℕ, ◌+◌, ◌<◌, ◌⊎◌, inl, inr, List, [], ◌∷◌, length, refl, sym, ap, ◌∙◌, subst, arith, lit<, Option, Some, None, slice_get, filter_map, Contains}
use Rattle.std.specs.List.{AllZip}
use native.Mathlib.Decide.{ℕ_discrete, dec_lt}
use Rattle.lft_tag.specs.{declared.Tag.Tag, Tags.{Before, UpTo, after, after_all}}
use Rattle.lft_tag.proofs.Order.{UpTo_antisym, UpTo-not, Before-irrefl, after_past, after_some_past}
use Rattle.lft_lists.proofs.Members.{Mem, get_mem, mem_left, mem_right, mem_cases, mem_filter, mem_from_filter, LastAt, last_at, mem_contains, contains_mem}
use Rattle.lft_ir.specs.{Parts.inputs, Naming.named, Origins.Origin}
use Rattle.lft_ir.specs.declared.parts.{Reaction.Reaction, Value.Value, Name.{Name, TheVariants.{Port, Action}}}
use Rattle.lft_ir.specs.declared.parts.Trigger.{Trigger, TheVariants.{Startup, Shutdown, Timer, On}}
use Rattle.lft_ir.specs.declared.steps.row.{Row.Row, Step.{Step, TheVariants.{Schedule, Stop}}}
use Rattle.lft_model.specs.Plans.{PlanParts, IsSoundPlan}
use Rattle.lft_model.specs.Presence.{written, scheduled, value_scheduled, given, min_delay, events_of, IsWrittenFrom, At, Triggered, Occurs, Shows, Inputs, asked, requests, stop}
use Rattle.lft_model.specs.{Runs.{Ran, start_row, end_row, steps_of, effects_of, reads_at, rows_of}, Breaches.{EndsBefore, IsUndeclared, MaySchedule}}
use Rattle.lft_model.specs.Recorded.{IsAnswer}
use Rattle.lft_model.proofs.{Places.{stable, slice_get_within}, Stops.{asker, stop_external, stop_asked, stop_cases}}
use Rattle.lft_model.proofs.Steps.{own_schedule, own_stop, mem_step, scheduled_some, some_scheduled}
use Rattle.lft_model.proofs.Ended.{ended_before, row_own, scheduled_by, by_scheduled, Schedules, present_down, stop_down}
use Rattle.lft_model.proofs.Legality.{IsOrdered, rising, opened, Inside, one_start, one_end, keeps_four}
use Rattle.lft_model.proofs.Kept.{dec_mem, effect_of, writer_effect, writer_inside, last_kept}
use Rattle.lft_graph.specs.Precedence.{Precedes, Precedes.one}

-- a trigger that is a port or an action is an input
pub input_of_trigger : (x : Reaction) (n : Name) → Contains x.triggers (On n) → Contains (inputs x) n
input_of_trigger x n c = mem_contains n (inputs x) (mem_left n (filter_map named x.triggers) x.uses (mem_filter named (On n) n x.triggers (contains_mem (On n) x.triggers c) refl))

-- up to the stop, what the ended runs trigger is triggered in the trace
pub triggered_down : (plan : PlanParts) (t : List Row) (i : ℕ) (g : Tag) (r : ℕ) → UpTo g (stop plan t) → Triggered plan (rows_of plan.program (ended_before plan t i)) g r → Triggered plan t g r
triggered_down plan t i g r u o = record { reaction = o.reaction; trigger = o.trigger; is_reaction = o.is_reaction; is_trigger = o.is_trigger; occurs = go o.trigger o.occurs }
  where
    go : (x : Trigger) → Occurs plan (rows_of plan.program (ended_before plan t i)) g x → Occurs plan t g x
    go Startup e = e
    go Shutdown e = UpTo_antisym g (stop plan t) u (subst (λ (k : Tag). UpTo (stop plan t) k) (sym e) (stop_down plan t i))
    go (Timer n) e = e
    go (On n) e = present_down plan t i g n e

module _ (plan : PlanParts) (good : IsSoundPlan plan) (t : List Row) (ordered : IsOrdered plan t) where
  -- what a run schedules is an effect of its reaction
  pub declared_schedule : (i : ℕ) (x : Row) (a d : ℕ) (v : Value) → slice_get t i ≡ Some x → x.step ≡ Schedule (Action a) v d → Mem (Action a) (effects_of plan.program x.reaction)
  declared_schedule i x a d v e s = stable (dec_mem (Action a) (effects_of plan.program x.reaction)) (λ n. keeps_four plan t ordered.well i x 4 (lit< tt) e (inr (inr (inr (inl (refl, subst (λ (z : Step). IsUndeclared plan.program t i x z) (sym s) (λ (c : MaySchedule plan.program x.reaction (Action a)). n (contains_mem (Action a) (effects_of plan.program x.reaction) c.0))))))))

  -- a stop that is asked for by a run that ended is asked for by the ended runs
  asked_at : (k : ℕ) (x : Row) (i : ℕ) → slice_get t k ≡ Some x → x.step ≡ Stop → ((n : Inside t k x.tag x.reaction) → n.end < i) → Mem (after x.tag 0) (requests (rows_of plan.program (ended_before plan t i)))
  asked_at k x i e s soon =
      let n : Inside t k x.tag x.reaction = ordered.told k x e (subst (λ (y : Step). IsAnswer y) (sym s) tt) in
      let m : Mem Stop (steps_of t x.tag x.reaction) = subst (λ (y : Step). Mem y (steps_of t x.tag x.reaction)) s (mem_step t x.tag x.reaction k x e refl refl) in
      row_own plan t (λ (row : Row). asked row.tag row.step) i (after x.tag 0) (record { place = n.end; worker = n.worker; tag = x.tag; reaction = x.reaction; step = Stop; is_before = soon n; is_end = n.ends; is_step = own_stop plan.program t x.tag x.reaction (reads_at plan t x.tag x.reaction) m; gives = refl })

  asked_up : (h : Tag) (i : ℕ) → Mem h (requests t) → ((k : ℕ) (x : Row) → slice_get t k ≡ Some x → after x.tag 0 ≡ h → (n : Inside t k x.tag x.reaction) → n.end < i) → Mem h (requests (rows_of plan.program (ended_before plan t i)))
  asked_up h i m soon =
      let a = asker t h m in
      let p = get_mem a.0 t a.1 in
      subst (λ (k : Tag). Mem k (requests (rows_of plan.program (ended_before plan t i)))) a.3 (asked_at p.0 a.0 i p.1 a.2 (soon p.0 a.0 p.1 a.3))

  -- where the runs that asked for the stop have ended, the ended runs have the same stop
  pub stop_up : (i : ℕ) → ((k : ℕ) (x : Row) → slice_get t k ≡ Some x → after x.tag 0 ≡ stop plan t → (n : Inside t k x.tag x.reaction) → n.end < i) → stop plan (rows_of plan.program (ended_before plan t i)) ≡ stop plan t
  stop_up i soon = sym (UpTo_antisym (stop plan t) (stop plan own) (stop_down plan t i) (go (stop_cases plan t)))
    where
      own : List Row
      own = rows_of plan.program (ended_before plan t i)

      go : (stop plan t ≡ plan.externals.stop) ⊎ Mem (stop plan t) (requests t) → UpTo (stop plan (rows_of plan.program (ended_before plan t i))) (stop plan t)
      go (inl e) = subst (λ (k : Tag). UpTo (stop plan (rows_of plan.program (ended_before plan t i))) k) (sym e) (stop_external plan (rows_of plan.program (ended_before plan t i)))
      go (inr m) = stop_asked plan (rows_of plan.program (ended_before plan t i)) (stop plan t) (asked_up (stop plan t) i m soon)

  -- so all runs together have the stop of the trace
  pub all_stop : stop plan (rows_of plan.program (ended_before plan t (length t))) ≡ stop plan t
  all_stop = stop_up (length t) (λ k x q z n. slice_get_within t n.end (end_row n.worker x.tag x.reaction) n.ends)

  module _ (g : Tag) (r : ℕ) (run : Ran t g r) (i w : ℕ) (is_end : slice_get t i ≡ Some (end_row w g r)) where
    -- an end at an earlier tag stands before this run's end
    pub earlier_ended : (h : Tag) (c j x : ℕ) → slice_get t j ≡ Some (end_row x h c) → Before h g → j < i
    earlier_ended h c j x e b = go (dec_lt j i) (ℕ_discrete j i)
      where
        go : Dec (j < i) → Dec (j ≡ i) → j < i
        go (yes l) d = l
        go (no n) (yes q) =
            let z : Some (end_row x h c) ≡ Some (end_row w g r) = sym e ∙ ap (λ k. slice_get t k) q ∙ is_end in
            let y : end_row x h c ≡ end_row w g r = cc in
            absurd (Before-irrefl g (subst (λ (k : Tag). Before k g) (ap (λ (u : Row). u.tag) y) b))
        go (no n) (no m) = absurd (UpTo-not g h (rising plan t ordered.well i j (end_row w g r) (end_row x h c) (omega arith) is_end e) b)

    pub started_before : run.place < i
    started_before = let o = opened plan t ordered.well i (end_row w g r) is_end tt in let e : o.start ≡ run.place = one_start plan t ordered.well o.start run.place w run.worker g r o.starts run.starts in let l : o.start < i = o.before in omega arith

    -- and so does the end of a reaction that precedes it at its tag
    pub preceding_ended : (c j x : ℕ) → Precedes plan.program c r → Ran t g c → slice_get t j ≡ Some (end_row x g c) → j < i
    preceding_ended c j x p ran e = go (ordered.precedence g c r p ran run)
      where
        go : EndsBefore t g c r → j < i
        go b =
            let e1 : b.ended_at ≡ j = one_end plan t ordered.well b.ended_at j b.worker x g c b.ends e in
            let e2 : b.started_at ≡ run.place = one_start plan t ordered.well b.started_at run.place b.other run.worker g r b.starts run.starts in
            let l : b.ended_at < b.started_at = b.before in
            let k : run.place < i = started_before in
            omega arith

    module _ (reaction : Reaction) (is_reaction : slice_get plan.program.reactions r ≡ Some reaction) where
      written_up : (p : ℕ) (h : Tag) (v : Value) → Contains (inputs reaction) (Port p) → IsWrittenFrom plan t g p h v → IsWrittenFrom plan (rows_of plan.program (ended_before plan t i)) g p h v
      written_up p h v input o = record { origin = o.origin; delays = o.delays; is_origin = o.is_origin; arrives = o.arrives; is_last = last_kept plan good.sound t ordered h o.origin v l i (by_delays o.delays o.is_origin o.arrives) }
        where
          l : LastAt (written h o.origin) t v
          l = last_at (written h o.origin) t v o.is_last

          a : ℕ
          a = l.item.reaction

          within : Inside t l.place h l.item.reaction
          within = writer_inside plan good.sound t ordered h o.origin v l

          effect : (x : Reaction) × (slice_get plan.program.reactions l.item.reaction ≡ Some x) × Contains x.effects (Port o.origin)
          effect = effect_of plan.program l.item.reaction (Port o.origin) (writer_effect plan good.sound t ordered h o.origin v l)

          by_delays : (ds : List ℕ) → Origin plan.program p o.origin ds → after_all h ds ≡ g → (writer_inside plan good.sound t ordered h o.origin v l).end < i
          by_delays [] way e =
              preceding_ended l.item.reaction (writer_inside plan good.sound t ordered h o.origin v l).end within.worker
              (one (inr (record { writer = effect.0; reader = reaction; is_writer = effect.1; is_reader = is_reaction; origin = o.origin; port = p; is_effect = effect.2; is_input = input; undelayed = way })))
              (record { place = within.start; worker = within.worker; starts = subst (λ (k : Tag). slice_get t within.start ≡ Some (start_row within.worker k l.item.reaction)) e within.starts })
              (subst (λ (k : Tag). slice_get t within.end ≡ Some (end_row within.worker k l.item.reaction)) e within.ends)
          by_delays (d ∷ ds) way e =
              earlier_ended h l.item.reaction (writer_inside plan good.sound t ordered h o.origin v l).end within.worker within.ends (subst (λ (k : Tag). Before h k) e (after_some_past h d ds))

      scheduled_up : (a min : ℕ) (v : Value) → Mem v (filter_map (scheduled g a min) t) → Mem v (filter_map (scheduled g a min) (rows_of plan.program (ended_before plan t i)))
      scheduled_up a min v m = go (mem_from_filter (scheduled g a min) t v m)
        where
          at : (k : ℕ) (x : Row) → slice_get t k ≡ Some x → Schedules g a min x.tag x.step v → Mem v (filter_map (scheduled g a min) (rows_of plan.program (ended_before plan t i)))
          at k x e s =
              let z : x.step ≡ Schedule (Action a) v s.extra = scheduled_some a x.step (s.extra, v) s.value_is in
              let n : Inside t k x.tag x.reaction = ordered.told k x e (subst (λ (y : Step). IsAnswer y) (sym z) tt) in
              let b : Before x.tag g = subst (λ (y : Tag). Before x.tag y) s.arrives (after_past x.tag (min + s.extra)) in
              let st : Mem x.step (steps_of t x.tag x.reaction) = mem_step t x.tag x.reaction k x e refl refl in
              let sv : Mem (s.extra, v) (filter_map (value_scheduled a) (steps_of t x.tag x.reaction)) = mem_filter (value_scheduled a) x.step (s.extra, v) (steps_of t x.tag x.reaction) st s.value_is in
              let own = own_schedule plan.program t x.tag x.reaction (reads_at plan t x.tag x.reaction) a s.extra v (declared_schedule k x a s.extra v e z) sv in
              row_own plan t (scheduled g a min) i v (record { place = n.end; worker = n.worker; tag = x.tag; reaction = x.reaction; step = Schedule (Action a) v s.extra; is_before = earlier_ended x.tag x.reaction n.end n.worker n.ends b; is_end = n.ends; is_step = own; gives = by_scheduled g a min (record { worker = 0; tag = x.tag; reaction = x.reaction; step = Schedule (Action a) v s.extra }) v (record { extra = s.extra; arrives = s.arrives; value_is = some_scheduled a s.extra v }) })

          go : ((x : Row) × Mem x t × (scheduled g a min x ≡ Some v)) → Mem v (filter_map (scheduled g a min) (rows_of plan.program (ended_before plan t i)))
          go q = let f = get_mem q.0 t q.1 in at f.0 q.0 f.1 (scheduled_by g a min q.0 v q.2)

      -- what an input of the run is at its tag, it is by the runs that ended before
      pub at_up : (n : Name) (v : Value) → Contains (inputs reaction) n → At plan t g n v → At plan (rows_of plan.program (ended_before plan t i)) g n v
      at_up (Port p) v input o = (o.0, written_up p o.0 v input o.1)
      at_up (Action a) v input c = mem_contains v (events_of plan (rows_of plan.program (ended_before plan t i)) g a) (go (mem_cases v (filter_map (scheduled g a (min_delay plan.program a)) t) (filter_map (given g a) plan.externals.events) (contains_mem v (events_of plan t g a) c)))
        where
          go : Mem v (filter_map (scheduled g a (min_delay plan.program a)) t) ⊎ Mem v (filter_map (given g a) plan.externals.events) → Mem v (events_of plan (rows_of plan.program (ended_before plan t i)) g a)
          go (inl m) = mem_left v (filter_map (scheduled g a (min_delay plan.program a)) (rows_of plan.program (ended_before plan t i))) (filter_map (given g a) plan.externals.events) (scheduled_up a (min_delay plan.program a) v m)
          go (inr m) = mem_right v (filter_map (scheduled g a (min_delay plan.program a)) (rows_of plan.program (ended_before plan t i))) (filter_map (given g a) plan.externals.events) m

      shows_up : (n : Name) (o : Option Value) → Contains (inputs reaction) n → Shows plan t g n o → Shows plan (rows_of plan.program (ended_before plan t i)) g n o
      shows_up n None input s = λ p. s (present_down plan t i g n p)
      shows_up n (Some v) input s = at_up n v input s

      all_shown : (ns : List Name) (os : List (Option Value)) → ((n : Name) → Mem n ns → Contains (inputs reaction) n) → AllZip (Shows plan t g) ns os → AllZip (Shows plan (rows_of plan.program (ended_before plan t i)) g) ns os
      all_shown [] [] k z = z
      all_shown [] (o ∷ os) k z = z
      all_shown (n ∷ ns) [] k z = z
      all_shown (n ∷ ns) (o ∷ os) k z = (shows_up n o (k n (inl refl)) z.0, all_shown ns os (λ m q. k m (inr q)) z.1)

    pub triggered_up : Triggered plan t g r → Triggered plan (rows_of plan.program (ended_before plan t i)) g r
    triggered_up o = record { reaction = o.reaction; trigger = o.trigger; is_reaction = o.is_reaction; is_trigger = o.is_trigger; occurs = go o.trigger o.is_trigger o.occurs }
      where
        go : (x : Trigger) → Contains o.reaction.triggers x → Occurs plan t g x → Occurs plan (rows_of plan.program (ended_before plan t i)) g x
        go Startup c e = e
        go Shutdown c e = e ∙ sym (stop_up i (λ k x q z n. earlier_ended x.tag x.reaction n.end n.worker n.ends (subst (λ (h : Tag). Before x.tag h) (z ∙ sym e) (after_past x.tag 0))))
        go (Timer n) c e = e
        go (On n) c e = (e.0, at_up o.reaction o.is_reaction n e.0 (input_of_trigger o.reaction n c) e.1)

    pub inputs_up : (reads : List (Option Value)) → Inputs plan t g r reads → Inputs plan (rows_of plan.program (ended_before plan t i)) g r reads
    inputs_up reads o = record { reaction = o.reaction; is_reaction = o.is_reaction; each = all_shown o.reaction o.is_reaction (inputs o.reaction) reads (λ n m. mem_contains n (inputs o.reaction) m) o.each }
