-- The rows once a run has ended: who has run, what is triggered at its tag, and what is pending there.
use Rattle.std.proofs.Common.{◌≡◌, ℕ, zero, suc, ◌+◌, ◌<◌, ◌⊎◌, inl, inr, List, [], ◌∷◌, ◌++◌, length, map, refl, sym, ap, ◌∙◌, subst, arith, Some, slice_get, filter_map, Contains}
use Rattle.std.proofs.lemmas.List.Elements.{filter_map-append}
use Rattle.lft_tag.specs.{declared.Tag.Tag, Tags.{Before, UpTo, after_all}, Shifts.shifted}
use Rattle.lft_tag.proofs.{Order.{UpTo-trans, UpTo_antisym, Before-irrefl, after_past, after_some_past}, Chains.shifted_chain}
use Rattle.lft_lists.proofs.Members.{Mem, mem_get, get_mem, mem_cases, mem_left, mem_right, mem_map, mem_from_map, mem_filter, mem_from_filter, mem_contains, contains_mem, last_of_mem, last_mem}
use Rattle.lft_lists.proofs.Places.{get_append_cases, get_left}
use Rattle.lft_ir.specs.Origins.{Origin}
use Rattle.lft_ir.specs.declared.parts.{Port.Port as PortOf, Value.Value, Name.{Name, TheVariants.{Port, Action}}}
use Rattle.lft_ir.specs.declared.parts.Trigger.{Trigger, TheVariants.{Startup, Shutdown, Timer, On}}
use Rattle.lft_ir.specs.declared.steps.row.{Row.Row, Step.{Step, TheVariants.{Start, Read, Write, Schedule, Stop, End}}}
use Rattle.lft_ir.proofs.Origins.{origin_unique, port_of}
use Rattle.lft_graph.specs.Precedence.{Precedes, Precedes.one}
use Rattle.lft_model.specs.{Plans.{PlanParts, IsSoundPlan}, Presence.{stop, written, scheduled, given, min_delay, events_of, Last, At, Occurs, Triggered}}
use Rattle.lft_model.specs.{Runs.{Ran, start_row, end_row, effects_of, by_ends}, OneWorker.IsPending}
use Rattle.lft_model.specs.Recorded.{SoFar, IsAnswer, OnlyEndedAnswer, MayAnswer, run_row, committed_rows}
use Rattle.lft_model.proofs.{Places.slice_get_within, Stops.stop_append, Steps.{written_some, some_written}, Ended.{written_by, by_written, scheduled_by}}
use Rattle.lft_model.proofs.{Law.EndRow, Legality.ran_at, Kept.effect_of, Reached.input_of_trigger, Blocks.put_right, Added.added_row}
use Rattle.lft_model.proofs.{Committed.{not_ended, its_time, new_stop}, Recording.precedes_ended, Quiet.{pending_now, pending_triggered, pending_open}}
use Rattle.lft_scheduler.proofs.Written.{from_written, to_written}
use Rattle.lft_scheduler.specs.inner.{Listeners.IsListener, Telling.{ArrivesAtOnce, TriggeredByWrites}, Agendas.MayEnd}

-- delays that lead from a tag to itself are none
undelayed : (g : Tag) (ds : List ℕ) → after_all g ds ≡ g → ds ≡ []
undelayed g [] e = refl
undelayed g (d ∷ ds) e = absurd (Before-irrefl g (subst (λ (k : Tag). Before g k) e (after_some_past g d ds)))

module _ (plan : PlanParts) (good : IsSoundPlan plan) (t : List Row) (w : ℕ) (g : Tag) (r : ℕ) (steps : List Step) (b : MayEnd plan t w g r steps) where
  pub may : (s : Step) → Mem s steps → MayAnswer plan r s
  may s m = let p = get_mem s steps m in b.may p.0 s p.1

  abbrev new_rows : List Row
  new_rows = committed_rows w g r steps

  -- a new row is of the run, at its tag, with one of its steps or the end
  pub its_row : (x : Row) → Mem x new_rows → (x.tag ≡ g) × (x.reaction ≡ r) × (Mem x.step steps ⊎ (x.step ≡ End))
  its_row x m =
      let p = mem_from_map (run_row w g r) (steps ++ End ∷ []) x m in
      let s : p.0 ≡ x.step = ap (λ (y : Row). y.step) p.2 in
      (ap (λ (y : Row). y.tag) (sym p.2), ap (λ (y : Row). y.reaction) (sym p.2), subst (λ (z : Step). Mem z steps ⊎ (z ≡ End)) s (go p.0 (mem_cases p.0 steps (End ∷ []) p.1)))
    where
      go : (s : Step) → Mem s steps ⊎ Mem s (End ∷ []) → Mem s steps ⊎ (s ≡ End)
      go s (inl m) = inl m
      go s (inr (inl e)) = inr (sym e)
      go s (inr (inr m)) = absurd m

  -- no run has started
  pub ran_before : (h : Tag) (c : ℕ) → Ran (t ++ committed_rows w g r steps) h c → Ran t h c
  ran_before h c o = go (get_append_cases t new_rows o.place (start_row o.worker h c) o.starts)
    where
      no_start : Mem Start steps ⊎ (Start ≡ End) → ⊥
      no_start (inl m) = may Start m
      no_start (inr e) = absurd (cc)

      go : (slice_get t o.place ≡ Some (start_row o.worker h c)) ⊎ ((j : ℕ) × (o.place ≡ length t + j) × (slice_get new_rows j ≡ Some (start_row o.worker h c))) → Ran t h c
      go (inl e) = record { place = o.place; worker = o.worker; starts = e }
      go (inr e) = absurd (no_start (its_row (start_row o.worker h c) (mem_get new_rows e.0 (start_row o.worker h c) e.2)).2)

  pub ran_on : (h : Tag) (c : ℕ) → Ran t h c → Ran (t ++ committed_rows w g r steps) h c
  ran_on h c o = record { place = o.place; worker = o.worker; starts = get_left t new_rows o.place (start_row o.worker h c) o.starts }

  -- the end row stands last
  pub end_there : slice_get (t ++ committed_rows w g r steps) (length t + length steps) ≡ Some (end_row w g r)
  end_there = put_right t new_rows (length steps) (end_row w g r) (length t + length steps) (omega arith) (last steps)
    where
      last : (ss : List Step) → slice_get (map (run_row w g r) (ss ++ End ∷ [])) (length ss) ≡ Some (end_row w g r)
      last [] = refl
      last (s ∷ ss) = last ss

  -- the run has ended, and no other
  pub has_ended : EndRow (t ++ committed_rows w g r steps) (length (t ++ committed_rows w g r steps)) g r
  has_ended = record { place = length t + length steps; worker = w; before = slice_get_within (t ++ new_rows) (length t + length steps) (end_row w g r) end_there; ends = end_there }

  ended_before : (h : Tag) (c : ℕ) → EndRow (t ++ new_rows) (length (t ++ new_rows)) h c → EndRow t (length t) h c ⊎ (c ≡ r)
  ended_before h c o = go (get_append_cases t new_rows o.place (end_row o.worker h c) o.ends)
    where
      go : (slice_get t o.place ≡ Some (end_row o.worker h c)) ⊎ ((j : ℕ) × (o.place ≡ length t + j) × (slice_get new_rows j ≡ Some (end_row o.worker h c))) → EndRow t (length t) h c ⊎ (c ≡ r)
      go (inl e) = inl (record { place = o.place; worker = o.worker; before = slice_get_within t o.place (end_row o.worker h c) e; ends = e })
      go (inr e) = inr (its_row (end_row o.worker h c) (mem_get new_rows e.0 (end_row o.worker h c) e.2)).1

  ended_on : (h : Tag) (c : ℕ) → EndRow t (length t) h c → EndRow (t ++ new_rows) (length (t ++ new_rows)) h c
  ended_on h c o = let e = get_left t new_rows o.place (end_row o.worker h c) o.ends in record { place = o.place; worker = o.worker; before = slice_get_within (t ++ new_rows) o.place (end_row o.worker h c) e; ends = e }

  -- each answered row stands before the end row of its run still
  pub quiet_more : OnlyEndedAnswer (t ++ committed_rows w g r steps)
  quiet_more i x e a = go (get_append_cases t new_rows i x e)
    where
      go : (slice_get t i ≡ Some x) ⊎ ((j : ℕ) × (i ≡ length t + j) × (slice_get new_rows j ≡ Some x)) → (k : ℕ) × (i < k) × (slice_get (t ++ new_rows) k ≡ Some (end_row x.worker x.tag x.reaction))
      go (inl f) = let q = b.quiet i x f a in (q.0, q.1, get_left t new_rows q.0 (end_row x.worker x.tag x.reaction) q.2)
      go (inr f) =
          let n = added_row w g r (steps ++ End ∷ []) f.0 x f.2 in
          let l : f.0 < length steps = inner f.0 x.step n.is_step a in
          let p : i ≡ length t + f.0 = f.1 in
          (length t + length steps, omega arith, end_there ∙ ap (λ (y : Row). Some (end_row y.worker y.tag y.reaction)) n.row_is)
        where
          at_end : (s : Step) → IsAnswer s → (k : ℕ) → slice_get (End ∷ []) k ≡ Some s → ⊥
          at_end s a zero q = let z : End ≡ s = cc in subst (λ (y : Step). IsAnswer y) (sym z) a
          at_end s a (suc k) q = absurd (cc)

          inner : (j : ℕ) (s : Step) → slice_get (steps ++ End ∷ []) j ≡ Some s → IsAnswer s → j < length steps
          inner j s q a = by (get_append_cases steps (End ∷ []) j s q)
            where
              by : (slice_get steps j ≡ Some s) ⊎ ((k : ℕ) × (j ≡ length steps + k) × (slice_get (End ∷ []) k ≡ Some s)) → j < length steps
              by (inl z) = slice_get_within steps j s z
              by (inr z) = absurd (at_end s a z.0 z.2)

  -- a value written at g, by the new rows too
  writes_more : (h : Tag) (o : ℕ) (v : Value) → Last t h o v → (u : Value) × Last (t ++ new_rows) h o u
  writes_more h o v l = last_of_mem v (filter_map (written h o) (t ++ new_rows)) (subst (λ (vs : List Value). Mem v vs) (sym (filter_map-append (written h o) t new_rows)) (mem_left v (filter_map (written h o) t) (filter_map (written h o) new_rows) (last_mem (filter_map (written h o) t) v l)))

  -- what the steps write at once is present at g
  pub at_once_present : (k : ℕ) (s : Step) (p : ℕ) → slice_get steps k ≡ Some s → ArrivesAtOnce plan.program g s p → (v : Value) × At plan (t ++ committed_rows w g r steps) g (Port p) v
  at_once_present k s p e o = go s o (mem_get steps k s e)
    where
      wrote : (port : PortOf) (o : ℕ) (v : Value) → slice_get plan.program.ports p ≡ Some port → port.origin ≡ o → shifted g (port.shift.time, port.shift.steps) ≡ g → Mem (Write (Port o) v) steps → (u : Value) × At plan (t ++ new_rows) g (Port p) u
      wrote port o v is_port its now m =
          let row = run_row w g r (Write (Port o) v) in
          let there : Mem row (t ++ new_rows) = mem_right row t new_rows (mem_map (run_row w g r) (Write (Port o) v) (steps ++ End ∷ []) (mem_left (Write (Port o) v) steps (End ∷ []) m)) in
          let value = last_of_mem v (filter_map (written g o) (t ++ new_rows)) (mem_filter (written g o) row v (t ++ new_rows) there (by_written g o row v refl (some_written o v))) in
          (value.0, (g, to_written plan good p port is_port (t ++ new_rows) g g value.0 now (subst (λ (c : ℕ). Last (t ++ new_rows) g c value.0) (sym its) value.1)))

      go : (s : Step) → ArrivesAtOnce plan.program g s p → Mem s steps → (v : Value) × At plan (t ++ new_rows) g (Port p) v
      go (Write (Port o) v) a m = wrote a.0 o v a.1 a.2 a.3 m
      go (Write (Action c) v) a m = absurd a
      go Start a m = absurd a
      go (Read n v) a m = absurd a
      go (Schedule n v d) a m = absurd a
      go Stop a m = absurd a
      go End a m = absurd a

  -- and who listens there comes after the run in the order of precedence
  precedes : (k : ℕ) (s : Step) (p c : ℕ) → slice_get steps k ≡ Some s → ArrivesAtOnce plan.program g s p → IsListener plan.program (On (Port p)) c → Precedes plan.program r c
  precedes k s p c e o x = go s o (may s (mem_get steps k s e))
    where
      feeds : (port : PortOf) (o : ℕ) → slice_get plan.program.ports p ≡ Some port → port.origin ≡ o → shifted g (port.shift.time, port.shift.steps) ≡ g → Contains (effects_of plan.program r) (Port o) → Precedes plan.program r c
      feeds port o is_port its now f =
          let y = effect_of plan.program r (Port o) (contains_mem (Port o) (effects_of plan.program r) f) in
          let way = good.sound.origins p port is_port in
          let none : way.0 ≡ [] = undelayed g way.0 (sym (shifted_chain g way.0) ∙ ap (λ z. shifted g z) way.2 ∙ now) in
          one (inr (record {
            writer = y.0;
            reader = x.0;
            is_writer = y.1;
            is_reader = x.1;
            origin = o;
            port = p;
            is_effect = y.2;
            is_input = input_of_trigger x.0 (Port p) x.2;
            undelayed = subst (λ (d : ℕ). Origin plan.program p d []) its (subst (λ (ds : List ℕ). Origin plan.program p port.origin ds) none way.1);
          }))

      go : (s : Step) → ArrivesAtOnce plan.program g s p → MayAnswer plan r s → Precedes plan.program r c
      go (Write (Port o) v) a f = feeds a.0 o a.1 a.2 a.3 f
      go (Write (Action c) v) a f = absurd a
      go Start a f = absurd a
      go (Read n v) a f = absurd a
      go (Schedule n v d) a f = absurd a
      go Stop a f = absurd a
      go End a f = absurd a

  -- what is present at g by the new rows was so before, or one of the steps has written it at once
  present_cases : (n : Name) (v : Value) → At plan (t ++ new_rows) g n v → ((u : Value) × At plan t g n u) ⊎ ((k : ℕ) × (s : Step) × (p : ℕ) × (slice_get steps k ≡ Some s) × ArrivesAtOnce plan.program g s p × (n ≡ Port p))
  present_cases (Port p) v a = by_rows (mem_cases v (filter_map (written a.0 a.1.origin) t) (filter_map (written a.0 a.1.origin) new_rows) (subst (λ (vs : List Value). Mem v vs) (filter_map-append (written a.0 a.1.origin) t new_rows) (last_mem (filter_map (written a.0 a.1.origin) (t ++ new_rows)) v a.1.is_last)))
    where
      by_rows : Mem v (filter_map (written a.0 a.1.origin) t) ⊎ Mem v (filter_map (written a.0 a.1.origin) new_rows) → ((u : Value) × At plan t g (Port p) u) ⊎ ((k : ℕ) × (s : Step) × (q : ℕ) × (slice_get steps k ≡ Some s) × ArrivesAtOnce plan.program g s q × (Port p ≡ Port q))
      by_rows (inl m) = let u = last_of_mem v (filter_map (written a.0 a.1.origin) t) m in inl (u.0, (a.0, record { origin = a.1.origin; delays = a.1.delays; is_origin = a.1.is_origin; arrives = a.1.arrives; is_last = u.1 }))
      by_rows (inr m) =
          let f = mem_from_filter (written a.0 a.1.origin) new_rows v m in
          let x = its_row f.0 f.1 in
          let z = written_by a.0 a.1.origin f.0 v f.2 in
          let is_write : f.0.step ≡ Write (Port a.1.origin) v = written_some a.1.origin f.0.step v z.1 in
          let port = port_of a.1.is_origin in
          let lead = from_written plan good p port.0 port.1 (t ++ new_rows) g a.0 v a.1 in
          let here : a.0 ≡ g = sym z.0 ∙ x.0 in
          inr (by_step f.0.step is_write x.2 port.0 port.1 (subst (λ (h : Tag). shifted h (port.0.shift.time, port.0.shift.steps) ≡ g) here lead.0) (origin_is port.0 port.1))
        where
          origin_is : (port : PortOf) → slice_get plan.program.ports p ≡ Some port → port.origin ≡ a.1.origin
          origin_is port is_port = sym (origin_unique a.1.is_origin (good.sound.origins p port is_port).1).0

          by_step : (s : Step) → s ≡ Write (Port a.1.origin) v → Mem s steps ⊎ (s ≡ End) → (port : PortOf) → slice_get plan.program.ports p ≡ Some port → shifted g (port.shift.time, port.shift.steps) ≡ g → port.origin ≡ a.1.origin → (k : ℕ) × (s : Step) × (q : ℕ) × (slice_get steps k ≡ Some s) × ArrivesAtOnce plan.program g s q × (Port p ≡ Port q)
          by_step s e (inr q) port is_port now its = let z : Write (Port a.1.origin) v ≡ End = sym e ∙ q in absurd (cc)
          by_step s e (inl q) port is_port now its = let k = get_mem s steps q in (k.0, Write (Port a.1.origin) v, p, k.1 ∙ ap Some e, (port, is_port, its, now), refl)
  present_cases (Action c) v a = by_rows (mem_cases v (filter_map (scheduled g c (min_delay plan.program c)) (t ++ new_rows)) (filter_map (given g c) plan.externals.events) (contains_mem v (events_of plan (t ++ new_rows) g c) a))
    where
      old : Mem v (filter_map (scheduled g c (min_delay plan.program c)) t) ⊎ Mem v (filter_map (given g c) plan.externals.events) → (u : Value) × At plan t g (Action c) u
      old (inl m) = (v, mem_contains v (events_of plan t g c) (mem_left v (filter_map (scheduled g c (min_delay plan.program c)) t) (filter_map (given g c) plan.externals.events) m))
      old (inr m) = (v, mem_contains v (events_of plan t g c) (mem_right v (filter_map (scheduled g c (min_delay plan.program c)) t) (filter_map (given g c) plan.externals.events) m))

      -- a scheduling arrives after its own tag
      none : Mem v (filter_map (scheduled g c (min_delay plan.program c)) new_rows) → ⊥
      none m =
          let f = mem_from_filter (scheduled g c (min_delay plan.program c)) new_rows v m in
          let z = scheduled_by g c (min_delay plan.program c) f.0 v f.2 in
          Before-irrefl g (subst (λ (h : Tag). Before h g) (its_row f.0 f.1).0 (subst (λ (h : Tag). Before f.0.tag h) z.arrives (after_past f.0.tag (min_delay plan.program c + z.extra))))

      of_rows : Mem v (filter_map (scheduled g c (min_delay plan.program c)) t) ⊎ Mem v (filter_map (scheduled g c (min_delay plan.program c)) new_rows) → (u : Value) × At plan t g (Action c) u
      of_rows (inl m) = old (inl m)
      of_rows (inr m) = absurd (none m)

      by_rows : Mem v (filter_map (scheduled g c (min_delay plan.program c)) (t ++ new_rows)) ⊎ Mem v (filter_map (given g c) plan.externals.events) → ((u : Value) × At plan t g (Action c) u) ⊎ ((k : ℕ) × (s : Step) × (p : ℕ) × (slice_get steps k ≡ Some s) × ArrivesAtOnce plan.program g s p × (Action c ≡ Port p))
      by_rows (inr m) = inl (old (inr m))
      by_rows (inl m) = inl (of_rows (mem_cases v (filter_map (scheduled g c (min_delay plan.program c)) t) (filter_map (scheduled g c (min_delay plan.program c)) new_rows) (subst (λ (vs : List Value). Mem v vs) (filter_map-append (scheduled g c (min_delay plan.program c)) t new_rows) m)))

  -- what was present stays so
  present_on : (n : Name) (v : Value) → At plan t g n v → (u : Value) × At plan (t ++ new_rows) g n u
  present_on (Port p) v a = let u = writes_more a.0 a.1.origin v a.1.is_last in (u.0, (a.0, record { origin = a.1.origin; delays = a.1.delays; is_origin = a.1.is_origin; arrives = a.1.arrives; is_last = u.1 }))
  present_on (Action c) v a = go (mem_cases v (filter_map (scheduled g c (min_delay plan.program c)) t) (filter_map (given g c) plan.externals.events) (contains_mem v (events_of plan t g c) a))
    where
      go : Mem v (filter_map (scheduled g c (min_delay plan.program c)) t) ⊎ Mem v (filter_map (given g c) plan.externals.events) → (u : Value) × At plan (t ++ new_rows) g (Action c) u
      go (inl m) = (v, mem_contains v (events_of plan (t ++ new_rows) g c) (mem_left v (filter_map (scheduled g c (min_delay plan.program c)) (t ++ new_rows)) (filter_map (given g c) plan.externals.events) (subst (λ (vs : List Value). Mem v vs) (sym (filter_map-append (scheduled g c (min_delay plan.program c)) t new_rows)) (mem_left v (filter_map (scheduled g c (min_delay plan.program c)) t) (filter_map (scheduled g c (min_delay plan.program c)) new_rows) m))))
      go (inr m) = (v, mem_contains v (events_of plan (t ++ new_rows) g c) (mem_right v (filter_map (scheduled g c (min_delay plan.program c)) (t ++ new_rows)) (filter_map (given g c) plan.externals.events) m))

  -- the stop is at g before where it is after, and the other way
  stop_on : g ≡ stop plan t → g ≡ stop plan (t ++ new_rows)
  stop_on e = UpTo_antisym g (stop plan (t ++ new_rows)) (its_time plan good t b.so_far w g r b.open_run steps may) (subst (λ (k : Tag). UpTo (stop plan (t ++ new_rows)) k) (sym e) (stop_append plan t new_rows))

  stop_back : g ≡ stop plan (t ++ new_rows) → g ≡ stop plan t
  stop_back e = go (new_stop plan good t b.so_far w g r b.open_run steps may)
    where
      go : (stop plan (t ++ new_rows) ≡ stop plan t) ⊎ Before g (stop plan (t ++ new_rows)) → g ≡ stop plan t
      go (inl q) = e ∙ q
      go (inr q) = absurd (Before-irrefl g (subst (λ (k : Tag). Before g k) (sym e) q))

  -- who is triggered at g by the new rows was so before, or listens to what the steps have written at once
  triggered_cases : (c : ℕ) → Triggered plan (t ++ new_rows) g c → Triggered plan t g c ⊎ TriggeredByWrites plan.program g steps c
  triggered_cases c o = go o.trigger o.is_trigger o.occurs
    where
      before : (x : Trigger) → Contains o.reaction.triggers x → Occurs plan t g x → Triggered plan t g c ⊎ TriggeredByWrites plan.program g steps c
      before x m e = inl (record { reaction = o.reaction; trigger = x; is_reaction = o.is_reaction; is_trigger = m; occurs = e })

      go : (x : Trigger) → Contains o.reaction.triggers x → Occurs plan (t ++ new_rows) g x → Triggered plan t g c ⊎ TriggeredByWrites plan.program g steps c
      go Startup m e = before Startup m e
      go Shutdown m e = before Shutdown m (stop_back e)
      go (Timer n) m e = before (Timer n) m e
      go (On n) m e = by (present_cases n e.0 e.1)
        where
          by : ((u : Value) × At plan t g n u) ⊎ ((k : ℕ) × (s : Step) × (p : ℕ) × (slice_get steps k ≡ Some s) × ArrivesAtOnce plan.program g s p × (n ≡ Port p)) → Triggered plan t g c ⊎ TriggeredByWrites plan.program g steps c
          by (inl a) = before (On n) m a
          by (inr a) = inr (a.0, a.1, a.2, a.3, a.4, (o.reaction, o.is_reaction, subst (λ (k : Name). Contains o.reaction.triggers (On k)) a.5 m))

  -- who was triggered at g is so still
  triggered_on : (c : ℕ) → Triggered plan t g c → Triggered plan (t ++ new_rows) g c
  triggered_on c o = record { reaction = o.reaction; trigger = o.trigger; is_reaction = o.is_reaction; is_trigger = o.is_trigger; occurs = go o.trigger o.occurs }
    where
      go : (x : Trigger) → Occurs plan t g x → Occurs plan (t ++ new_rows) g x
      go Startup e = e
      go Shutdown e = stop_on e
      go (Timer n) e = e
      go (On n) e = present_on n e.0 e.1

  its_end : UpTo g (stop plan (t ++ new_rows))
  its_end = its_time plan good t b.so_far w g r b.open_run steps may

  module _ (so_far : SoFar plan (t ++ committed_rows w g r steps)) where
    -- the run isn't pending any more
    pub no_more : ¬ IsPending plan (by_ends plan (t ++ committed_rows w g r steps)) g r
    no_more p = pending_open plan good (t ++ new_rows) so_far quiet_more g r p has_ended

    -- who listens to what was written at once waits
    pub called_waits : (c : ℕ) → TriggeredByWrites plan.program g steps c → IsPending plan (by_ends plan (t ++ committed_rows w g r steps)) g c × (¬ Ran (t ++ committed_rows w g r steps) g c)
    called_waits c o = (pending_now plan good (t ++ new_rows) so_far quiet_more g c its_end now (λ e. fresh (ended_ran e)), fresh)
      where
        now : Triggered plan (t ++ new_rows) g c
        now = record { reaction = o.5.0; trigger = On (Port o.2); is_reaction = o.5.1; is_trigger = o.5.2; occurs = at_once_present o.0 o.1 o.2 o.3 o.4 }

        -- a run of it would have started after the run had ended
        fresh : ¬ Ran (t ++ new_rows) g c
        fresh x = late (ran_before g c x)
          where
            late : Ran t g c → ⊥
            late y =
                let e = precedes_ended plan good t b.so_far g r c b.open_run.start y.place w y.worker (precedes o.0 o.1 o.2 c o.3 o.4 o.5) b.open_run.starts y.starts in
                not_ended plan good t b.so_far w g r b.open_run steps may (record { place = e.place; worker = e.worker; before = slice_get_within t e.place (end_row e.worker g r) e.ends; ends = e.ends })

        ended_ran : EndRow (t ++ new_rows) (length (t ++ new_rows)) g c → Ran (t ++ new_rows) g c
        ended_ran e = ran_at plan (t ++ new_rows) so_far.rows_well e.place (end_row e.worker g c) g c e.ends refl refl

    -- who was pending is so still, but for the run itself
    pub pending_on : (c : ℕ) → ¬ (c ≡ r) → IsPending plan (by_ends plan t) g c → IsPending plan (by_ends plan (t ++ committed_rows w g r steps)) g c
    pending_on c other p = pending_now plan good (t ++ new_rows) so_far quiet_more g c its_end (triggered_on c (pending_triggered plan good t b.so_far b.quiet g c p)) (λ e. by (ended_before g c e))
      where
        by : EndRow t (length t) g c ⊎ (c ≡ r) → ⊥
        by (inl e) = pending_open plan good t b.so_far b.quiet g c p e
        by (inr e) = other e

    -- who is pending was so before, or listens to what was written at once
    pub pending_cases : (c : ℕ) → IsPending plan (by_ends plan (t ++ committed_rows w g r steps)) g c → IsPending plan (by_ends plan t) g c ⊎ TriggeredByWrites plan.program g steps c
    pending_cases c p = go (triggered_cases c (pending_triggered plan good (t ++ new_rows) so_far quiet_more g c p))
      where
        go : Triggered plan t g c ⊎ TriggeredByWrites plan.program g steps c → IsPending plan (by_ends plan t) g c ⊎ TriggeredByWrites plan.program g steps c
        go (inr o) = inr o
        go (inl o) = inl (pending_now plan good t b.so_far b.quiet g c (UpTo-trans g (stop plan (t ++ new_rows)) (stop plan t) its_end (stop_append plan t new_rows)) o (λ e. pending_open plan good (t ++ new_rows) so_far quiet_more g c p (ended_on g c e)))
