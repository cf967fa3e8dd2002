-- What further runs leave as it was: what is present, triggered and read at a tag, where no further run is earlier or precedes the reaction there.
use Rattle.std.proofs.Common.{◌≡◌, ℕ, zero, suc, ◌+◌, ◌⊎◌, inl, inr, List, [], ◌∷◌, ◌++◌, refl, sym, ap, ◌∙◌, subst, Option, Some, None, slice_get, filter_map, Contains}
use Rattle.std.{specs.List.{last_or, cons_option, AllZip}, proofs.lemmas.Grind.flat_map-append}
use Rattle.lft_tag.specs.{declared.Tag.Tag, Tags.{Before, UpTo, after, after_all}}
use Rattle.lft_tag.proofs.Order.{order_cases, UpTo-refl, UpTo-trans, UpTo-Before, UpTo_antisym, Before-weaken, UpTo-not, Before-irrefl, after_past, after_some_past}
use Rattle.lft_lists.proofs.{Members.{Mem, mem_get, none_nil, mem_contains}, Places.get_left}
use Rattle.lft_ir.specs.{Parts.{Parts, inputs}, Origins.Origin}
use Rattle.lft_ir.specs.declared.parts.{Reaction.Reaction, Value.Value, Name.{Name, TheVariants.{Port, Action}}}
use Rattle.lft_ir.specs.declared.parts.Trigger.{Trigger, TheVariants.{Startup, Shutdown, Timer, On}}
use Rattle.lft_ir.specs.declared.steps.row.{Row.Row, Step.TheVariants.{Start, Read, Write, Schedule, Stop, End}}
use Rattle.lft_model.specs.Plans.{PlanParts, IsSoundPlan}
use Rattle.lft_model.specs.Presence.{written, scheduled, given, min_delay, events_of, At, Triggered, Occurs, Shows, Inputs, requests, stop}
use Rattle.lft_model.specs.{Runs.{Run, effects_of, rows_of_run, rows_of, Outcome.Written}, OneWorker.{HasRun, IsPending, Ready, rows}}
use Rattle.lft_model.proofs.{Stops.{asker, stop_append, stop_added}, Steps.written_some, Ended.{written_by, scheduled_by, Schedules}, Kept.effect_of}
use Rattle.lft_model.proofs.Reached.{input_of_trigger}
use Rattle.lft_model.proofs.RunSteps.{StepOf, step_of_run, RowOfRun, in_rows, mem_zip, StepOf.{starts, reads, writes, schedules, stops, ends}}
use Rattle.lft_graph.{specs.Precedence.{Precedes, Precedes.one}, proofs.Chains.precedes_trans}

pub added_none : {X Y : Type 0} (f : X → Option Y) (xs ys : List X) → ((x : X) → Mem x ys → f x ≡ None) → filter_map f (xs ++ ys) ≡ filter_map f xs
added_none {X} {Y} f [] ys n = none_nil f ys (λ j y e. n y (mem_get ys j y e))
added_none {X} {Y} f (x ∷ xs) ys n = go (f x) (added_none f xs ys n)
  where
    go : (o : Option Y) → filter_map f (xs ++ ys) ≡ filter_map f xs → cons_option o (filter_map f (xs ++ ys)) ≡ cons_option o (filter_map f xs)
    go None e = e
    go (Some v) e = ap (λ zs. v ∷ zs) e

-- no run is at an earlier tag than g, or is at g of a reaction that precedes r
abbrev pub Clear : PlanParts → List Run → Tag → ℕ → Type 0
Clear plan later g r = (w : Run) → Mem w later → UpTo g w.tag × (w.tag ≡ g → ¬ Precedes plan.program w.reaction r)

module _ (plan : PlanParts) (runs later : List Run) (g : Tag) (r : ℕ) (clear : Clear plan later g r) where
  abbrev old : List Row
  old = rows_of plan.program runs

  abbrev added : List Row
  added = rows_of plan.program later

  both : rows_of plan.program (runs ++ later) ≡ old ++ added
  both = flat_map-append (rows_of_run plan.program) runs later

  module _ (reaction : Reaction) (is_reaction : slice_get plan.program.reactions r ≡ Some reaction) where
    -- the origin of an input isn't written by the further runs
    no_write : (p o : ℕ) (ds : List ℕ) (h : Tag) → Contains (inputs reaction) (Port p) → Origin plan.program p o ds → after_all h ds ≡ g → (x : Row) → Mem x added → written h o x ≡ None
    no_write p o ds h input way e x m = go (written h o x) refl
      where
        own : RowOfRun plan.program later x
        own = in_rows plan.program later x m

        at_tag : (ds : List ℕ) → Origin plan.program p o ds → after_all h ds ≡ g → own.run.tag ≡ h → Mem (Port o) (effects_of plan.program own.run.reaction) → ⊥
        at_tag [] way e q n =
            let y = effect_of plan.program own.run.reaction (Port o) n in
            (clear own.run own.is_run).1 (q ∙ e) (one (inr (record { writer = y.0; reader = reaction; is_writer = y.1; is_reader = is_reaction; origin = o; port = p; is_effect = y.2; is_input = input; undelayed = way })))
        at_tag (d ∷ ds) way e q n = UpTo-not g h (subst (λ (k : Tag). UpTo g k) q (clear own.run own.is_run).0) (subst (λ (k : Tag). Before h k) e (after_some_past h d ds))

        effect : (v : Value) → x.step ≡ Write (Port o) v → StepOf plan.program own.run x.step → Mem (Port o) (effects_of plan.program own.run.reaction)
        effect v k (starts q) = let z : Write (Port o) v ≡ Start = sym k ∙ q in absurd (cc)
        effect v k (reads q) = let z : Write (Port o) v ≡ Read q.name q.value = sym k ∙ q.is_step in absurd (cc)
        effect v k (schedules q) = let z : Write (Port o) v ≡ Schedule q.name q.value q.extra = sym k ∙ q.is_step in absurd (cc)
        effect v k (stops q) = let z : Write (Port o) v ≡ Stop = sym k ∙ q in absurd (cc)
        effect v k (ends q) = let z : Write (Port o) v ≡ End = sym k ∙ q in absurd (cc)
        effect v k (writes q) =
            let z : Write (Port o) v ≡ Write q.name q.value = sym k ∙ q.is_step in
            let y : q.name ≡ Port o = cc in
            subst (λ (n : Name). Mem n (effects_of plan.program own.run.reaction)) y (mem_zip q.name (Written (Some q.value)) (effects_of plan.program own.run.reaction) own.run.answer.outcomes q.is_outcome).0

        go : (z : Option Value) → written h o x ≡ z → written h o x ≡ None
        go None q = q
        go (Some v) q =
            let w = written_by h o x v q in
            absurd (at_tag ds way e (sym own.tag_is ∙ w.0) (effect v (written_some o x.step v w.1) (step_of_run plan.program own.run x.step own.is_step)))

    writes_same : (p o : ℕ) (ds : List ℕ) (h : Tag) → Contains (inputs reaction) (Port p) → Origin plan.program p o ds → after_all h ds ≡ g → filter_map (written h o) (rows_of plan.program (runs ++ later)) ≡ filter_map (written h o) old
    writes_same p o ds h input way e = ap (λ (t : List Row). filter_map (written h o) t) both ∙ added_none (written h o) old added (no_write p o ds h input way e)

    no_schedule : (a min : ℕ) (x : Row) → Mem x added → scheduled g a min x ≡ None
    no_schedule a min x m = go (scheduled g a min x) refl
      where
        own : RowOfRun plan.program later x
        own = in_rows plan.program later x m

        go : (z : Option Value) → scheduled g a min x ≡ z → scheduled g a min x ≡ None
        go None q = q
        go (Some v) q =
            let s : Schedules g a min x.tag x.step v = scheduled_by g a min x v q in
            absurd (UpTo-not g x.tag (subst (λ (k : Tag). UpTo g k) (sym own.tag_is) (clear own.run own.is_run).0) (subst (λ (k : Tag). Before x.tag k) s.arrives (after_past x.tag (min + s.extra))))

    events_same : (a : ℕ) → events_of plan (rows_of plan.program (runs ++ later)) g a ≡ events_of plan old g a
    events_same a = ap (λ (vs : List Value). vs ++ filter_map (given g a) plan.externals.events) (ap (λ (t : List Row). filter_map (scheduled g a (min_delay plan.program a)) t) both ∙ added_none (scheduled g a (min_delay plan.program a)) old added (no_schedule a (min_delay plan.program a)))

    -- what an input of the reaction is by the one, it is by the other
    pub at_added : (n : Name) (v : Value) → Contains (inputs reaction) n → At plan old g n v → At plan (rows_of plan.program (runs ++ later)) g n v
    at_added (Port p) v input o = (o.0, record { origin = o.1.origin; delays = o.1.delays; is_origin = o.1.is_origin; arrives = o.1.arrives; is_last = ap (λ (vs : List Value). last_or None vs) (writes_same p o.1.origin o.1.delays o.0 input o.1.is_origin o.1.arrives) ∙ o.1.is_last })
    at_added (Action a) v input c = subst (λ (vs : List Value). Contains vs v) (sym (events_same a)) c

    pub at_back : (n : Name) (v : Value) → Contains (inputs reaction) n → At plan (rows_of plan.program (runs ++ later)) g n v → At plan old g n v
    at_back (Port p) v input o = (o.0, record { origin = o.1.origin; delays = o.1.delays; is_origin = o.1.is_origin; arrives = o.1.arrives; is_last = ap (λ (vs : List Value). last_or None vs) (sym (writes_same p o.1.origin o.1.delays o.0 input o.1.is_origin o.1.arrives)) ∙ o.1.is_last })
    at_back (Action a) v input c = subst (λ (vs : List Value). Contains vs v) (events_same a) c

    shows_added : (n : Name) (o : Option Value) → Contains (inputs reaction) n → Shows plan old g n o → Shows plan (rows_of plan.program (runs ++ later)) g n o
    shows_added n None input s = λ p. s (p.0, at_back n p.0 input p.1)
    shows_added n (Some v) input s = at_added n v input s

    all_added : (ns : List Name) (os : List (Option Value)) → ((n : Name) → Mem n ns → Contains (inputs reaction) n) → AllZip (Shows plan old g) ns os → AllZip (Shows plan (rows_of plan.program (runs ++ later)) g) ns os
    all_added [] [] k z = z
    all_added [] (o ∷ os) k z = z
    all_added (n ∷ ns) [] k z = z
    all_added (n ∷ ns) (o ∷ os) k z = (shows_added n o (k n (inl refl)) z.0, all_added ns os (λ m q. k m (inr q)) z.1)

  -- a further request asks for a stop after the tag
  stop_grown : (stop plan (rows_of plan.program (runs ++ later)) ≡ stop plan old) ⊎ Before g (stop plan (rows_of plan.program (runs ++ later)))
  stop_grown = subst (λ (t : List Row). (stop plan t ≡ stop plan old) ⊎ Before g (stop plan t)) (sym both) (go (stop_added plan old added))
    where
      go : (stop plan (old ++ added) ≡ stop plan old) ⊎ Mem (stop plan (old ++ added)) (requests added) → (stop plan (old ++ added) ≡ stop plan old) ⊎ Before g (stop plan (old ++ added))
      go (inl e) = inl e
      go (inr m) =
          let a = asker added (stop plan (old ++ added)) m in
          let own = in_rows plan.program later a.0 a.1 in
          inr (subst (λ (k : Tag). Before g k) a.3 (UpTo-Before g a.0.tag (after a.0.tag 0) (subst (λ (k : Tag). UpTo g k) (sym own.tag_is) (clear own.run own.is_run).0) (after_past a.0.tag 0)))

  pub stop_lower : UpTo (stop plan (rows_of plan.program (runs ++ later))) (stop plan old)
  stop_lower = subst (λ (t : List Row). UpTo (stop plan t) (stop plan old)) (sym both) (stop_append plan old added)

  pub in_time_added : UpTo g (stop plan old) → UpTo g (stop plan (rows_of plan.program (runs ++ later)))
  in_time_added u = go stop_grown
    where
      go : (stop plan (rows_of plan.program (runs ++ later)) ≡ stop plan old) ⊎ Before g (stop plan (rows_of plan.program (runs ++ later))) → UpTo g (stop plan (rows_of plan.program (runs ++ later)))
      go (inl e) = subst (λ (k : Tag). UpTo g k) (sym e) u
      go (inr b) = Before-weaken g (stop plan (rows_of plan.program (runs ++ later))) b

  stop_same : g ≡ stop plan old → g ≡ stop plan (rows_of plan.program (runs ++ later))
  stop_same e = UpTo_antisym g (stop plan (rows_of plan.program (runs ++ later))) (in_time_added (subst (λ (k : Tag). UpTo g k) e (UpTo-refl g))) (subst (λ (k : Tag). UpTo (stop plan (rows_of plan.program (runs ++ later))) k) (sym e) stop_lower)

  stop_back : g ≡ stop plan (rows_of plan.program (runs ++ later)) → g ≡ stop plan old
  stop_back e = go stop_grown
    where
      go : (stop plan (rows_of plan.program (runs ++ later)) ≡ stop plan old) ⊎ Before g (stop plan (rows_of plan.program (runs ++ later))) → g ≡ stop plan old
      go (inl q) = e ∙ q
      go (inr b) = absurd (Before-irrefl g (subst (λ (k : Tag). Before g k) (sym e) b))

  -- what is triggered and read by the one, is by the other
  pub triggered_added : Triggered plan old g r → Triggered plan (rows_of plan.program (runs ++ later)) g r
  triggered_added o = record { reaction = o.reaction; trigger = o.trigger; is_reaction = o.is_reaction; is_trigger = o.is_trigger; occurs = go o.trigger o.is_trigger o.occurs }
    where
      go : (x : Trigger) → Contains o.reaction.triggers x → Occurs plan old g x → Occurs plan (rows_of plan.program (runs ++ later)) g x
      go Startup c e = e
      go Shutdown c e = stop_same e
      go (Timer n) c e = e
      go (On n) c e = (e.0, at_added o.reaction o.is_reaction n e.0 (input_of_trigger o.reaction n c) e.1)

  pub triggered_back : Triggered plan (rows_of plan.program (runs ++ later)) g r → Triggered plan old g r
  triggered_back o = record { reaction = o.reaction; trigger = o.trigger; is_reaction = o.is_reaction; is_trigger = o.is_trigger; occurs = go o.trigger o.is_trigger o.occurs }
    where
      go : (x : Trigger) → Contains o.reaction.triggers x → Occurs plan (rows_of plan.program (runs ++ later)) g x → Occurs plan old g x
      go Startup c e = e
      go Shutdown c e = stop_back e
      go (Timer n) c e = e
      go (On n) c e = (e.0, at_back o.reaction o.is_reaction n e.0 (input_of_trigger o.reaction n c) e.1)

  pub inputs_added : (shown : List (Option Value)) → Inputs plan old g r shown → Inputs plan (rows_of plan.program (runs ++ later)) g r shown
  inputs_added shown o = record { reaction = o.reaction; is_reaction = o.is_reaction; each = all_added o.reaction o.is_reaction (inputs o.reaction) shown (λ n m. mem_contains n (inputs o.reaction) m) o.each }

  -- what is pending after further runs was pending before them
  pub pending_back : IsPending plan (runs ++ later) g r → IsPending plan runs g r
  pending_back p = record {
    in_time = UpTo-trans g (stop plan (rows_of plan.program (runs ++ later))) (stop plan old) p.in_time stop_lower;
    triggered = triggered_back p.triggered;
    no_run = λ h. p.no_run (record { place = h.place; run = h.run; is_run = get_left runs later h.place h.run h.is_run; same_tag = h.same_tag; same_reaction = h.same_reaction });
  }

-- an open run stays as it is when another open run ends
module _ (plan : PlanParts) (good : IsSoundPlan plan) (runs : List Run) (w : Run) (ready : Ready plan runs w.tag w.reaction) (g : Tag) (r : ℕ) (open_run : Ready plan runs g r) (other : ¬ (w.reaction ≡ r)) where
  same_tag : w.tag ≡ g
  same_tag = UpTo_antisym w.tag g (ready.least g r open_run.pending) (open_run.least w.tag w.reaction ready.pending)

  not_before : ¬ Precedes plan.program w.reaction r
  not_before p = open_run.none_before w.reaction p (subst (λ (k : Tag). IsPending plan runs k w.reaction) same_tag ready.pending)

  clear_of : (h : Tag) (c : ℕ) → UpTo h g → (h ≡ g → ¬ Precedes plan.program w.reaction c) → Clear plan (w ∷ []) h c
  clear_of h c u n x (inl e) = (subst (λ (y : Run). UpTo h y.tag) e (subst (λ (k : Tag). UpTo h k) (sym same_tag) u), λ q. subst (λ (y : Run). ¬ Precedes plan.program y.reaction c) e (n (sym (ap (λ (y : Run). y.tag) e ∙ q) ∙ same_tag)))
  clear_of h c u n x (inr z) = absurd z

  clear_open : Clear plan (w ∷ []) g r
  clear_open = clear_of g r (UpTo-refl g) (λ e. not_before)

  pub open_triggered : Triggered plan (rows plan runs) g r → Triggered plan (rows plan (runs ++ w ∷ [])) g r
  open_triggered o = triggered_added plan runs (w ∷ []) g r clear_open o

  pub open_inputs : (shown : List (Option Value)) → Inputs plan (rows plan runs) g r shown → Inputs plan (rows plan (runs ++ w ∷ [])) g r shown
  open_inputs shown o = inputs_added plan runs (w ∷ []) g r clear_open shown o

  no_run_of : (h : HasRun (runs ++ w ∷ []) g r) → HasRun runs g r
  no_run_of h = go h.place h.run h.is_run h.same_tag h.same_reaction runs (λ k u e p q. record { place = k; run = u; is_run = e; same_tag = p; same_reaction = q })
    where
      go : (k : ℕ) (u : Run) → slice_get (runs ++ w ∷ []) k ≡ Some u → u.tag ≡ g → u.reaction ≡ r → (l : List Run) → ((k : ℕ) (u : Run) → slice_get runs k ≡ Some u → u.tag ≡ g → u.reaction ≡ r → HasRun runs g r) → HasRun runs g r
      go k u e p q l f = from (split runs k u e)
        where
          split : (xs : List Run) (k : ℕ) (u : Run) → slice_get (xs ++ w ∷ []) k ≡ Some u → (slice_get xs k ≡ Some u) ⊎ (w ≡ u)
          split [] zero u e = inr (cc)
          split [] (suc k) u e = absurd (cc)
          split (x ∷ xs) zero u e = inl e
          split (x ∷ xs) (suc k) u e = split xs k u e

          from : (slice_get runs k ≡ Some u) ⊎ (w ≡ u) → HasRun runs g r
          from (inl a) = f k u a p q
          from (inr a) = absurd (other (ap (λ (y : Run). y.reaction) a ∙ q))

  pub open_ready : Ready plan (runs ++ w ∷ []) g r
  open_ready = record {
    pending = record {
      in_time = in_time_added plan runs (w ∷ []) g r clear_open open_run.pending.in_time;
      triggered = open_triggered open_run.pending.triggered;
      no_run = λ h. open_run.pending.no_run (no_run_of h);
    };
    least = least;
    none_before = λ a p q. open_run.none_before a p (pending_back plan runs (w ∷ []) g a (clear_of g a (UpTo-refl g) (λ e s. not_before (precedes_trans s p))) q);
  }
    where
      least : (h : Tag) (a : ℕ) → IsPending plan (runs ++ w ∷ []) h a → UpTo g h
      least h a p = go (order_cases h g)
        where
          go : Before h g ⊎ UpTo g h → UpTo g h
          go (inr u) = u
          go (inl b) = open_run.least h a (pending_back plan runs (w ∷ []) h a (clear_of h a (Before-weaken h g b) (λ e. absurd (Before-irrefl g (subst (λ (k : Tag). Before k g) e b)))) p)
