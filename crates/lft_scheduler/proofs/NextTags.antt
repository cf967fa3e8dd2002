-- What is triggered at a tag by the queue, and what the agenda is at the next tag.
use Rattle.std.proofs.Common.{◌≡◌, ◌↔◌, ℕ, suc, ◌+◌, ◌-◌, ◌*◌, ◌<◌, ◌⊎◌, inl, inr, List, [], ◌∷◌, length, refl, sym, ap, ◌∙◌, subst, arith, Option, Some, None, is_some, slice_get, Bool, true, false, cond, Contains}
use Rattle.std.specs.List.{filter}
use Rattle.lft_tag.specs.{declared.Tag.Tag, Tags.{Before, UpTo, same_tag}}
use Rattle.lft_tag.proofs.Order.{Before-irrefl, Before-UpTo, Before-weaken, UpTo-refl, UpTo-trans, UpTo_antisym, order_cases, UpTo-Before, same_tag_true}
use Rattle.lft_ir.specs.declared.{parts.{Name.Name, Value.Value, Trigger.{Trigger, TheVariants.{Startup, Shutdown, Timer, On}}}, steps.row.Row.Row}
use Rattle.lft_ir.specs.Naming.{same_name}
use Rattle.lft_queue.{specs.Pending.{Pending, value_of, same_key, is_after}, proofs.{Dropping.later_value, Tests.before_test}}
use Rattle.lft_scheduler.specs.declared.turn.phase.Phase.{Phase, TheVariants.{Idle, Waiting, Open}}
use Rattle.lft_scheduler.specs.inner.{Turns.{TurnParts, NonePending}, Events.{IsWatchedName, HasEvents}, Listeners.IsListener}
use Rattle.lft_scheduler.specs.inner.{Waits.{IsBetween, IsFoundUpTo, PhaseIs, IsTurnOf}, Telling.{IsTold, OccursBy, TriggeredByQueue}}
use Rattle.lft_scheduler.specs.inner.Agendas.{MayAdvance, IsReached, IsCurrent}
use Rattle.lft_scheduler.specs.Starts.{SomethingLeft}
use Rattle.lft_scheduler.proofs.{Given.listened_watched, Fed.some_there, RunsOpen.filter_mem, Told.{pending_back, none_waits, all_idle}}
use Rattle.lft_graph.specs.Graph.{GraphParts, IsGraphOf}
use Rattle.lft_model.specs.{Plans.{PlanParts, IsSoundPlan}, Presence.{stop, At, Occurs, Triggered}, Runs.{Ran, start_row, end_row, by_ends}}
use Rattle.lft_model.specs.{OneWorker.IsPending, Recorded.{SoFar, OnlyEndedAnswer}}
use Rattle.lft_model.proofs.{Places.slice_get_within, Steps.both_true, Quiet.{pending_now, pending_time, pending_triggered}}
use Rattle.lft_lists.proofs.{Places.get_there, Members.contains_mem}

-- no tag is before (0, 0)
pub none_before_first : (g h : Tag) → h ≡ record { time = 0; micro = 0 } → ¬ Before g h
none_before_first g h e (inl b) = absurd (let k : h.time ≡ 0 = ap (λ (z : Tag). z.time) e in omega arith)
none_before_first g h e (inr b) = absurd (let k : h.micro ≡ 0 = ap (λ (z : Tag). z.micro) e in let c = b.1 in omega arith)

-- a tag that is covered covers what is after it
pub covered_after : (found : Option Tag) (g h : Tag) → UpTo g h → IsFoundUpTo found g → IsFoundUpTo found h
covered_after found g h u o = (o.0, o.1, UpTo-trans o.0 g h o.2 u)

-- an event of the queue is one at its tag
pub value_there : (h : Tag) (n : Name) (v : Value) (q : List Pending) → value_of h n q ≡ Some v → (e : Pending) × Contains q e × (e.tag ≡ h)
value_there h n v [] z = absurd (cc)
value_there h n v (e ∷ q) z = go (same_key h n e.tag e.name) refl z (λ f. value_there h n v q f)
  where
    later : (d : Pending) × Contains q d × (d.tag ≡ h) → (d : Pending) × Contains (e ∷ q) d × (d.tag ≡ h)
    later o = let k : o.1.0 < length q = o.1.1 in (o.0, (suc o.1.0, omega arith, o.1.2), o.2)

    go : (b : Bool) → same_key h n e.tag e.name ≡ b → cond b (Some e.value) (value_of h n q) ≡ Some v → (value_of h n q ≡ Some v → (d : Pending) × Contains q d × (d.tag ≡ h)) → (d : Pending) × Contains (e ∷ q) d × (d.tag ≡ h)
    go true s f rest = (e, (0, omega arith, refl), sym (same_tag_true h e.tag (both_true (same_tag h e.tag) (same_name n e.name) s).0))
    go false s f rest = later (rest f)

pub later_event : (g : Tag) (q : List Pending) (e : Pending) → Contains (filter (λ d. is_after g d) q) e → Before g e.tag
later_event g q e c = before_test g e.tag (filter_mem (λ d. is_after g d) q e (contains_mem e (filter (λ d. is_after g d) q) c)).1

-- the events from a later tag on, without those that are past
pub dropped : (plan : PlanParts) (t : List Row) (from next last : Tag) (q : List Pending) → Before from next → HasEvents plan t from last None q → HasEvents plan t next last None (filter (λ e. is_after from e) q)
dropped plan t from next last q b is = record {
  values = λ h n v w c d e. subst (λ (o : Option Value). (o ≡ Some v) ↔ At plan t h n v) (sym (later_value from h n (Before-UpTo from next h b c) q)) (is.values h n v w (Before-weaken from h (Before-UpTo from next h b c)) d e);
  clean = λ h n d e. is.clean h n d e;
  found = λ c e. absurd (cc);
}

-- what occurs by the queue is what occurs by the rows
module _ (plan : PlanParts) (t : List Row) (last : Tag) (stop_is : last ≡ stop plan t) (q : List Pending) (h : Tag) (values : (n : Name) (v : Value) → IsWatchedName plan.program n → (value_of h n q ≡ Some v) ↔ At plan t h n v) where
  pub called : (r : ℕ) → Triggered plan t h r → TriggeredByQueue plan.program q last h r
  called r o = (o.trigger, go o.trigger (o.reaction, o.is_reaction, o.is_trigger) o.occurs, (o.reaction, o.is_reaction, o.is_trigger))
    where
      go : (x : Trigger) → IsListener plan.program x r → Occurs plan t h x → OccursBy plan.program q last h x
      go Startup l e = e
      go Shutdown l e = e ∙ sym stop_is
      go (Timer n) l e = e
      go (On n) l e = ap is_some ((values n e.0 (listened_watched plan.program n r l)).1 e.1)

  pub triggered : (r : ℕ) → TriggeredByQueue plan.program q last h r → Triggered plan t h r
  triggered r o = record { reaction = o.2.0; trigger = o.0; is_reaction = o.2.1; is_trigger = o.2.2; occurs = go o.0 o.2 o.1 }
    where
      go : (x : Trigger) → IsListener plan.program x r → OccursBy plan.program q last h x → Occurs plan t h x
      go Startup l e = e
      go Shutdown l e = e ∙ stop_is
      go (Timer n) l e = e
      go (On n) l e = let v = some_there (value_of h n q) e in (v.0, (values n v.0 (listened_watched plan.program n r l)).0 v.1)

-- the tag after which no row is, at which those that are triggered have been told, where all were idle
pub told_turn : (plan : PlanParts) (good : IsSoundPlan plan) (t : List Row) (so_far : SoFar plan t) (quiet : OnlyEndedAnswer t) (last : Tag) (stop_is : last ≡ stop plan t) (q : List Pending) (h : Tag) (u : UpTo h last) (values : (n : Name) (v : Value) → IsWatchedName plan.program n → (value_of h n q ≡ Some v) ↔ At plan t h n v) (none : (i : ℕ) (x : Row) → slice_get t i ≡ Some x → Before x.tag h) (old new : TurnParts) → IsGraphOf plan.program old.graph → length old.phases ≡ length plan.program.reactions → ((r : ℕ) (x : Phase) → slice_get old.phases r ≡ Some x → x ≡ Idle) → IsTold (TriggeredByQueue plan.program q last h) old new → IsTurnOf plan t h new
told_turn plan good t so_far quiet last stop_is q h u values none old new graph count idle told = record { graph = subst (λ (k : GraphParts). IsGraphOf plan.program k) (sym told.graph) graph; count = told.count ∙ count; phases = phases }
  where
    open_here : (r : ℕ) → Triggered plan t h r → IsPending plan (by_ends plan t) h r
    open_here r o = pending_now plan good t so_far quiet h r (subst (λ (k : Tag). UpTo h k) stop_is u) o (λ k. Before-irrefl h (none k.place (end_row k.worker h r) k.ends))

    unrun : (r : ℕ) → ¬ Ran t h r
    unrun r o = Before-irrefl h (none o.place (start_row o.worker h r) o.starts)

    was_idle : (r : ℕ) (x : Phase) → slice_get new.phases r ≡ Some x → slice_get old.phases r ≡ Some Idle
    was_idle r x e =
        let l : r < length new.phases = slice_get_within new.phases r x e in
        let k = get_there old.phases r (let c = told.count in omega arith) in
        k.1 ∙ ap Some (idle r k.0 k.1)

    waits : (r : ℕ) (x : Phase) → slice_get new.phases r ≡ Some x → (x ≡ Idle) ⊎ ((x ≡ Waiting) × TriggeredByQueue plan.program q last h r)
    waits r x e = told.only r x (was_idle r x e) e

    phases : (r : ℕ) (x : Phase) → slice_get new.phases r ≡ Some x → PhaseIs plan t h r x
    phases r Idle e = λ p. told.all r (called plan t last stop_is q h values r (pending_triggered plan good t so_far quiet h r p)) e
    phases r Waiting e = go (waits r Waiting e)
      where
        go : (Waiting ≡ Idle) ⊎ ((Waiting ≡ Waiting) × TriggeredByQueue plan.program q last h r) → IsPending plan (by_ends plan t) h r × (¬ Ran t h r)
        go (inl z) = absurd (cc)
        go (inr k) = (open_here r (triggered plan t last stop_is q h values r k.1), unrun r)
    phases r Open e = go (waits r Open e)
      where
        go : (Open ≡ Idle) ⊎ ((Open ≡ Waiting) × TriggeredByQueue plan.program q last h r) → IsPending plan (by_ends plan t) h r × Ran t h r
        go (inl z) = absurd (cc)
        go (inr k) = let z : Open ≡ Waiting = k.0 in absurd (cc)

-- from one tag on to the next
module _ (plan : PlanParts) (good : IsSoundPlan plan) (t : List Row) (last : Tag) (may : MayAdvance plan t last) (from : Tag) (turn : TurnParts) (q : List Pending) (is : IsReached plan t from last turn q) where
  -- where something waits at the tag, it is the least
  pub reached_current : (r : ℕ) → slice_get turn.phases r ≡ Some Waiting → IsCurrent plan t from last turn q
  reached_current r e = record { turn_is = is.turn_is; least = λ o. record { awaits = (r, pending_back plan good t may.so_far may.quiet from turn is.turn_is r (inl e)); least = is.least }; events = λ o. is.events }

  -- the events that are left where those up to the tag are taken out
  module _ (over : NonePending turn.phases) (rest : List Pending) (rest_is : rest ≡ filter (λ e. is_after from e) q) where
    -- what is pending is later than the tag
    all_later : (h : Tag) (r : ℕ) → IsPending plan (by_ends plan t) h r → Before from h
    all_later h r p = go (order_cases from h)
      where
        go : Before from h ⊎ UpTo h from → Before from h
        go (inl b) = b
        go (inr u) = absurd (none_waits plan good t may.so_far may.quiet from turn is.turn_is over (r, subst (λ (g : Tag). IsPending plan (by_ends plan t) g r) (UpTo_antisym h from u (is.least h r p)) p))

    early : (h : Tag) (r : ℕ) → IsPending plan (by_ends plan t) h r → UpTo h last
    early h r p = subst (λ (k : Tag). UpTo h k) (sym may.stop_is) (pending_time plan good t may.so_far may.quiet h r p)

    -- they have what is to happen from a later tag on
    has_rest : (next : Tag) → Before from next → HasEvents plan t next last None rest
    has_rest next b = subst (λ (es : List Pending). HasEvents plan t next last None es) (sym rest_is) (dropped plan t from next last q b is.events)

    -- and call what is pending
    pending_called : (h : Tag) (r : ℕ) → IsPending plan (by_ends plan t) h r → TriggeredByQueue plan.program rest last h r
    pending_called h r p = called plan t last may.stop_is rest h (λ n v w. (has_rest h (all_later h r p)).values h n v w (UpTo-refl h) (early h r p) tt) r (pending_triggered plan good t may.so_far may.quiet h r p)

    module _ (found : Option Tag) (covers : (h : Tag) (r : ℕ) → TriggeredByQueue plan.program rest last h r → Before from h → UpTo h last → IsFoundUpTo found h) where
      pending_covered : (h : Tag) (r : ℕ) → IsPending plan (by_ends plan t) h r → IsFoundUpTo found h
      pending_covered h r p = covers h r (pending_called h r p) (all_later h r p) (early h r p)

      -- no tag was found: nothing is left
      pub finished_current : found ≡ None → IsCurrent plan t from last turn rest
      finished_current none = record { turn_is = is.turn_is; least = λ o. absurd (nothing o); events = λ o. absurd (nothing o) }
        where
          nothing : ¬ SomethingLeft plan t
          nothing o = let k = pending_covered o.0 o.1 o.2 in let z : None ≡ Some k.0 = sym none ∙ k.1 in absurd (cc)

      -- a tag was found: it is reached, once those that are triggered there have been told
      pub moved_on : (next : Tag) (new : TurnParts) → found ≡ Some next → IsBetween from last next → IsTold (TriggeredByQueue plan.program rest last next) turn new → IsReached plan t next last new rest
      moved_on next new some between told = record {
        past = λ i x e. Before-weaken x.tag next (past i x e);
        least = λ h r p. (let k = pending_covered h r p in let z : Some next ≡ Some k.0 = sym some ∙ k.1 in let y : k.0 ≡ next = cc in subst (λ (g : Tag). UpTo g h) y k.2);
        turn_is = told_turn plan good t may.so_far may.quiet last may.stop_is rest next between.1 (λ n v w. (has_rest next between.0).values next n v w (UpTo-refl next) between.1 tt) past turn new is.turn_is.graph is.turn_is.count (all_idle plan good t may.so_far may.quiet from turn is.turn_is over) told;
        events = has_rest next between.0;
      }
        where
          past : (i : ℕ) (x : Row) → slice_get t i ≡ Some x → Before x.tag next
          past i x e = UpTo-Before x.tag from next (is.past i x e) between.0

-- the measure of a walk over tags up to the stop
pub nearer : (from next last : Tag) → from.micro < 4294967296 → IsBetween from last next → 4294967296 * (last.time - next.time) + (4294967296 - next.micro) < 4294967296 * (last.time - from.time) + (4294967296 - from.micro)
nearer from next last b (inl l, inl u) = omega arith
nearer from next last b (inl l, inr u) = let p = u.0 in omega arith
nearer from next last b (inr l, inl u) = let p = l.0 in let q = l.1 in omega arith
nearer from next last b (inr l, inr u) = let p = l.0 in let q = l.1 in let s = u.0 in omega arith

pub some_number : (o : Option ℕ) → is_some o ≡ true → (x : ℕ) × (o ≡ Some x)
some_number None e = absurd (cc)
some_number (Some x) e = (x, refl)
