-- The agenda once a run has been begun or ended.
use Rattle.std.proofs.Common.{◌≡◌, ℕ, ◌+◌, ◌<◌, ◌⊎◌, inl, inr, List, [], ◌∷◌, ◌++◌, length, refl, sym, ◌∙◌, subst, Option, Some, None, not, slice_get, slice_set}
use Rattle.std.specs.List.{filter}
use Rattle.lft_tag.{specs.{declared.Tag.Tag, Tags.UpTo}, proofs.Order.{UpTo-refl, UpTo-trans, UpTo_antisym, Before-weaken}}
use Rattle.lft_lists.proofs.{Members.{Mem, get_mem, mem_get}, Places.{get_append_cases, get_left}}
use Rattle.lft_ir.specs.declared.{parts.Value.Value, steps.row.{Row.Row, Step.Step}}
use Rattle.lft_queue.specs.Pending.{Pending}
use Rattle.lft_scheduler.specs.declared.turn.phase.Phase.TheVariants.{Idle, Waiting, Open}
use Rattle.lft_scheduler.specs.declared.open.OpenRun.{OpenRun}
use Rattle.lft_scheduler.specs.inner.{Turns.TurnParts, Events.HasEvents, OpenRuns.{AreOpen, is_run}, Waits.{IsLeastTag, IsTurnOf}}
use Rattle.lft_scheduler.specs.inner.Telling.{IsTold, TriggeredByWrites}
use Rattle.lft_scheduler.specs.inner.Agendas.{AgendaParts, IsOf, IsAgenda, IsCurrent, IsReached, MayAdvance, MayBegin, MayEnd, EndsWith}
use Rattle.lft_scheduler.specs.Starts.{IsAnyOpen}
use Rattle.lft_scheduler.proofs.{Keeping.{narrowed, begun_inert}, Awaiting.open_pending, Told.{waits_to, opens_to, at_least, some_run, no_run}}
use Rattle.lft_scheduler.proofs.{RunsOpen.{opened_at, begun_open, committed_open}, RunEnded.{its_row, quiet_more}, Turned.{begun_turn, ended_turn}}
use Rattle.lft_model.specs.{Plans.{PlanParts, IsSoundPlan}, Presence.stop, Runs.{Run, start_row, by_ends}, Breaches.IsOpen, OneWorker.{IsPending, Ready}}
use Rattle.lft_model.specs.Recorded.{SoFar, MayAnswer, begun_rows, committed_rows}
use Rattle.lft_model.proofs.{Places.slice_get_within, Stops.stop_append, Quiet.pending_time, Recording.rows_up_to, Begun.{same_stop, same_runs}}
use Rattle.lft_model.proofs.Committed.{now, up_to, its_time}

module _ (plan : PlanParts) (good : IsSoundPlan plan) (t : List Row) (w : ℕ) (g : Tag) (r : ℕ) (shown : List (Option Value)) (b : MayBegin plan t w g r shown) (a : AgendaParts) (is : IsAgenda plan t a) where
  early : UpTo g (stop plan t)
  early = pending_time plan good t b.so_far b.quiet g r b.may.ready.pending

  none_open : (h : Tag) (c : ℕ) → ¬ IsOpen t (length t) w h c
  none_open h c o = b.idle (h, c, o)

  same : by_ends plan (t ++ begun_rows plan w g r shown) ≡ by_ends plan t
  same = same_runs plan good t b.so_far w g r shown b.may.ready b.reads_are early b.may.fresh none_open

  least : IsLeastTag plan t a.from
  least = is.current.least (g, r, b.may.ready.pending)

  -- it may start at the agenda's tag, where it waits
  here : g ≡ a.from
  here = at_least plan good t b.so_far b.quiet a.from a.turn is.current.turn_is least g r b.may

  turn_here : IsTurnOf plan t g a.turn
  turn_here = subst (λ (k : Tag). IsTurnOf plan t k a.turn) (sym here) is.current.turn_is

  waiting : slice_get a.turn.phases r ≡ Some Waiting
  waiting = waits_to plan good t b.so_far b.quiet g a.turn turn_here r b.may.ready.pending b.may.fresh

  pub begun_agenda : (its : OpenRun) (new : TurnParts) → its ≡ record { worker = w; tag = g; reaction = r; reads = shown } → new.graph ≡ a.turn.graph → length new.phases ≡ length a.turn.phases → (slice_get a.turn.phases r ≡ Some Waiting → new.phases ≡ slice_set a.turn.phases r Open) → IsAgenda plan (t ++ begun_rows plan w g r shown) (record a { runs = a.runs ++ its ∷ []; turn = new })
  begun_agenda its new its_is graph count opens = record {
    runs = begun_open plan good t w g r shown b a.runs its its_is is.runs;
    stop_is = is.stop_is ∙ sym (same_stop plan good t b.so_far w g r shown b.may.ready b.reads_are early b.may.fresh none_open);
    of = record { listeners = is.of.listeners; arrivals = is.of.arrivals; phases = count ∙ is.of.phases; firings = is.of.firings; reached = is.of.reached; recorded = is.of.recorded };
    current = record {
      turn_is = subst (λ (k : Tag). IsTurnOf plan (t ++ begun_rows plan w g r shown) k new) here (begun_turn plan t w g r shown same b.may.ready.pending a.turn new turn_here graph (opens waiting) waiting);
      least = λ o. record { awaits = (least.awaits.0, subst (λ (us : List Run). IsPending plan us a.from least.awaits.0) (sym same) least.awaits.1); least = λ h c p. least.least h c (subst (λ (us : List Run). IsPending plan us h c) same p) };
      events = λ o. begun_inert plan t w g r shown a.from a.stop a.queue (is.current.events (g, r, b.may.ready.pending));
    };
  }

-- while a run is open, its tag is the least
pub open_current : (plan : PlanParts) (good : IsSoundPlan plan) (t : List Row) → SoFar plan t → (from last : Tag) (turn : TurnParts) (q : List Pending) → IsReached plan t from last turn q → IsAnyOpen t → IsCurrent plan t from last turn q
open_current plan good t so_far from last turn q is o = record { turn_is = is.turn_is; least = λ k. record { awaits = (o.1.1, subst (λ (h : Tag). IsPending plan (by_ends plan t) h o.1.1) same pending); least = is.least }; events = λ k. is.events }
  where
    pending : IsPending plan (by_ends plan t) o.1.0 o.1.1
    pending = open_pending plan good t so_far o.0 o.1.0 o.1.1 o.1.2

    same : o.1.0 ≡ from
    same = UpTo_antisym o.1.0 from (is.past o.1.2.start (start_row o.0 o.1.0 o.1.1) o.1.2.starts) (is.least o.1.0 o.1.1 pending)

module _ (plan : PlanParts) (good : IsSoundPlan plan) (t : List Row) (w : ℕ) (g : Tag) (r : ℕ) (steps : List Step) (b : MayEnd plan t w g r steps) (a : AgendaParts) (is : IsAgenda plan t a) (last : Tag) (last_is : last ≡ stop plan (t ++ committed_rows w g r steps)) where
  may : (s : Step) → Mem s steps → MayAnswer plan r s
  may s m = let p = get_mem s steps m in b.may p.0 s p.1

  ready : Ready plan (by_ends plan t) g r
  ready = (now plan good t b.so_far w g r b.open_run steps may).0

  least_tag : IsLeastTag plan t a.from
  least_tag = is.current.least (g, r, ready.pending)

  -- the run is at the agenda's tag, and open there
  here_run : g ≡ a.from
  here_run = UpTo_antisym g a.from (ready.least a.from least_tag.awaits.0 least_tag.awaits.1) (least_tag.least g r ready.pending)

  turn_now : IsTurnOf plan t g a.turn
  turn_now = subst (λ (k : Tag). IsTurnOf plan t k a.turn) (sym here_run) is.current.turn_is

  opened : slice_get a.turn.phases r ≡ Some Open
  opened = opens_to plan good t b.so_far b.quiet g a.turn turn_now r ready.pending (opened_at t w g r b.open_run)

  -- the run is up to the new stop, and the queue has the events from its tag on
  pub its_end : UpTo g last
  its_end = subst (λ (k : Tag). UpTo g k) (sym last_is) (its_time plan good t b.so_far w g r b.open_run steps may)

  pub from_here : HasEvents plan t g last None a.queue
  from_here = narrowed plan t a.from g a.stop last a.queue (least_tag.least g r ready.pending) (subst (λ (k : Tag). UpTo k a.stop) (sym last_is) (subst (λ (k : Tag). UpTo (stop plan (t ++ committed_rows w g r steps)) k) (sym is.stop_is) (stop_append plan t (committed_rows w g r steps)))) (is.current.events (g, r, ready.pending))

  -- the runs that are left are those that are open
  pub open_left : AreOpen plan (t ++ committed_rows w g r steps) (filter (λ o. not (is_run w g r o)) a.runs)
  open_left = committed_open plan good t w g r steps b a.runs is.runs

  module _ (told new : TurnParts) (telling : IsTold (TriggeredByWrites plan.program g steps) a.turn told) (graph : new.graph ≡ told.graph) (ends : slice_get told.phases r ≡ Some Open → new.phases ≡ slice_set told.phases r Idle) (q : List Pending) (has : HasEvents plan (t ++ committed_rows w g r steps) g last None q) (so_far : SoFar plan (t ++ committed_rows w g r steps)) where
    still : slice_get told.phases r ≡ Some Open
    still = telling.kept r Open (λ z. absurd (cc)) opened

    reached : IsReached plan (t ++ committed_rows w g r steps) g last new q
    reached = record {
      past = λ i x e. past i x (get_append_cases t (committed_rows w g r steps) i x e);
      least = λ h c p. rows_up_to plan good (t ++ committed_rows w g r steps) so_far h c p b.open_run.start (start_row w g r) (get_left t (committed_rows w g r steps) b.open_run.start (start_row w g r) b.open_run.starts);
      turn_is = ended_turn plan good t w g r steps b so_far a.turn told new turn_now telling graph (ends still) (slice_get_within told.phases r Open still);
      events = has;
    }
      where
        past : (i : ℕ) (x : Row) → (slice_get t i ≡ Some x) ⊎ ((j : ℕ) × (i ≡ length t + j) × (slice_get (committed_rows w g r steps) j ≡ Some x)) → UpTo x.tag g
        past i x (inl e) = up_to plan good t b.so_far w g r b.open_run steps may i x e
        past i x (inr e) = subst (λ (k : Tag). UpTo k g) (sym (its_row plan good t w g r steps b x (mem_get (committed_rows w g r steps) e.0 x e.2)).0) (UpTo-refl g)

    pub ended_reached : IsReached plan (t ++ committed_rows w g r steps) a.from last new q
    ended_reached = subst (λ (k : Tag). IsReached plan (t ++ committed_rows w g r steps) k last new q) here_run reached

    -- where no run is left the agenda may go on
    pub may_go_on : length (filter (λ o. not (is_run w g r o)) a.runs) ≡ 0 → MayAdvance plan (t ++ committed_rows w g r steps) last
    may_go_on none = record { so_far = so_far; quiet = quiet_more plan good t w g r steps b; stop_is = last_is; none_open = no_run plan (t ++ committed_rows w g r steps) (filter (λ o. not (is_run w g r o)) a.runs) open_left none }

    -- else it stays
    pub stays_current : 0 < length (filter (λ o. not (is_run w g r o)) a.runs) → IsCurrent plan (t ++ committed_rows w g r steps) a.from last new q
    stays_current some = open_current plan good (t ++ committed_rows w g r steps) so_far a.from last new q ended_reached (some_run plan (t ++ committed_rows w g r steps) (filter (λ o. not (is_run w g r o)) a.runs) open_left some)

  pub ended_agenda : (clash : Option Tag) (q : List Pending) (new : AgendaParts) → HasEvents plan (t ++ committed_rows w g r steps) g last clash q → new.runs ≡ filter (λ o. not (is_run w g r o)) a.runs → new.stop ≡ last → IsOf plan.program new → (clash ≡ None → SoFar plan (t ++ committed_rows w g r steps) → IsCurrent plan (t ++ committed_rows w g r steps) new.from new.stop new.turn new.queue) → EndsWith plan t w g r steps new clash
  ended_agenda (Some h) q new has runs stops of current =
      let f = has.found h refl in
      record {
        in_time = subst (λ (k : Tag). UpTo h k) last_is f.1;
        collides = f.2;
        least = λ k before c. has.clean k c.0 (UpTo-trans k h last (Before-weaken k h before) f.1) before c.1;
      }
  ended_agenda None q new has runs stops of current = (
    λ k u c. has.clean k c.0 (subst (λ (h : Tag). UpTo k h) (sym last_is) u) tt c.1,
    λ so_far. record {
      runs = subst (λ (os : List OpenRun). AreOpen plan (t ++ committed_rows w g r steps) os) (sym runs) open_left;
      stop_is = stops ∙ last_is;
      of = of;
      current = current refl so_far;
    },
  )
