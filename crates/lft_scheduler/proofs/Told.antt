-- What the turn of a tag says of the reactions there; of the least tag it says what may start next.
use Rattle.std.proofs.Common.{◌≡◌, ℕ, ◌<◌, inl, inr, List, length, refl, subst, arith, Some, slice_get}
use Rattle.lft_tag.{specs.declared.Tag.Tag, proofs.Order.UpTo_antisym}
use Rattle.lft_ir.specs.declared.steps.row.Row.{Row}
use Rattle.lft_lists.proofs.Places.{get_there}
use Rattle.lft_model.proofs.Places.{slice_get_within}
use Rattle.lft_model.specs.{Plans.{PlanParts, IsSoundPlan}, Runs.{Ran, by_ends}, OneWorker.IsPending, Recorded.{SoFar, OnlyEndedAnswer}}
use Rattle.lft_scheduler.specs.declared.turn.phase.Phase.{Phase, TheVariants.{Idle, Waiting, Open}}
use Rattle.lft_scheduler.specs.declared.open.OpenRun.{OpenRun}
use Rattle.lft_scheduler.specs.inner.{Turns.{TurnParts, IsReady, IsLeastReady, NoRunOpen, NonePending, IsPhasePending as IsBusyThere}, OpenRuns.AreOpen}
use Rattle.lft_scheduler.specs.inner.{Waits.{Awaits, IsLeastTag, PhaseIs, IsTurnOf}, Agendas.{AgendaParts, IsAgenda, MayFind}}
use Rattle.lft_scheduler.specs.Starts.{MayStart, MayStartFirst, NoneMayStart, NothingLeft, IsAnyOpen}
use Rattle.lft_scheduler.proofs.Awaiting.{pending_within, ran_open, any_left}

-- the runs that are kept are all that are open
pub some_run : (plan : PlanParts) (t : List Row) (runs : List OpenRun) → AreOpen plan t runs → 0 < length runs → IsAnyOpen t
some_run plan t runs is l = let o = get_there runs 0 l in (o.0.worker, (o.0.tag, o.0.reaction, (is.each 0 o.0 o.1).0))

pub no_run : (plan : PlanParts) (t : List Row) (runs : List OpenRun) → AreOpen plan t runs → length runs ≡ 0 → ¬ IsAnyOpen t
no_run plan t runs is none o =
    let q = is.all o.0 o.1.0 o.1.1 o.1.2 in
    let l : q.0 < length runs = slice_get_within runs q.0 q.1 q.2 in
    omega arith

module _ (plan : PlanParts) (good : IsSoundPlan plan) (t : List Row) (so_far : SoFar plan t) (quiet : OnlyEndedAnswer t) (g : Tag) (turn : TurnParts) (is : IsTurnOf plan t g turn) where
  -- waiting there is pending without a run
  pub waits : (r : ℕ) → slice_get turn.phases r ≡ Some Waiting → IsPending plan (by_ends plan t) g r × (¬ Ran t g r)
  waits r e = is.phases r Waiting e

  pub pending_back : (r : ℕ) → IsBusyThere turn.phases r → IsPending plan (by_ends plan t) g r
  pending_back r (inl e) = (is.phases r Waiting e).0
  pending_back r (inr e) = (is.phases r Open e).0

  at_phase : (r : ℕ) → IsPending plan (by_ends plan t) g r → (x : Phase) × (slice_get turn.phases r ≡ Some x)
  at_phase r p = get_there turn.phases r (let c = is.count in let l = pending_within plan good t so_far quiet g r p in omega arith)

  pub pending_to : (r : ℕ) → IsPending plan (by_ends plan t) g r → IsBusyThere turn.phases r
  pending_to r p = let k = at_phase r p in go k.0 k.1 (is.phases r k.0 k.1)
    where
      go : (x : Phase) → slice_get turn.phases r ≡ Some x → PhaseIs plan t g r x → IsBusyThere turn.phases r
      go Idle e h = absurd (h p)
      go Waiting e h = inl e
      go Open e h = inr e

  pub waits_to : (r : ℕ) → IsPending plan (by_ends plan t) g r → ¬ Ran t g r → slice_get turn.phases r ≡ Some Waiting
  waits_to r p n = let k = at_phase r p in go k.0 k.1 (is.phases r k.0 k.1)
    where
      go : (x : Phase) → slice_get turn.phases r ≡ Some x → PhaseIs plan t g r x → slice_get turn.phases r ≡ Some Waiting
      go Idle e h = absurd (h p)
      go Waiting e h = e
      go Open e h = absurd (n h.1)

  pub opens_to : (r : ℕ) → IsPending plan (by_ends plan t) g r → Ran t g r → slice_get turn.phases r ≡ Some Open
  opens_to r p o = let k = at_phase r p in go k.0 k.1 (is.phases r k.0 k.1)
    where
      go : (x : Phase) → slice_get turn.phases r ≡ Some x → PhaseIs plan t g r x → slice_get turn.phases r ≡ Some Open
      go Idle e h = absurd (h p)
      go Waiting e h = absurd (h.1 o)
      go Open e h = e

  -- where no run is open, none is open there
  pub none_open_there : ¬ IsAnyOpen t → NoRunOpen turn.phases
  none_open_there n r e = let h : PhaseIs plan t g r Open = is.phases r Open e in n (ran_open plan good t so_far quiet g r h.0 h.1)

  -- where none is pending there, all are idle
  pub none_waits : NonePending turn.phases → ¬ Awaits plan t g
  none_waits none o = none o.0 (pending_to o.0 o.1)

  pub all_idle : NonePending turn.phases → (r : ℕ) (x : Phase) → slice_get turn.phases r ≡ Some x → x ≡ Idle
  all_idle none r x e = go x e
    where
      go : (y : Phase) → slice_get turn.phases r ≡ Some y → y ≡ Idle
      go Idle f = refl
      go Waiting f = absurd (none r (inl f))
      go Open f = absurd (none r (inr f))

  module _ (least : IsLeastTag plan t g) where
    -- what may start does so at the least tag
    pub at_least : (h : Tag) (a : ℕ) → MayStart plan t h a → h ≡ g
    at_least h a m = UpTo_antisym h g (m.ready.least g least.awaits.0 least.awaits.1) (least.least h a m.ready.pending)

    pub ready_there : (h : Tag) (a : ℕ) → MayStart plan t h a → IsReady plan.program turn.phases a
    ready_there h a m = here (subst (λ (k : Tag). MayStart plan t k a) (at_least h a m) m)
      where
        here : MayStart plan t g a → IsReady plan.program turn.phases a
        here n = record { waiting = waits_to a n.ready.pending n.fresh; none_before = λ b p q. n.ready.none_before b p (pending_back b q) }

    pub starts_first : (r : ℕ) → IsLeastReady plan.program turn.phases r → MayStartFirst plan t g r
    starts_first r first =
        let w = waits r first.ready.waiting in
        record {
          may = record { ready = record { pending = w.0; least = least.least; none_before = λ a p q. first.ready.none_before a p (pending_to a q) }; fresh = w.1 };
          least = λ h a m. first.least a (ready_there h a m);
        }

    pub none_starts : ((r : ℕ) → ¬ IsReady plan.program turn.phases r) → NoneMayStart plan t
    none_starts none h a m = none a (ready_there h a m)

-- what the agenda of the rows finds
module _ (plan : PlanParts) (t : List Row) (may : MayFind plan t) (a : AgendaParts) (is : IsAgenda plan t a) where
  pub finds_ready : (r : ℕ) → IsLeastReady plan.program a.turn.phases r → MayStartFirst plan t a.from r
  finds_ready r first =
      let w = waits plan may.sound t may.so_far may.quiet a.from a.turn is.current.turn_is r first.ready.waiting in
      starts_first plan may.sound t may.so_far may.quiet a.from a.turn is.current.turn_is (is.current.least (a.from, r, w.0)) r first

  pub finds_blocked : ((r : ℕ) → ¬ IsReady plan.program a.turn.phases r) → IsAnyOpen t → NoneMayStart plan t × IsAnyOpen t
  finds_blocked none o = (none_starts plan may.sound t may.so_far may.quiet a.from a.turn is.current.turn_is (is.current.least (any_left plan may.sound t may.so_far o)) none, o)

  pub finds_nothing : (NoRunOpen a.turn.phases → NonePending a.turn.phases) → ¬ IsAnyOpen t → NothingLeft plan t
  finds_nothing over n h r p =
      let least = is.current.least (h, r, p) in
      none_waits plan may.sound t may.so_far may.quiet a.from a.turn is.current.turn_is (over (none_open_there plan may.sound t may.so_far may.quiet a.from a.turn is.current.turn_is n)) least.awaits
