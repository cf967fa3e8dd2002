-- What rows give a port or an action at a tag, and that it is present there.
use Rattle.std.proofs.Common.{◌≡◌, ℕ, ◌+◌, ◌-◌, ◌*◌, ◌/◌, ◌%◌, ◌<◌, ◌≤◌, ◌⊎◌, inl, inr, List, length, refl, sym, ap, ◌∙◌, subst, arith, Option, Some, None, slice_get}
use Rattle.std.proofs.lemmas.{Bool.{eq-eqb, cases_lt}, Nat.div-add-mod'}
use Rattle.lft_lists.proofs.Members.{last_by_place}
use Rattle.lft_tag.{specs.{declared.Tag.Tag, Tags.{Before, after}, Shifts.shifted}, proofs.{Order.{Before-irrefl, same_tag_refl}, Chains.tag_of as tag_from}}
use Rattle.lft_ir.specs.Parts.{Parts}
use Rattle.lft_ir.specs.declared.parts.{Port.Port as PortOf, Value.Value, Name.TheVariants.{Port, Action}, Timer.Timer as TimerOf}
use Rattle.lft_ir.specs.declared.parts.Trigger.{Trigger, TheVariants.{On, Timer}}
use Rattle.lft_ir.specs.declared.steps.row.{Row.Row, Step.{Step, TheVariants.{Start, Read, Write, Schedule, Stop, End}}}
use Rattle.lft_ir.specs.Steps.Fits.{RowsFit}
use Rattle.lft_ir.proofs.Origins.{origin_inside}
use Rattle.lft_model.specs.Plans.{PlanParts}
use Rattle.lft_model.specs.Presence.{value_written, value_scheduled, written, scheduled, given, min_delay, IsWrittenFrom, IsPresent, Fires, Occurs}
use Rattle.lft_model.proofs.{Places.slice_get_within, ActionEvents.{at_row, at_event}, Firings.{time_of, again_fires}}
use Rattle.lft_model.proofs.{Ended.{written_by, by_written, by_scheduled, scheduled_by}, Steps.{written_some, some_written, scheduled_some, some_scheduled}}
use Rattle.lft_rows.specs.declared.presence.causes.EventCause.{EventCause as Event}
use Rattle.lft_rows.specs.inner.Presence.Causes.{tag_of, cause as cause_of, ComesUpTo, Leads, IsLastCause, IsCause, Carries, step_cause}
use Rattle.lft_rows.proofs.PresenceLemmas.Presences.{ChainOf, port_cause, action_cause, carrier, row_of, event_of, step_place, step_schedules, none_leads}
use Rattle.lft_facts.specs.{declared.facts.Cause.Cause, Facts.{CauseHolds as IsFactCause, IsWrittenIn, IsScheduledIn, IsGiven, FiresAfter}}
use Rattle.lft_facts.specs.inner.Enough.{GivesTrigger}
use Rattle.lft_facts.specs.declared.facts.Cause.TheVariants as cause

-- the row is the last that writes the origin at its tag, so the port has an event from there
pub written_from : (plan : PlanParts) (t : List Row) (g : Tag) (p i : ℕ) (w : IsWrittenIn plan t g p i) → IsWrittenFrom plan t g p w.row.tag w.value
written_from plan t g p i w = record { origin = w.origin; delays = w.delays; is_origin = w.is_origin; arrives = w.arrives; is_last = last_by_place (written w.row.tag w.origin) t w.value (record { place = i; item = w.row; is_item = w.is_row; gives = by_written w.row.tag w.origin w.row w.value refl (ap (value_written w.origin) w.writes ∙ some_written w.origin w.value); none_after = none_after }) }
  where
    none_after : (j : ℕ) (y : Row) → i < j → slice_get t j ≡ Some y → written w.row.tag w.origin y ≡ None
    none_after j y l e = go (written w.row.tag w.origin y) refl
      where
        go : (o : Option Value) → written w.row.tag w.origin y ≡ o → written w.row.tag w.origin y ≡ None
        go None z = z
        go (Some v) z = let q = written_by w.row.tag w.origin y v z in let n : None ≡ Some v = sym (w.last j y l e q.0) ∙ q.1 in absurd (cc)

pub written_gives : (g : Tag) (p i : ℕ) → GivesTrigger (cause.Written g p i) g (On (Port p))
written_gives g p i plan t w = (w.value, (w.row.tag, written_from plan t g p i w))

-- the row schedules the action for the tag
pub scheduled_at : (plan : PlanParts) (t : List Row) (g : Tag) (a i : ℕ) (s : IsScheduledIn plan t g a i) → scheduled g a (min_delay plan.program a) s.row ≡ Some s.value
scheduled_at plan t g a i s = by_scheduled g a (min_delay plan.program a) s.row s.value (record { extra = s.extra; arrives = s.arrives; value_is = ap (value_scheduled a) s.schedules ∙ some_scheduled a s.extra s.value })

-- the external event gives the action one at the tag
pub given_at : (plan : PlanParts) (g : Tag) (a i : ℕ) (s : IsGiven plan g a i) → given g a s.event ≡ Some s.event.value
given_at plan g a i s = rw (same_tag_refl g s.event.tag (sym s.tag_is), eq-eqb a s.event.action (sym s.action_is)) refl

pub scheduled_gives : (g : Tag) (a i : ℕ) → GivesTrigger (cause.Scheduled g a i) g (On (Action a))
scheduled_gives g a i plan t s = (s.value, at_row plan t g a i s.row (Some s.value) s.is_row (sym (scheduled_at plan t g a i s)))

pub given_gives : (g : Tag) (a i : ℕ) → GivesTrigger (cause.Given g a i) g (On (Action a))
given_gives g a i plan t s = (s.event.value, at_event plan t g a i s.event (Some s.event.value) s.is_event (sym (given_at plan g a i s)))

-- a write is a cause of the port that it names, at its tag
is_write : (program : Parts) (g : Tag) (i : ℕ) (s : Step) (c : Event) (p : ℕ) → p < length program.ports → step_cause program g i s ≡ Some c → c.name ≡ p → (v : Value) × (s ≡ Write (Port p) v) × (tag_of c ≡ g)
is_write program g i Start c p l e q = absurd (cc)
is_write program g i (Read n w) c p l e q = absurd (cc)
is_write program g i (Write (Port o) w) c p l e q = let x : cause_of o g i ≡ c = cc in let y : o ≡ p = ap (λ (z : Event). z.name) x ∙ q in (w, ap (λ k. Write (Port k) w) y, ap tag_of (sym x))
is_write program g i (Write (Action a) w) c p l e q = absurd (cc)
is_write program g i (Schedule (Port o) w d) c p l e q = absurd (cc)
is_write program g i (Schedule (Action a) w d) c p l e q = let x : cause_of (length program.ports + a) (after g (min_delay program a + d)) i ≡ c = cc in let y : length program.ports + a ≡ p = ap (λ (z : Event). z.name) x ∙ q in absurd (omega arith)
is_write program g i Stop c p l e q = absurd (cc)
is_write program g i End c p l e q = absurd (cc)

-- a cause of the origin that leads to the tag, the last of its own tag, is the row that gives the port its event
module _ (plan : PlanParts) (t : List Row) (g : Tag) (p : ℕ) (port : PortOf) (chain : ChainOf plan.program p port) where
  pub written_in : (c : Event) → IsCause plan t c → Leads port.origin (port.shift.time, port.shift.steps) g c → ((d : Event) → IsCause plan t d → d.name ≡ port.origin → tag_of d ≡ tag_of c → ComesUpTo d c) → IsWrittenIn plan t g p c.place
  written_in c (inr x) l last = let y : length plan.program.ports + x.event.action ≡ port.origin = ap (λ (z : Event). z.name) x.gives ∙ l.0 in let m : port.origin < length plan.program.ports = origin_inside chain.is_origin in absurd (omega arith)
  written_in c (inl x) l last = record { row = x.row; value = w.0; origin = port.origin; delays = chain.delays; is_row = ap (slice_get t) place ∙ x.is_row; writes = w.1; last = none_after; is_origin = chain.is_origin; arrives = sym (chain.leads x.row.tag) ∙ ap (λ (k : Tag). shifted k (port.shift.time, port.shift.steps)) (sym w.2) ∙ l.1 }
    where
      w : (v : Value) × (x.row.step ≡ Write (Port port.origin) v) × (tag_of c ≡ x.row.tag)
      w = is_write plan.program x.row.tag x.place x.row.step c port.origin (origin_inside chain.is_origin) x.gives l.0

      place : c.place ≡ x.place
      place = step_place plan.program x.row.tag x.place x.row.step c x.gives

      none_after : (j : ℕ) (other : Row) → c.place < j → slice_get t j ≡ Some other → other.tag ≡ x.row.tag → value_written port.origin other.step ≡ None
      none_after j other m e same = go (value_written port.origin other.step) refl
        where
          not_up : ComesUpTo (cause_of port.origin other.tag j) c → ⊥
          not_up (inl a) = let b : port.origin < c.name = a in let d : c.name ≡ port.origin = l.0 in omega arith
          not_up (inr (a, inl b)) = Before-irrefl (tag_of c) (subst (λ (z : Tag). Before z (tag_of c)) (same ∙ sym w.2) b)
          not_up (inr (a, inr b)) = let d : j ≤ c.place = b.1 in omega arith

          go : (o : Option Value) → value_written port.origin other.step ≡ o → value_written port.origin other.step ≡ None
          go None z = z
          go (Some v) z = absurd (not_up (last (cause_of port.origin other.tag j) (inl (record { place = j; row = other; is_row = e; gives = ap (step_cause plan.program other.tag j) (written_some port.origin other.step v z) })) refl (same ∙ sym w.2)))

  pub last_written : (c : Event) → IsLastCause plan t port.origin (port.shift.time, port.shift.steps) g (Some c) → IsWrittenIn plan t g p c.place
  last_written c h = written_in c h.0 h.1 (λ x i n s. h.2 x i (n, ap (λ (k : Tag). shifted k (port.shift.time, port.shift.steps)) s ∙ h.1.1))

  pub none_written : IsLastCause plan t port.origin (port.shift.time, port.shift.steps) g None → ¬ IsPresent plan t g (Port p)
  none_written h x = let c = port_cause plan t g p port chain x in h c.0 c.1 c.2

-- a row of which something is scheduled for the action
pub scheduled_in : (plan : PlanParts) (t : List Row) (g : Tag) (a i : ℕ) (row : Row) (v : Value) → slice_get t i ≡ Some row → scheduled g a (min_delay plan.program a) row ≡ Some v → IsScheduledIn plan t g a i
scheduled_in plan t g a i row v is e =
    let s = scheduled_by g a (min_delay plan.program a) row v e in
    record { row = row; value = v; extra = s.extra; is_row = is; schedules = scheduled_some a row.step (s.extra, v) s.value_is; arrives = s.arrives }

-- a cause that leads to the tag of an action is a row that schedules it there, or past the rows an external event
module _ (plan : PlanParts) (t : List Row) (fit : RowsFit plan.program t) (g : Tag) (a : ℕ) (c : Event) (is : IsCause plan t c) (l : Leads (length plan.program.ports + a) (0, 0) g c) where
  there : tag_of c ≡ g
  there = sym (none_leads (tag_of c)) ∙ l.1

  pub scheduled_place : c.place < length t → IsScheduledIn plan t g a c.place
  scheduled_place m = go (carrier plan t c is)
    where
      go : (v : Value) × Carries plan t c (Some v) → IsScheduledIn plan t g a c.place
      go (v, inl x) = scheduled_in plan t g a c.place x.0 v x.1 (by_scheduled g a (min_delay plan.program a) x.0 v (step_schedules plan.program g x.0.tag c.place x.0.step c a v (fit.each c.place x.0 x.1).step (row_of plan t c x.0 is x.1) l.0 there (sym x.2)))
      go (v, inr x) = let e : length t + x.0 ≡ c.place = x.2 in absurd (omega arith)

  pub given_place : length t ≤ c.place → IsGiven plan g a (c.place - length t)
  given_place m = go (carrier plan t c is)
    where
      go : (v : Value) × Carries plan t c (Some v) → IsGiven plan g a (c.place - length t)
      go (v, inl x) = let e : c.place < length t = slice_get_within t c.place x.0 x.1 in absurd (omega arith)
      go (v, inr x) =
          let q = event_of plan t c x.0 x.1 is x.2 x.3 in
          let e : length t + x.0 ≡ c.place = x.2 in
          let i : c.place - length t ≡ x.0 = omega arith in
          let y : length plan.program.ports + x.1.action ≡ length plan.program.ports + a = ap (λ (z : Event). z.name) q ∙ l.0 in
          record { event = x.1; is_event = ap (slice_get plan.externals.events) i ∙ x.3; tag_is = ap tag_of q ∙ there; action_is = omega arith }

  -- what is told of its place holds, and gives the action an event
  module _ (f : Cause) (row : c.place < length t → f ≡ cause.Scheduled g a c.place) (event : length t ≤ c.place → f ≡ cause.Given g a (c.place - length t)) where
    pub action_holds : IsFactCause plan t f
    action_holds = go (cases_lt c.place (length t))
      where
        go : (c.place < length t) ⊎ (length t ≤ c.place) → IsFactCause plan t f
        go (inl m) = subst (λ (z : Cause). IsFactCause plan t z) (sym (row m)) (scheduled_place m)
        go (inr m) = subst (λ (z : Cause). IsFactCause plan t z) (sym (event m)) (given_place m)

pub action_gives : (n g_place : ℕ) (g : Tag) (a : ℕ) (f : Cause) → (g_place < n → f ≡ cause.Scheduled g a g_place) → (n ≤ g_place → f ≡ cause.Given g a (g_place - n)) → GivesTrigger f g (On (Action a))
action_gives n k g a f row event = go (cases_lt k n)
  where
    go : (k < n) ⊎ (n ≤ k) → GivesTrigger f g (On (Action a))
    go (inl m) = subst (λ (z : Cause). GivesTrigger z g (On (Action a))) (sym (row m)) (scheduled_gives g a k)
    go (inr m) = subst (λ (z : Cause). GivesTrigger z g (On (Action a))) (sym (event m)) (given_gives g a (k - n))

pub none_acting : (plan : PlanParts) (t : List Row) → RowsFit plan.program t → (g : Tag) (a : ℕ) → IsLastCause plan t (length plan.program.ports + a) (0, 0) g None → ¬ IsPresent plan t g (Action a)
none_acting plan t fit g a h x = let c = action_cause plan t fit g a x in h c.0 c.1 c.2

-- how many periods after its offset a timer fires
pub fires_after : (plan : PlanParts) (program : Parts) → program ≡ plan.program → (g : Tag) (n : ℕ) (timer : TimerOf) → slice_get program.timers n ≡ Some timer → Fires timer g → ¬ (timer.period ≡ 0) → FiresAfter plan.program g n ((g.time - timer.offset) / timer.period)
fires_after plan program same g n timer is f some = record { timer = timer; is_timer = subst (λ (z : Parts). slice_get z.timers n ≡ Some timer) same is; at = tag_from (by ((g.time - timer.offset) / timer.period) split) now.1; once = λ e. absurd (some e) }
  where
    now : (g.time ≡ timer.offset + f.0 * timer.period) × (g.micro ≡ 0)
    now = time_of g (timer.offset + f.0 * timer.period) f.1

    split : ((g.time - timer.offset) / timer.period) * timer.period + (g.time - timer.offset) % timer.period ≡ g.time - timer.offset
    split = div-add-mod' (g.time - timer.offset) timer.period

    by : (q : ℕ) → q * timer.period + (g.time - timer.offset) % timer.period ≡ g.time - timer.offset → g.time ≡ timer.offset + q * timer.period
    by q e = let m : (g.time - timer.offset) % timer.period ≡ 0 = again_fires timer g some f in let t : g.time ≡ timer.offset + f.0 * timer.period = now.0 in omega arith

-- a timer that fires so many periods after its offset fires
pub not_firing : (plan : PlanParts) (t : List Row) (g : Tag) (n : ℕ) (x : Trigger) → x ≡ Timer n → ((count : ℕ) → ¬ FiresAfter plan.program g n count) → ¬ Occurs plan t g x
not_firing plan t g n x is none o =
    let p = subst (λ (y : Trigger). Occurs plan t g y) is o in
    none p.2.0 (record { timer = p.0; is_timer = p.1; at = p.2.1; once = p.2.2 })
