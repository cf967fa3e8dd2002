-- What is kept shows that nothing is broken before the tag that it has come to.
use Rattle.std.proofs.Common.{◌≡◌, ℕ, ◌<◌, inl, inr, List, refl, sym, ap, ◌∙◌, subst, arith, Option, Some, None, slice_get, filter_map, Contains, ⊎_elim}
use native.Mathlib.Decide.{dec_lt}
use Rattle.lft_tag.{specs.{declared.Tag.Tag, Tags.{Before, UpTo}}, proofs.Order.{Before-UpTo, UpTo-Before}}
use Rattle.lft_lists.proofs.Places.{get_there, at_contains, contains_at, same_some}
use Rattle.lft_ir.specs.declared.parts.{Name.{Name, TheVariants.{Port, Action}}, Reaction.Reaction}
use Rattle.lft_ir.specs.declared.parts.{Trigger.{Trigger, TheVariants.{Startup, Shutdown, Timer, On}}, Timer.Timer as TimerOf}
use Rattle.lft_ir.specs.declared.steps.row.Row.{Row}
use Rattle.lft_model.specs.{Plans.PlanParts, Presence.{stop, Fires, Occurs, Triggered, ClashesAt}, Runs.Ran, Breaches.{BreaksTagUntil, BreaksAtUntil}}
use Rattle.lft_model.proofs.Places.{slice_get_within}
use Rattle.lft_stream.specs.declared.due.Due.{Due, TheVariants.{AtTag, AtStop, Never}}
use Rattle.lft_stream.specs.inner.{Dues.{firing, IsNextFiring, IsDue, timed, AreDueOf, IsDueBefore}, Streams.{State, IsStream}}
use Rattle.lft_stream.proofs.Owing.{due_occurs, firing_up, timed_there, timed_from}
use Rattle.lft_rows.{specs.inner.Presence.Needed.StandsFor, proofs.PresenceLemmas.Needing.{needed_triggers, stands_occurs}}
use Rattle.lft_queue.specs.inner.Coming.Listens.{Listens}
use Rattle.lft_monitor.specs.{Sure.IsUnbroken, inner.Timely.{HasComeTo, TimelyLaw, OverdueLaw}}

-- a timer that isn't due before low is met before it
firing_met : (t : List Row) (r : ℕ) (timer : TimerOf) (due : Due) (last low h : Tag) → IsNextFiring t r timer due → ¬ IsDueBefore last low due → Before h low → Fires timer h → Ran t h r
firing_met t r timer (AtTag g period) last low h next free before f = subst (λ (k : Tag). Ran t k r) (sym f.1) (next.1 f.0 (go (dec_lt f.0 next.0)))
  where
    go : Dec (f.0 < next.0) → f.0 < next.0
    go (yes l) = l
    go (no n) =
        let a : UpTo (firing timer next.0) (firing timer f.0) = firing_up timer next.0 f.0 (omega arith) in
        let b : UpTo g h = subst (λ (k : Tag). UpTo k h) (sym next.2) (subst (λ (k : Tag). UpTo (firing timer next.0) k) (sym f.1) a) in
        absurd (free (UpTo-Before g h low b before))
firing_met t r timer AtStop last low h next free before f = absurd next
firing_met t r timer Never last low h next free before f = subst (λ (k : Tag). Ran t k r) (sym (f.1 ∙ ap (λ (k : ℕ). firing timer k) (f.2 next.0))) next.1

-- so is each trigger that waits for no event
due_met : (plan : PlanParts) (t : List Row) (low : Tag) (r : ℕ) (x : Trigger) (due : Due) → timed x ≡ Some x → IsDue plan t r x due → ¬ IsDueBefore (stop plan t) low due → (h : Tag) → Before h low → Occurs plan t h x → Ran t h r
due_met plan t low r Startup (AtTag g period) timed is free h before o = absurd (free (subst (λ (k : Tag). Before k low) (o ∙ sym is.0) before))
due_met plan t low r Startup AtStop timed is free h before o = absurd is
due_met plan t low r Startup Never timed is free h before o = subst (λ (k : Tag). Ran t k r) (sym o) is
due_met plan t low r Shutdown (AtTag g period) timed is free h before o = absurd is
due_met plan t low r Shutdown AtStop timed is free h before o = absurd (free (subst (λ (k : Tag). Before k low) o before))
due_met plan t low r Shutdown Never timed is free h before o = subst (λ (k : Tag). Ran t k r) (sym o) is
due_met plan t low r (Timer n) due timed is free h before o = firing_met t r is.0 due (stop plan t) low h is.2 free before (subst (λ (z : TimerOf). Fires z h) (same_some (slice_get plan.program.timers n) o.0 is.0 o.1 is.1) o.2)
due_met plan t low r (On n) due timed is free h before o = absurd (cc)

module _ (plan : PlanParts) (t : List Row) (low : Tag) (s : State) (stream : IsStream plan t s) (come : HasComeTo plan t low s) where
  timed_met : (x : Trigger) → timed x ≡ Some x → (h : Tag) (r : ℕ) → Before h low → Occurs plan t h x → Listens plan r x → Ran t h r
  timed_met x is_timed h r before o l = due_met plan t low r y due.0 y_timed (own.2.each place.0 y due.0 place.1 due.1) (come.dues r place.0 list.0 due.0 list.1 due.1) h before (stands_occurs (record { plan = plan; rows = t }) h y x stands.3 o)
    where
      list : (list : List Due) × (slice_get s.dues r ≡ Some list)
      list = get_there s.dues r (let a = slice_get_within plan.program.reactions r l.reaction l.is_reaction in let b = stream.dues.as_long in omega arith)

      own : AreDueOf plan t r list.0
      own = stream.dues.each r list.0 list.1

      there : (k : ℕ) × (slice_get own.1.0.triggers k ≡ Some x)
      there = at_contains own.1.0.triggers x (subst (λ (z : Reaction). Contains z.triggers x) (same_some (slice_get plan.program.reactions r) l.reaction own.1.0 l.is_reaction own.1.1) l.is_trigger)

      stands : (k : ℕ) × (y : Trigger) × (slice_get own.0 k ≡ Some y) × StandsFor plan.program y x
      stands = own.1.2.each there.0 x there.1

      y : Trigger
      y = stands.1

      y_timed : timed y ≡ Some y
      y_timed = ⊎_elim (λ e. subst (λ (z : Trigger). timed z ≡ Some z) (sym e) is_timed) (λ s. subst (λ (z : Trigger). timed z ≡ Some z) (sym s.2) refl) stands.3

      place : (k : ℕ) × (slice_get (filter_map timed own.0) k ≡ Some y)
      place = at_contains (filter_map timed own.0) y (timed_there own.0 y y_timed (contains_at own.0 stands.0 y stands.2))

      due : (due : Due) × (slice_get list.0 place.0 ≡ Some due)
      due = get_there list.0 place.0 (let a = slice_get_within (filter_map timed own.0) place.0 y place.1 in let b = own.2.as_long in omega arith)

  done : (n : Name) (h : Tag) → Before h low → Before h (s.lows n)
  done n h before = Before-UpTo h low (s.lows n) before (come.lows n)

  name_met : (n : Name) (h : Tag) (r : ℕ) → Before h low → Occurs plan t h (On n) → Listens plan r (On n) → Ran t h r
  name_met (Port p) h r before o l = let w = o.1.1 in ((stream.ports p w.origin w.delays w.is_origin).past h (done (Port p) h before)).met o.0 o.1 r l
  name_met (Action a) h r before o l = ((stream.actions a).past h (done (Action a) h before)).met o.0 o.1 r l

  trigger_met : (x : Trigger) (h : Tag) (r : ℕ) → Before h low → Occurs plan t h x → Listens plan r x → Ran t h r
  trigger_met Startup = timed_met Startup refl
  trigger_met Shutdown = timed_met Shutdown refl
  trigger_met (Timer n) = timed_met (Timer n) refl
  trigger_met (On n) = name_met n

  has_run : (h : Tag) (r : ℕ) → Before h low → Triggered plan t h r → Ran t h r
  has_run h r before x = trigger_met x.trigger h r before x.occurs (record { reaction = x.reaction; is_reaction = x.is_reaction; is_trigger = x.is_trigger })

  apart : (h : Tag) (n : Name) → Before h low → ¬ ClashesAt plan t h n
  apart h (Port p) before c = let w = c.is_first in ((stream.ports p w.origin w.delays w.is_origin).past h (done (Port p) h before)).apart c
  apart h (Action a) before c = ((stream.actions a).past h (done (Action a) h before)).apart c

  tag_kept : (h : Tag) (r k : ℕ) → Before h low → ¬ BreaksTagUntil (stop plan t) plan t h r k
  tag_kept h r k before (inl x) = x.2 (has_run h r before x.1)
  tag_kept h r k before (inr (inl x)) = x.2 (stream.settled.runs h r x.1).triggered
  tag_kept h r k before (inr (inr (inl x))) = (stream.settled.runs h r x.1).in_order x.2
  tag_kept h r k before (inr (inr (inr x))) = x.2 (stream.settled.runs h r x.1).reads

  at_kept : (h : Tag) (o : Option ℕ) (k : ℕ) → Before h low → ¬ BreaksAtUntil (stop plan t) plan t h o k
  at_kept h None k before x = apart h x.1.0 before x.1.1
  at_kept h (Some r) k before x = tag_kept h r k before x

  unbroken : IsUnbroken plan t low
  unbroken b (inl x) = stream.settled.rows b x.0
  unbroken b (inr x) = at_kept b.tag b.reaction b.rule x.1 x.0.breaks

pub timely_law : (plan : PlanParts) → TimelyLaw plan
timely_law plan t low s stream come = unbroken plan t low s stream come

pub overdue_law : (plan : PlanParts) → OverdueLaw plan
overdue_law plan t dues r k list g period are at due up not_ran = record { in_time = up; breaks = inl (refl, triggered, not_ran); row_is = refl }
  where
    own : AreDueOf plan t r list
    own = are.each r list at

    trigger : (x : Trigger) × (slice_get (filter_map timed own.0) k ≡ Some x)
    trigger = get_there (filter_map timed own.0) k (let a = slice_get_within list k (AtTag g period) due in let b = own.2.as_long in omega arith)

    place : (j : ℕ) × (slice_get own.0 j ≡ Some trigger.0)
    place = at_contains own.0 trigger.0 (timed_from own.0 trigger.0 (contains_at (filter_map timed own.0) k trigger.0 trigger.1))

    triggered : Triggered plan t g r
    triggered = needed_triggers (record { plan = plan; rows = t }) g r place.0 own.0 trigger.0 own.1 place.1 (due_occurs plan t g r trigger.0 (AtTag g period) (own.2.each k trigger.0 (AtTag g period) trigger.1 due) refl)
