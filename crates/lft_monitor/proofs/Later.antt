-- External inputs that come later change nothing before their tags.
use Rattle.std.proofs.Common.{◌≡◌, ℕ, ◌≤◌, ◌⊎◌, inl, inr, List, [], ◌∷◌, ◌++◌, length, sym, ap, ◌∙◌, subst, Option, Some, None, filter_map, Contains}
use Rattle.std.specs.List.{AllZip}
use Rattle.lft_tag.{specs.{declared.Tag.Tag, Tags.{Before, UpTo}}, proofs.Order.{Before-irrefl, Before-UpTo, Before-weaken}}
use Rattle.lft_ir.specs.Parts.{inputs}
use Rattle.lft_ir.specs.declared.parts.{Value.Value, Name.{Name, TheVariants.{Port, Action}}, Trigger.{Trigger, TheVariants.{Startup, Shutdown, Timer, On}}}
use Rattle.lft_ir.specs.declared.steps.row.Row.{Row}
use Rattle.lft_ir.specs.Steps.Inputs.{ExternalInputs}
use Rattle.lft_model.specs.Plans.{PlanParts}
use Rattle.lft_model.specs.Presence.{scheduled, given, min_delay, events_of, IsWrittenFrom, At, Shows, Inputs, OccursUntil, Triggered, ClashesAt, Collision, stop}
use Rattle.lft_model.specs.{Runs.reads_at, Breaches.{IsTooEarly, TagBreach}}
use Rattle.lft_monitor.{specs.Sure.{with_inputs, LaterInputsLaw}, proofs.Same.{SameAt, same_breach}}

-- what one list of external inputs has at g the other has too, of two plans with one program
module _ (plan : PlanParts) (one other : ExternalInputs) (t : List Row) (g : Tag) (alike : (a : ℕ) → filter_map (given g a) one.events ≡ filter_map (given g a) other.events) where
  events_alike : (a : ℕ) → events_of (with_inputs plan one) t g a ≡ events_of (with_inputs plan other) t g a
  events_alike a = ap (λ (vs : List Value). filter_map (scheduled g a (min_delay plan.program a)) t ++ vs) (alike a)

  written_alike : (p : ℕ) (h : Tag) (v : Value) → IsWrittenFrom (with_inputs plan one) t g p h v → IsWrittenFrom (with_inputs plan other) t g p h v
  written_alike p h v o = record { origin = o.origin; delays = o.delays; is_origin = o.is_origin; arrives = o.arrives; is_last = o.is_last }

  pub at_alike : (n : Name) (v : Value) → At (with_inputs plan one) t g n v → At (with_inputs plan other) t g n v
  at_alike (Port p) v o = (o.0, written_alike p o.0 v o.1)
  at_alike (Action a) v c = subst (λ (vs : List Value). Contains vs v) (events_alike a) c

  pub clash_alike : (n : Name) → ClashesAt (with_inputs plan one) t g n → ClashesAt (with_inputs plan other) t g n
  clash_alike (Port p) k = record { first = k.first; second = k.second; first_value = k.first_value; second_value = k.second_value; is_first = written_alike p k.first k.first_value k.is_first; is_second = written_alike p k.second k.second_value k.is_second; differ = k.differ }
  clash_alike (Action a) k = subst (λ (vs : List Value). 2 ≤ length vs) (events_alike a) k

  pub collision_alike : Collision (with_inputs plan one) t g → Collision (with_inputs plan other) t g
  collision_alike c = (c.0, clash_alike c.0 c.1)

  pub triggered_alike : (g ≡ stop (with_inputs plan one) t → g ≡ stop (with_inputs plan other) t) → (r : ℕ) → Triggered (with_inputs plan one) t g r → Triggered (with_inputs plan other) t g r
  triggered_alike stops r o = record { reaction = o.reaction; trigger = o.trigger; is_reaction = o.is_reaction; is_trigger = o.is_trigger; occurs = go o.trigger o.occurs }
    where
      go : (x : Trigger) → OccursUntil (stop (with_inputs plan one) t) (with_inputs plan one) t g x → OccursUntil (stop (with_inputs plan other) t) (with_inputs plan other) t g x
      go Startup q = q
      go Shutdown q = stops q
      go (Timer n) q = q
      go (On n) q = (q.0, at_alike n q.0 q.1)

  pub early_alike : (r : ℕ) → IsTooEarly (with_inputs plan one) t g r → IsTooEarly (with_inputs plan other) t g r
  early_alike r o = record { earlier = o.earlier; precedes = o.precedes; earlier_ran = o.earlier_ran; not_ended = o.not_ended }

module _ (plan : PlanParts) (one other : ExternalInputs) (t : List Row) (g : Tag) (alike : (a : ℕ) → filter_map (given g a) one.events ≡ filter_map (given g a) other.events) (in_time : UpTo g (stop (with_inputs plan one) t) → UpTo g (stop (with_inputs plan other) t)) (stops : g ≡ stop (with_inputs plan one) t → g ≡ stop (with_inputs plan other) t) (stops_back : g ≡ stop (with_inputs plan other) t → g ≡ stop (with_inputs plan one) t) where
  back : (a : ℕ) → filter_map (given g a) other.events ≡ filter_map (given g a) one.events
  back a = sym (alike a)

  shows_alike : (n : Name) (o : Option Value) → Shows (with_inputs plan other) t g n o → Shows (with_inputs plan one) t g n o
  shows_alike n None s = λ p. s (p.0, at_alike plan one other t g alike n p.0 p.1)
  shows_alike n (Some v) s = at_alike plan other one t g back n v s

  all_alike : (ns : List Name) (os : List (Option Value)) → AllZip (Shows (with_inputs plan other) t g) ns os → AllZip (Shows (with_inputs plan one) t g) ns os
  all_alike [] [] z = z
  all_alike [] (o ∷ os) z = z
  all_alike (n ∷ ns) [] z = z
  all_alike (n ∷ ns) (o ∷ os) z = (shows_alike n o z.0, all_alike ns os z.1)

  reads_alike : (r : ℕ) → Inputs (with_inputs plan other) t g r (reads_at (with_inputs plan other) t g r) → Inputs (with_inputs plan one) t g r (reads_at (with_inputs plan one) t g r)
  reads_alike r o = record { reaction = o.reaction; is_reaction = o.is_reaction; each = all_alike (inputs o.reaction) (reads_at (with_inputs plan other) t g r) o.each }

  pub same_alike : SameAt (with_inputs plan one) (with_inputs plan other) (stop (with_inputs plan one) t) (stop (with_inputs plan other) t) t t g
  same_alike = record {
    in_time = in_time;
    triggered = triggered_alike plan one other t g alike stops;
    triggered_back = triggered_alike plan other one t g back stops_back;
    ran = λ r o. o;
    ran_back = λ r o. o;
    early = early_alike plan one other t g alike;
    reads_back = reads_alike;
    collision = collision_alike plan one other t g alike;
  }

-- a tag before low, seen from two stops that are the same or both from low on
pub same_time : (low g a b : Tag) → Before g low → (a ≡ b) ⊎ UpTo low a × UpTo low b → UpTo g a → UpTo g b
same_time low g a b l (inl e) up = subst (λ (k : Tag). UpTo g k) e up
same_time low g a b l (inr x) up = Before-weaken g b (Before-UpTo g low b l x.1)

pub same_stop : (low g a b : Tag) → Before g low → (a ≡ b) ⊎ UpTo low a × UpTo low b → g ≡ a → g ≡ b
same_stop low g a b l (inl e) q = q ∙ e
same_stop low g a b l (inr x) q = absurd (Before-irrefl g (subst (λ (k : Tag). Before g k) (sym q) (Before-UpTo g low a l x.0)))

pub turned_stop : (low a b : Tag) → (a ≡ b) ⊎ UpTo low a × UpTo low b → (b ≡ a) ⊎ UpTo low b × UpTo low a
turned_stop low a b (inl e) = inl (sym e)
turned_stop low a b (inr x) = inr (x.1, x.0)

pub later_law : (plan : PlanParts) → LaterInputsLaw plan
later_law plan inputs t low b same before = (there, back)
  where
    old : Tag
    old = stop plan t

    new : Tag
    new = stop (with_inputs plan inputs) t

    there : TagBreach plan t b → TagBreach (with_inputs plan inputs) t b
    there = same_breach plan (with_inputs plan inputs) old new t t b (same_alike plan plan.externals inputs t b.tag (λ a. same.given_same b.tag a before) (same_time low b.tag old new before same.stop_same) (same_stop low b.tag old new before same.stop_same) (same_stop low b.tag new old before (turned_stop low old new same.stop_same)))

    back : TagBreach (with_inputs plan inputs) t b → TagBreach plan t b
    back = same_breach (with_inputs plan inputs) plan new old t t b (same_alike plan inputs plan.externals t b.tag (λ a. sym (same.given_same b.tag a before)) (same_time low b.tag new old before (turned_stop low old new same.stop_same)) (same_stop low b.tag new old before (turned_stop low old new same.stop_same)) (same_stop low b.tag old new before same.stop_same))
