-- A collision at a port is one at the first delayed port of its origin, no later.
use Rattle.std.proofs.Common.{◌≡◌, ℕ, zero, suc, ◌<◌, inl, inr, List, length, refl, sym, ◌∙◌, subst, arith, Option, Some, None, slice_get}
use Rattle.lft_tag.{specs.{declared.Tag.Tag, Tags.UpTo, Shifts.{Folded, shifted}}, proofs.{Order.UpTo-Before, Chains.shifted_same}}
use Rattle.lft_ir.specs.declared.{parts.Port.Port as PortOf, steps.row.Row.Row}
use Rattle.lft_queue.proofs.Tests.{together}
use Rattle.lft_scheduler.specs.inner.{Listeners.{IsArrival, IsWatched, arrival, IsFirstDelayed}, Events.IsEarlier}
use Rattle.lft_scheduler.proofs.{Watching.delayed_first, Written.{from_written, to_written}}
use Rattle.lft_model.specs.{Plans.{PlanParts, IsSoundPlan}, Presence.{Last, PortClash}}

-- what is no later than an earlier tag is earlier
pub earlier_up : (clash : Option Tag) (g h : Tag) → UpTo g h → IsEarlier clash h → IsEarlier clash g
earlier_up None g h u e = tt
earlier_up (Some c) g h u e = UpTo-Before g h c u e

-- a lesser shift leads to no later tag
no_later : (g : Tag) (s t : Folded) → 0 < s.0 → 0 < t.0 → (let a : Tag = record { time = s.0; micro = s.1 } in let b : Tag = record { time = t.0; micro = t.1 } in UpTo a b) → UpTo (shifted g s) (shifted g t)
no_later g s t l m u = go s.0 s.1 t.0 t.1 l m u
  where
    go : (d n e k : ℕ) → 0 < d → 0 < e → (let a : Tag = record { time = d; micro = n } in let b : Tag = record { time = e; micro = k } in UpTo a b) → UpTo (shifted g (d, n)) (shifted g (e, k))
    go zero n e k z y u = absurd (omega arith)
    go (suc d) n zero k z y u = absurd (omega arith)
    go (suc d) n (suc e) k z y (inl x) = inl (omega arith)
    go (suc d) n (suc e) k z y (inr x) = inr ((let w : suc d ≡ suc e = x.0 in omega arith), x.1)

-- a watched port of the origin that collides no later than at a tag
pub record CollidesBy (plan : PlanParts) (t : List Row) (origin : ℕ) (h : Tag) : Type 0 where
  pub port : ℕ
  pub tag : Tag
  pub arrives : IsArrival plan.program origin port
  pub watched : IsWatched plan.program port
  pub sooner : UpTo tag h
  pub collides : PortClash plan t tag port

pub carried : (plan : PlanParts) (good : IsSoundPlan plan) (t : List Row) (p : ℕ) (port : PortOf) → slice_get plan.program.ports p ≡ Some port → (h : Tag) → PortClash plan t h p → CollidesBy plan t port.origin h
carried plan good t p port is_port h c = record {
  port = f.0;
  tag = shifted c.first (f.1.port.shift.time, f.1.port.shift.steps);
  arrives = (f.1.port, f.1.delayed.is_port, f.1.delayed.has_origin);
  watched = inr (inr (port.origin, f.1));
  sooner = subst (λ (k : Tag). UpTo (shifted c.first (f.1.port.shift.time, f.1.port.shift.steps)) k) one.0 (no_later c.first (f.1.port.shift.time, f.1.port.shift.steps) (port.shift.time, port.shift.steps) f.1.delayed.later both.0 f.2);
  collides = record {
    first = c.first;
    second = c.second;
    first_value = c.first_value;
    second_value = c.second_value;
    is_first = to_written plan good f.0 f.1.port f.1.delayed.is_port t (shifted c.first (f.1.port.shift.time, f.1.port.shift.steps)) c.first c.first_value refl (subst (λ (o : ℕ). Last t c.first o c.first_value) (sym f.1.delayed.has_origin) one.1);
    is_second = to_written plan good f.0 f.1.port f.1.delayed.is_port t (shifted c.first (f.1.port.shift.time, f.1.port.shift.steps)) c.second c.second_value (shifted_same c.second c.first (f.1.port.shift.time, f.1.port.shift.steps) f.1.delayed.later (sym both.1)) (subst (λ (o : ℕ). Last t c.second o c.second_value) (sym f.1.delayed.has_origin) two.1);
    differ = c.differ;
  };
}
  where
    one : (shifted c.first (port.shift.time, port.shift.steps) ≡ h) × Last t c.first port.origin c.first_value
    one = from_written plan good p port is_port t h c.first c.first_value c.is_first

    two : (shifted c.second (port.shift.time, port.shift.steps) ≡ h) × Last t c.second port.origin c.second_value
    two = from_written plan good p port is_port t h c.second c.second_value c.is_second

    both : (0 < port.shift.time) × (c.first.time ≡ c.second.time)
    both = together c.first c.second (port.shift.time, port.shift.steps) (one.0 ∙ sym two.0) c.differ

    f : (k : ℕ) × (first : IsFirstDelayed plan.program (length plan.program.ports) port.origin k) × UpTo (arrival first.port) (arrival port)
    f = delayed_first plan.program port.origin p port (record { is_port = is_port; has_origin = refl; later = both.0 })
