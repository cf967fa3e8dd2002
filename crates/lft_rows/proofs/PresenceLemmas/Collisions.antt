-- Pairs of causes, and what collides.
use Rattle.std.proofs.Common.{◌≡◌, ◌≢◌, ℕ, zero, suc, ◌+◌, ◌<◌, ◌⊎◌, inl, inr, List, [], ◌∷◌, ◌++◌, length, length-append, refl, sym, ap, ◌∙◌, subst, arith, Bool, true, false, Option, Some, None, slice_get}
use native.Mathlib.Decide.{ℕ_discrete}
use Rattle.lft_tag.specs.{declared.Tag.Tag, Tags.{Before, UpTo}, Shifts.{Folded, shifted}}
use Rattle.lft_tag.proofs.{Order.{UpTo-trans, UpTo-not}, Chains.{tag_of as tag_from, shifted_same}}
use Rattle.lft_lists.proofs.Places.{get_push_cases}
use Rattle.lft_ir.proofs.Origins.{origin_within}
use Rattle.lft_ir.specs.{declared.{parts.{Port.Port as PortOf, Name.{Name, TheVariants.{Port, Action}}}, steps.row.Row.Row}, Steps.Fits.RowsFit}
use Rattle.lft_model.specs.{Plans.PlanParts, Presence.{stop, PortClash, ClashesAt, Collision}}
use Rattle.lft_rows.specs.declared.presence.causes.EventCause.{EventCause}
use Rattle.lft_rows.specs.inner.Presence.{Causes.{tag_of, AreCauses, AreNear, IsNear}, Traces.IsSooner}
use Rattle.lft_rows.specs.inner.Presence.Clashes.{Among, IsPair, IsFirstPair, AreDoubles, HasTwo, PortsClash, ActionsClash}
use Rattle.lft_rows.specs.Presence.{Traces.LeastTag, Clashes.IsClash}
use Rattle.lft_rows.proofs.PresenceLemmas.{Positions.shifted_mono, Leasts.{least_as, least_of_both}, Presences.{ChainOf, port_from, port_cause_at}}
use Rattle.lft_rows.proofs.PresenceLemmas.Twice.{IsTwo, two_causes, two_events}

-- the port's shift leads two tags to one alone where it has a time, and they are of one time
same_time : (g h k : Tag) (s : Folded) → shifted g s ≡ k → shifted h s ≡ k → g ≢ h → (0 < s.0) × (g.time ≡ h.time) × (g.micro ≢ h.micro)
same_time g h k (zero, steps) e f n = absurd (n (tag_from (ap (λ (z : Tag). z.time) (e ∙ sym f)) (let a : g.micro + steps ≡ h.micro + steps = ap (λ (z : Tag). z.micro) (e ∙ sym f) in omega arith)))
same_time g h k (suc d, steps) e f n =
    let a : g.time + suc d ≡ h.time + suc d = ap (λ (z : Tag). z.time) (e ∙ sym f) in
    let t : g.time ≡ h.time = omega arith in
    (omega arith, t, λ m. n (tag_from t m))

module _ (plan : PlanParts) (t : List Row) (causes : List EventCause) (are : AreCauses plan t causes) (p : ℕ) (port : PortOf) (chain : ChainOf plan.program p port) where
  pair_of_clash : (g : Tag) → PortClash plan t g p → (0 < port.shift.time) × ((x y : EventCause) × Among causes x × Among causes y × IsPair true port.origin x y × (shifted (tag_of x) (port.shift.time, port.shift.steps) ≡ g) × (shifted (tag_of y) (port.shift.time, port.shift.steps) ≡ g))
  pair_of_clash g c =
      let x = port_cause_at plan t g p port chain c.first c.first_value c.is_first in
      let y = port_cause_at plan t g p port chain c.second c.second_value c.is_second in
      let s = same_time (tag_of x.0) (tag_of y.0) g (port.shift.time, port.shift.steps) x.2.1 y.2.1 (λ e. c.differ (sym x.3 ∙ e ∙ y.3)) in
      (s.0, (x.0, y.0, are.just.each x.0 x.1, are.just.each y.0 y.1, (x.2.0, y.2.0, s.1, s.2), x.2.1, y.2.1))

  clash_of_pair : (x y : EventCause) → 0 < port.shift.time → Among causes x → Among causes y → IsPair true port.origin x y → PortClash plan t (shifted (tag_of y) (port.shift.time, port.shift.steps)) p
  clash_of_pair x y l i j q =
      let g = shifted (tag_of y) (port.shift.time, port.shift.steps) in
      let same : shifted (tag_of x) (port.shift.time, port.shift.steps) ≡ g = shifted_same (tag_of x) (tag_of y) (port.shift.time, port.shift.steps) l q.2 in
      let v = port_from plan t g p port chain x (are.just.only i.0 x i.1) (q.0, same) in
      let w = port_from plan t g p port chain y (are.just.only j.0 y j.1) (q.1, refl) in
      record { first = tag_of x; second = tag_of y; first_value = v.0; second_value = w.0; is_first = v.1; is_second = w.1; differ = λ e. q.3 (ap (λ (z : Tag). z.micro) e) }

  -- a port that is reached without a time has no collision
  pub no_port_clash : port.shift.time ≡ 0 → LeastTag (λ g. PortClash plan t g p) None
  no_port_clash z g c = let l : 0 < port.shift.time = (pair_of_clash g c).0 in omega arith

  pub port_no_pair : IsFirstPair causes true port.origin None → LeastTag (λ g. PortClash plan t g p) None
  port_no_pair h g c = let q = (pair_of_clash g c).1 in h q.0 q.1 q.2 q.3 q.4

  pub port_pair : (c : EventCause) → 0 < port.shift.time → IsFirstPair causes true port.origin (Some c) → LeastTag (λ g. PortClash plan t g p) (Some (shifted (tag_of c) (port.shift.time, port.shift.steps)))
  port_pair c l h = (clash_of_pair h.0.0 c l h.0.1 h.0.2 h.0.3, λ g k. first g (pair_of_clash g k).1)
    where
      s : Folded
      s = (port.shift.time, port.shift.steps)

      first : (g : Tag) → (x y : EventCause) × Among causes x × Among causes y × IsPair true port.origin x y × (shifted (tag_of x) (port.shift.time, port.shift.steps) ≡ g) × (shifted (tag_of y) (port.shift.time, port.shift.steps) ≡ g) → UpTo (shifted (tag_of c) (port.shift.time, port.shift.steps)) g
      first g (x, y, i, j, q, e, f) = go (h.1 x y i j q)
        where
          go : UpTo (tag_of c) (tag_of y) ⊎ UpTo (tag_of c) (tag_of x) → UpTo (shifted (tag_of c) (port.shift.time, port.shift.steps)) g
          go (inl u) = subst (λ (z : Tag). UpTo (shifted (tag_of c) (port.shift.time, port.shift.steps)) z) f (shifted_mono (tag_of c) (tag_of y) (port.shift.time, port.shift.steps) u)
          go (inr u) = subst (λ (z : Tag). UpTo (shifted (tag_of c) (port.shift.time, port.shift.steps)) z) e (shifted_mono (tag_of c) (tag_of x) (port.shift.time, port.shift.steps) u)

-- the collisions of an action
module _ (plan : PlanParts) (t : List Row) (fit : RowsFit plan.program t) (causes : List EventCause) (are : AreCauses plan t causes) (a : ℕ) where
  pub action_no_pair : IsFirstPair causes false (length plan.program.ports + a) None → LeastTag (λ g. HasTwo plan t g a) None
  action_no_pair h g c = let q = two_causes plan t fit g a c in h q.first q.second (are.just.each q.first q.is_first) (are.just.each q.second q.is_second) (q.first_leads.0, q.second_leads.0, q.times, q.micros, q.differ)

  pub action_pair : (c : EventCause) → IsFirstPair causes false (length plan.program.ports + a) (Some c) → LeastTag (λ g. HasTwo plan t g a) (Some (tag_of c))
  action_pair c h = (two_events plan t fit (tag_of c) a x c (are.just.only h.0.1.0 x h.0.1.1) (are.just.only h.0.2.0 c h.0.2.1) h.0.3.0 h.0.3.1 (tag_from h.0.3.2 h.0.3.3) refl h.0.3.4, λ g k. first g (two_causes plan t fit g a k))
    where
      x : EventCause
      x = h.0.0

      first : (g : Tag) → IsTwo plan t g a → UpTo (tag_of c) g
      first g q = go (h.1 q.first q.second (are.just.each q.first q.is_first) (are.just.each q.second q.is_second) (q.first_leads.0, q.second_leads.0, q.times, q.micros, q.differ))
        where
          go : UpTo (tag_of c) (tag_of q.second) ⊎ UpTo (tag_of c) (tag_of q.first) → UpTo (tag_of c) g
          go (inl u) = subst (λ (z : Tag). UpTo (tag_of c) z) q.second_at u
          go (inr u) = subst (λ (z : Tag). UpTo (tag_of c) z) q.first_at u

-- one more port, one more action
below_more : (P : ℕ → Tag → Type 0) (n : ℕ) (a b r : Option Tag) → LeastTag (λ g. (p : ℕ) × (p < n) × P p g) a → LeastTag (P n) b → IsSooner a b r → LeastTag (λ g. (p : ℕ) × (p < n + 1) × P p g) r
below_more P n a b r h k e = least_as (λ g. ((p : ℕ) × (p < n) × P p g) ⊎ P n g) (λ g. (p : ℕ) × (p < n + 1) × P p g) r (least_of_both (λ g. (p : ℕ) × (p < n) × P p g) (P n) a b r h k e) to from
  where
    to : (g : Tag) → ((p : ℕ) × (p < n) × P p g) ⊎ P n g → (p : ℕ) × (p < n + 1) × P p g
    to g (inl x) = let l : x.0 < n = x.1 in (x.0, omega arith, x.2)
    to g (inr x) = (n, omega arith, x)

    from : (g : Tag) → (p : ℕ) × (p < n + 1) × P p g → ((p : ℕ) × (p < n) × P p g) ⊎ P n g
    from g x = go (ℕ_discrete x.0 n)
      where
        go : Dec (x.0 ≡ n) → ((p : ℕ) × (p < n) × P p g) ⊎ P n g
        go (yes q) = inr (subst (λ z. P z g) q x.2)
        go (no d) = let l : x.0 < n + 1 = x.1 in inl (x.0, omega arith, x.2)

pub ports_more : (plan : PlanParts) (t : List Row) (n : ℕ) (a b r : Option Tag) → LeastTag (PortsClash plan t n) a → LeastTag (λ g. PortClash plan t g n) b → IsSooner a b r → LeastTag (PortsClash plan t (n + 1)) r
ports_more plan t n a b r h k e = below_more (λ p g. PortClash plan t g p) n a b r h k e

pub actions_more : (plan : PlanParts) (t : List Row) (n : ℕ) (a b r : Option Tag) → LeastTag (ActionsClash plan t n) a → LeastTag (λ g. HasTwo plan t g n) b → IsSooner a b r → LeastTag (ActionsClash plan t (n + 1)) r
actions_more plan t n a b r h k e = below_more (λ a g. HasTwo plan t g a) n a b r h k e

pub doubles_more : (causes : List EventCause) (n : ℕ) (doubles : List (Option EventCause)) (o : Option EventCause) → IsFirstPair causes true n o → AreDoubles causes n doubles → AreDoubles causes (n + 1) (doubles ++ o ∷ [])
doubles_more causes n doubles o h d = record { as_long = length-append doubles (o ∷ []) ∙ ap (λ k. k + 1) d.as_long; each = λ p x e. each p x (get_push_cases doubles o p x e) }
  where
    each : (p : ℕ) (x : Option EventCause) → (slice_get doubles p ≡ Some x) ⊎ ((p ≡ length doubles) × (o ≡ x)) → IsFirstPair causes true p x
    each p x (inl e) = d.each p x e
    each p x (inr e) = subst (λ z. IsFirstPair causes true p z) e.1 (subst (λ k. IsFirstPair causes true k o) (sym (e.0 ∙ d.as_long)) h)

-- a shift can be added to the tag of a pair's later cause
pub pair_near : (causes : List EventCause) → AreNear causes → (b : Bool) (name : ℕ) (c : EventCause) → IsFirstPair causes b name (Some c) → IsNear (tag_of c)
pair_near causes near b name c h = near h.0.2.0 c h.0.2.1

-- the first collision is that of a port or of an action, up to the stop
module _ (plan : PlanParts) (t : List Row) (o : Option Tag) (ports actions : Option Tag) (h : LeastTag (PortsClash plan t (length plan.program.ports)) ports) (k : LeastTag (ActionsClash plan t (length plan.program.actions)) actions) (e : IsSooner ports actions o) (known : (g : Tag) (a : ℕ) → HasTwo plan t g a → a < length plan.program.actions) where
  any : LeastTag (Collision plan t) o
  any = least_as (λ g. PortsClash plan t (length plan.program.ports) g ⊎ ActionsClash plan t (length plan.program.actions) g) (Collision plan t) o (least_of_both (PortsClash plan t (length plan.program.ports)) (ActionsClash plan t (length plan.program.actions)) ports actions o h k e) to from
    where
      to : (g : Tag) → PortsClash plan t (length plan.program.ports) g ⊎ ActionsClash plan t (length plan.program.actions) g → Collision plan t g
      to g (inl x) = (Port x.0, x.2)
      to g (inr x) = (Action x.0, x.2)

      by : (g : Tag) (n : Name) → ClashesAt plan t g n → PortsClash plan t (length plan.program.ports) g ⊎ ActionsClash plan t (length plan.program.actions) g
      by g (Port p) x = inl (p, origin_within x.is_first.is_origin, x)
      by g (Action a) x = inr (a, known g a x, x)

      from : (g : Tag) → Collision plan t g → PortsClash plan t (length plan.program.ports) g ⊎ ActionsClash plan t (length plan.program.actions) g
      from g x = by g x.0 x.1

  pub clash_none : o ≡ None → IsClash (record { plan = plan; rows = t }) None
  clash_none q g x = (subst (λ z. LeastTag (Collision plan t) z) q any) g x.clash

  pub clash_late : (g : Tag) → o ≡ Some g → Before (stop plan t) g → IsClash (record { plan = plan; rows = t }) None
  clash_late g q b h x = UpTo-not g (stop plan t) (UpTo-trans g h (stop plan t) ((subst (λ z. LeastTag (Collision plan t) z) q any).1 h x.clash) x.in_time) b

  pub clash_some : (g : Tag) → o ≡ Some g → UpTo g (stop plan t) → IsClash (record { plan = plan; rows = t }) (Some g)
  clash_some g q u = let m = subst (λ z. LeastTag (Collision plan t) z) q any in (record { in_time = u; clash = m.0 }, λ h x. m.1 h x.clash)
