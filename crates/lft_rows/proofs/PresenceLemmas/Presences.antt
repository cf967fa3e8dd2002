-- What the last cause that leads to a tag says of what is present there.
use Rattle.std.proofs.Common.{◌≡◌, ℕ, ◌+◌, ◌-◌, ◌<◌, ◌≤◌, ◌⊎◌, inl, inr, List, length, refl, sym, ap, ◌∙◌, subst, arith, true, cond, ◌==◌, ◌&&◌, Option, Some, None, IfSome, IfNone, slice_get, filter_map, eqb-true}
use Rattle.std.{specs.List.last_or, proofs.{lemmas.Bool.{cases_lt, eq-eqb, and_from}, NetLemmas.Options.cond_some}}
use native.Mathlib.Decide.{ℕ_discrete}
use Rattle.lft_ir.proofs.Origins.{origin_unique, origin_inside}
use Rattle.lft_ir.specs.{Parts.Parts, Origins.Origin, Sound.IsSound}
use Rattle.lft_ir.specs.declared.parts.{Port.Port as PortOf, Value.Value, Name.{Name, TheVariants.{Port, Action}}}
use Rattle.lft_ir.specs.declared.steps.{row.{Row.Row, Step.{Step, TheVariants.{Start, Read, Write, Schedule, Stop, End}}}, externals.Event.Event}
use Rattle.lft_ir.specs.Steps.Fits.{RowsFit, StepFits}
use Rattle.lft_tag.specs.{declared.Tag.Tag, Tags.{Before, UpTo, after, after_all, same_tag}, Shifts.{Folded, shifted}}
use Rattle.lft_tag.proofs.{Order.{UpTo-not, Before-irrefl, same_tag_refl, same_tag_true}, Chains.{tag_of as tag_from, shifted_chain}}
use Rattle.lft_lists.proofs.Members.{Mem, mem_get, get_mem, mem_contains, contains_mem, mem_filter, mem_from_filter, mem_left, mem_right, mem_cases, last_at, last_by_place, last_of_mem}
use Rattle.lft_model.specs.Plans.{PlanParts}
use Rattle.lft_model.specs.Presence.{value_written, written, value_scheduled, scheduled, given, min_delay, events_of, IsWrittenFrom, At, IsPresent}
use Rattle.lft_model.proofs.{Places.slice_get_within, Ended.{Schedules, written_by, by_written, scheduled_by, by_scheduled}}
use Rattle.lft_model.proofs.Steps.{written_some, some_written, scheduled_some, some_scheduled, both_true}
use Rattle.lft_rows.specs.declared.presence.causes.EventCause.{EventCause}
use Rattle.lft_rows.specs.inner.Presence.Causes.{tag_of, cause, ComesUpTo, AreCauses, LiesBelow, IsPosition, Leads, IsLastCause, IsValueFrom, IsRowCause, IsEventCause, IsCause, Carries, value_of, write_cause, schedule_cause, step_cause, event_cause}
use Rattle.lft_rows.proofs.PresenceLemmas.Positions.{shifted_mono, tag_up, same_cause}

pub comes_self : (c : EventCause) → ComesUpTo c c
comes_self c = inr (refl, inr (refl, omega arith))

-- the cause that stands before a position is the last that leads to the tag, or none does
module _ (plan : PlanParts) (t : List Row) (causes : List EventCause) (are : AreCauses plan t causes) (name : ℕ) (s : Folded) (g : Tag) (n : ℕ) (h : IsPosition causes name s g true n) where
  -- each cause that leads to the tag stands before the position
  stands_before : (c : EventCause) → IsCause plan t c → Leads name s g c → (k : ℕ) × (k < n) × (slice_get causes k ≡ Some c)
  stands_before c i l = go (are.just.each c i)
    where
      go : (k : ℕ) × (slice_get causes k ≡ Some c) → (k : ℕ) × (k < n) × (slice_get causes k ≡ Some c)
      go (k, e) = by (cases_lt k n)
        where
          by : (k < n) ⊎ (n ≤ k) → (k : ℕ) × (k < n) × (slice_get causes k ≡ Some c)
          by (inl m) = (k, m, e)
          by (inr m) = absurd (h.rest k c m e (inr (l.0, inr (refl, l.1))))

  pub none_stands : n ≡ 0 → IsLastCause plan t name s g None
  none_stands z c i l = let b = stands_before c i l in let m : b.0 < n = b.1 in omega arith

  module _ (last : EventCause) (k : ℕ) (is_before : k + 1 ≡ n) (is_last : slice_get causes k ≡ Some last) where
    -- each cause that leads to the tag comes before the last one
    up_to_last : (c : EventCause) → IsCause plan t c → Leads name s g c → ComesUpTo c last
    up_to_last c i l = go (stands_before c i l)
      where
        go : (j : ℕ) × (j < n) × (slice_get causes j ≡ Some c) → ComesUpTo c last
        go (j, m, e) = by (ℕ_discrete j k)
          where
            by : Dec (j ≡ k) → ComesUpTo c last
            by (yes q) = subst (λ z. ComesUpTo c z) (same_cause causes j k c last q e is_last) (comes_self c)
            by (no d) = let b : j < k = omega arith in are.ascending j k c last b e is_last

    pub last_leads : Leads name s g last → IsLastCause plan t name s g (Some last)
    last_leads l = (are.just.only k last is_last, l, up_to_last)

    -- where the last one doesn't lead to the tag, none does
    pub last_leads_not : ¬ Leads name s g last → IsLastCause plan t name s g None
    last_leads_not d c i l = go (up_to_last c i l) (h.below k last (omega arith) is_last)
      where
        go : ComesUpTo c last → LiesBelow name s g true last → ⊥
        go (inl m) (inl b) = let x : c.name < last.name = m in let y : last.name < name = b in let z : c.name ≡ name = l.0 in omega arith
        go (inl m) (inr b) = let x : c.name < last.name = m in let y : last.name ≡ name = b.0 in let z : c.name ≡ name = l.0 in omega arith
        go (inr m) (inl b) = let x : c.name ≡ last.name = m.0 in let y : last.name < name = b in let z : c.name ≡ name = l.0 in omega arith
        go (inr m) (inr b) = by b.1
          where
            by : Before (shifted (tag_of last) s) g ⊎ ((true ≡ true) × (shifted (tag_of last) s ≡ g)) → ⊥
            by (inl f) = UpTo-not g (shifted (tag_of last) s) (subst (λ (z : Tag). UpTo z (shifted (tag_of last) s)) l.1 (shifted_mono (tag_of c) (tag_of last) s (tag_up c last m.1))) f
            by (inr f) = d (b.0, f.1)

-- where a cause stands
write_place : (g : Tag) (i : ℕ) (n : Name) (c : EventCause) → write_cause g i n ≡ Some c → c.place ≡ i
write_place g i (Port p) c e = let x : cause p g i ≡ c = cc in ap (λ (z : EventCause). z.place) (sym x)
write_place g i (Action a) c e = absurd (cc)

schedule_place : (program : Parts) (g : Tag) (i extra : ℕ) (n : Name) (c : EventCause) → schedule_cause program g i extra n ≡ Some c → c.place ≡ i
schedule_place program g i extra (Port p) c e = absurd (cc)
schedule_place program g i extra (Action a) c e = let x : cause (length program.ports + a) (after g (min_delay program a + extra)) i ≡ c = cc in ap (λ (z : EventCause). z.place) (sym x)

pub step_place : (program : Parts) (g : Tag) (i : ℕ) (s : Step) (c : EventCause) → step_cause program g i s ≡ Some c → c.place ≡ i
step_place program g i Start c e = absurd (cc)
step_place program g i (Read n v) c e = absurd (cc)
step_place program g i (Write n v) c e = write_place g i n c e
step_place program g i (Schedule n v d) c e = schedule_place program g i d n c e
step_place program g i Stop c e = absurd (cc)
step_place program g i End c e = absurd (cc)

pub event_place : (program : Parts) (i : ℕ) (event : Event) (c : EventCause) → event_cause program i event ≡ c → c.place ≡ i
event_place program i event c e = ap (λ (z : EventCause). z.place) (sym e)

-- where the place of a cause is that of a row it is the row, else an external event
pub row_there : (plan : PlanParts) (t : List Row) (c : EventCause) → IsCause plan t c → c.place < length t → IsRowCause plan.program t c
row_there plan t c (inl x) l = x
row_there plan t c (inr x) l = let e : c.place ≡ length t + x.place = event_place plan.program (length t + x.place) x.event c x.gives in absurd (omega arith)

pub event_there : (plan : PlanParts) (t : List Row) (c : EventCause) → IsCause plan t c → ¬ (c.place < length t) → IsEventCause plan.program t plan.externals.events c
event_there plan t c (inl x) n = let l : x.place < length t = slice_get_within t x.place x.row x.is_row in let e : c.place ≡ x.place = step_place plan.program x.row.tag x.place x.row.step c x.gives in absurd (n (omega arith))
event_there plan t c (inr x) n = x

-- what a step that is a cause does
step_writes : (program : Parts) (g : Tag) (i : ℕ) (s : Step) (c : EventCause) (p : ℕ) (v : Value) → p < length program.ports → step_cause program g i s ≡ Some c → c.name ≡ p → value_of s ≡ Some v → (tag_of c ≡ g) × (value_written p s ≡ Some v)
step_writes program g i Start c p v l e q f = absurd (cc)
step_writes program g i (Read n w) c p v l e q f = absurd (cc)
step_writes program g i (Write (Port o) w) c p v l e q f =
    let x : cause o g i ≡ c = cc in
    let y : o ≡ p = ap (λ (z : EventCause). z.name) x ∙ q in
    let z : w ≡ v = cc in
    (ap tag_of (sym x), subst (λ k. value_written k (Write (Port o) w) ≡ Some v) y (some_written o w ∙ ap Some z))
step_writes program g i (Write (Action a) w) c p v l e q f = absurd (cc)
step_writes program g i (Schedule (Port o) w d) c p v l e q f = absurd (cc)
step_writes program g i (Schedule (Action a) w d) c p v l e q f = let x : cause (length program.ports + a) (after g (min_delay program a + d)) i ≡ c = cc in let y : length program.ports + a ≡ p = ap (λ (z : EventCause). z.name) x ∙ q in absurd (omega arith)
step_writes program g i Stop c p v l e q f = absurd (cc)
step_writes program g i End c p v l e q f = absurd (cc)

-- a step that writes is a cause
writes_step : (program : Parts) (g : Tag) (i : ℕ) (s : Step) (p : ℕ) (v : Value) → value_written p s ≡ Some v → step_cause program g i s ≡ Some (cause p g i)
writes_step program g i s p v e = ap (step_cause program g i) (written_some p s v e)

pub step_schedules : (program : Parts) (g h : Tag) (i : ℕ) (s : Step) (c : EventCause) (a : ℕ) (v : Value) → StepFits program s → step_cause program h i s ≡ Some c → c.name ≡ length program.ports + a → tag_of c ≡ g → value_of s ≡ Some v → Schedules g a (min_delay program a) h s v
step_schedules program g h i Start c a v k e q m f = absurd (cc)
step_schedules program g h i (Read n w) c a v k e q m f = absurd (cc)
step_schedules program g h i (Write (Port o) w) c a v k e q m f = let x : cause o h i ≡ c = cc in let y : o ≡ length program.ports + a = ap (λ (z : EventCause). z.name) x ∙ q in let l : o < length program.ports = k in absurd (omega arith)
step_schedules program g h i (Write (Action b) w) c a v k e q m f = absurd (cc)
step_schedules program g h i (Schedule (Port o) w d) c a v k e q m f = absurd (cc)
step_schedules program g h i (Schedule (Action b) w d) c a v fits e q m f =
    let x : cause (length program.ports + b) (after h (min_delay program b + d)) i ≡ c = cc in
    let y : length program.ports + b ≡ length program.ports + a = ap (λ (z : EventCause). z.name) x ∙ q in
    let z : b ≡ a = omega arith in
    let u : w ≡ v = cc in
    let k : after h (min_delay program b + d) ≡ g = ap tag_of x ∙ m in
    record { extra = d; arrives = subst (λ j. after h (min_delay program j + d) ≡ g) z k; value_is = subst (λ j. value_scheduled j (Schedule (Action b) w d) ≡ Some (d, v)) z (some_scheduled b d w ∙ ap (λ j. Some (d, j)) u) }
step_schedules program g h i Stop c a v k e q m f = absurd (cc)
step_schedules program g h i End c a v k e q m f = absurd (cc)

pub schedules_step : (program : Parts) (g h : Tag) (i : ℕ) (s : Step) (a : ℕ) (v : Value) → Schedules g a (min_delay program a) h s v → step_cause program h i s ≡ Some (cause (length program.ports + a) g i)
schedules_step program g h i s a v x = ap (step_cause program h i) (scheduled_some a s (x.extra, v) x.value_is) ∙ ap (λ k. Some (cause (length program.ports + a) k i)) x.arrives

-- no shift leaves a tag where it is
pub none_leads : (g : Tag) → shifted g (0, 0) ≡ g
none_leads g = tag_from refl (omega arith)

-- a cause carries a value
step_carries : (program : Parts) (g : Tag) (i : ℕ) (s : Step) (c : EventCause) → step_cause program g i s ≡ Some c → ¬ (None ≡ value_of s)
step_carries program g i Start c e f = absurd (cc)
step_carries program g i (Read n v) c e f = absurd (cc)
step_carries program g i (Write n v) c e f = absurd (cc)
step_carries program g i (Schedule n v d) c e f = absurd (cc)
step_carries program g i Stop c e f = absurd (cc)
step_carries program g i End c e f = absurd (cc)

pub same_row : (t : List Row) (i j : ℕ) (x y : Row) → i ≡ j → slice_get t i ≡ Some x → slice_get t j ≡ Some y → x ≡ y
same_row t i j x y e p q = let a : Some x ≡ Some y = sym p ∙ ap (λ k. slice_get t k) e ∙ q in cc

-- the row of a cause at whose place a row stands
pub row_of : (plan : PlanParts) (t : List Row) (c : EventCause) (row : Row) → IsCause plan t c → slice_get t c.place ≡ Some row → step_cause plan.program row.tag c.place row.step ≡ Some c
row_of plan t c row i e =
    let x = row_there plan t c i (slice_get_within t c.place row e) in
    let p : c.place ≡ x.place = step_place plan.program x.row.tag x.place x.row.step c x.gives in
    let r : row ≡ x.row = same_row t c.place x.place row x.row p e x.is_row in
    ap (λ (z : Row). step_cause plan.program z.tag c.place z.step) r ∙ ap (λ k. step_cause plan.program x.row.tag k x.row.step) p ∙ x.gives

-- the event of a cause at whose place an event stands
pub event_of : (plan : PlanParts) (t : List Row) (c : EventCause) (i : ℕ) (event : Event) → IsCause plan t c → length t + i ≡ c.place → slice_get plan.externals.events i ≡ Some event → event_cause plan.program c.place event ≡ c
event_of plan t c i event k p e =
    let x = event_there plan t c k (λ l. omega arith) in
    let q : c.place ≡ length t + x.place = event_place plan.program (length t + x.place) x.event c x.gives in
    let r : i ≡ x.place = omega arith in
    let a : Some event ≡ Some x.event = sym e ∙ ap (λ j. slice_get plan.externals.events j) r ∙ x.is_event in
    let b : event ≡ x.event = cc in
    ap (λ (z : Event). event_cause plan.program c.place z) b ∙ ap (λ j. event_cause plan.program j x.event) q ∙ x.gives

pub value_from : (plan : PlanParts) (t : List Row) (name : ℕ) (s : Folded) (g : Tag) (c : EventCause) (o : Option Value) → IsLastCause plan t name s g (Some c) → Carries plan t c o → IsValueFrom plan t name s g o
value_from plan t name s g c (Some v) last carries = (c, last, carries)
value_from plan t name s g c None last (inl x) = absurd (step_carries plan.program x.0.tag c.place x.0.step c (row_of plan t c x.0 last.0 x.1) x.2)
value_from plan t name s g c None last (inr x) = let e : None ≡ Some x.1.value = x.4 in absurd (cc)

-- each cause carries a value
pub carrier : (plan : PlanParts) (t : List Row) (c : EventCause) → IsCause plan t c → (v : Value) × Carries plan t c (Some v)
carrier plan t c (inr x) = (x.event.value, inr (x.place, x.event, sym (event_place plan.program (length t + x.place) x.event c x.gives), x.is_event, refl))
carrier plan t c (inl x) = go (value_of x.row.step) refl
  where
    here : slice_get t c.place ≡ Some x.row
    here = ap (λ k. slice_get t k) (step_place plan.program x.row.tag x.place x.row.step c x.gives) ∙ x.is_row

    go : (o : Option Value) → o ≡ value_of x.row.step → (v : Value) × Carries plan t c (Some v)
    go None e = absurd (step_carries plan.program x.row.tag x.place x.row.step c x.gives e)
    go (Some v) e = (v, inl (x.row, here, e))

-- the delays of the chain of a port, and that the shift kept with it leads where they do
pub record ChainOf (program : Parts) (p : ℕ) (port : PortOf) : Type 0 where
  pub delays : List ℕ
  pub is_origin : Origin program p port.origin delays
  pub leads : (h : Tag) → shifted h (port.shift.time, port.shift.steps) ≡ after_all h delays

-- every port of a sound program has such a chain
pub chain_of : (program : Parts) → IsSound program → (p : ℕ) (port : PortOf) → slice_get program.ports p ≡ Some port → ChainOf program p port
chain_of program sound p port e = let o = sound.origins p port e in record { delays = o.0; is_origin = o.1; leads = λ h. ap (λ s. shifted h s) (sym o.2) ∙ shifted_chain h o.0 }

-- the event of a port
module _ (plan : PlanParts) (t : List Row) (g : Tag) (p : ℕ) (port : PortOf) (chain : ChainOf plan.program p port) where
  s : Folded
  s = (port.shift.time, port.shift.steps)

  known : port.origin < length plan.program.ports
  known = origin_inside chain.is_origin

  -- a row that writes the origin is a cause
  written_cause : (i : ℕ) (row : Row) (v : Value) → slice_get t i ≡ Some row → value_written port.origin row.step ≡ Some v → IsCause plan t (cause port.origin row.tag i)
  written_cause i row v e w = inl (record { place = i; row = row; is_row = e; gives = writes_step plan.program row.tag i row.step port.origin v w })

  port_last : (c : EventCause) (v : Value) → IsLastCause plan t port.origin (port.shift.time, port.shift.steps) g (Some c) → Carries plan t c (Some v) → At plan t g (Port p) v
  port_last c v last (inr x) = let q = event_of plan t c x.0 x.1 last.0 x.2 x.3 in let y : length plan.program.ports + x.1.action ≡ port.origin = ap (λ (z : EventCause). z.name) q ∙ last.1.0 in let l : port.origin < length plan.program.ports = known in absurd (omega arith)
  port_last c v last (inl x) = (row.tag, record { origin = port.origin; delays = chain.delays; is_origin = chain.is_origin; arrives = arrives; is_last = last_by_place (written row.tag port.origin) t v (record { place = c.place; item = row; is_item = x.1; gives = by_written row.tag port.origin row v refl writes.1; none_after = none_after }) })
    where
      row : Row
      row = x.0

      writes : (tag_of c ≡ row.tag) × (value_written port.origin row.step ≡ Some v)
      writes = step_writes plan.program row.tag c.place row.step c port.origin v known (row_of plan t c row last.0 x.1) last.1.0 (sym x.2)

      arrives : after_all row.tag chain.delays ≡ g
      arrives = sym (chain.leads row.tag) ∙ ap (λ (k : Tag). shifted k (port.shift.time, port.shift.steps)) (sym writes.0) ∙ last.1.1

      none_after : (j : ℕ) (y : Row) → c.place < j → slice_get t j ≡ Some y → written row.tag port.origin y ≡ None
      none_after j y l e = go (written row.tag port.origin y) refl
        where
          not_up : y.tag ≡ row.tag → ComesUpTo (cause port.origin y.tag j) c → ⊥
          not_up q (inl m) = let a : port.origin < c.name = m in let b : c.name ≡ port.origin = last.1.0 in omega arith
          not_up q (inr (m, inl b)) = Before-irrefl row.tag (subst (λ (z : Tag). Before z row.tag) q (subst (λ (z : Tag). Before y.tag z) writes.0 b))
          not_up q (inr (m, inr b)) = let a : j ≤ c.place = b.1 in omega arith

          go : (o : Option Value) → written row.tag port.origin y ≡ o → written row.tag port.origin y ≡ None
          go None z = z
          go (Some w) z =
              let q = written_by row.tag port.origin y w z in
              let leads : shifted y.tag (port.shift.time, port.shift.steps) ≡ g = ap (λ (k : Tag). shifted k (port.shift.time, port.shift.steps)) (q.0 ∙ sym writes.0) ∙ last.1.1 in
              absurd (not_up q.0 (last.2 (cause port.origin y.tag j) (written_cause j y w e q.1) (refl, leads)))

  pub port_some : (o : Option Value) → IsValueFrom plan t port.origin (port.shift.time, port.shift.steps) g o → IfSome o (λ v. At plan t g (Port p) v)
  port_some None h = tt
  port_some (Some v) h = port_last h.0 v h.1 h.2

  -- what is present is of a cause
  pub port_cause_at : (h : Tag) (v : Value) → IsWrittenFrom plan t g p h v → (c : EventCause) × IsCause plan t c × Leads port.origin (port.shift.time, port.shift.steps) g c × (tag_of c ≡ h)
  port_cause_at h v w =
      let same = origin_unique w.is_origin chain.is_origin in
      let last : last_or None (filter_map (written h port.origin) t) ≡ Some v = subst (λ (o : ℕ). last_or None (filter_map (written h o) t) ≡ Some v) same.0 w.is_last in
      let r = last_at (written h port.origin) t v last in
      let q = written_by h port.origin r.item v r.gives in
      let leads : shifted r.item.tag (port.shift.time, port.shift.steps) ≡ g = ap (λ (k : Tag). shifted k (port.shift.time, port.shift.steps)) q.0 ∙ chain.leads h ∙ ap (λ ds. after_all h ds) (sym same.1) ∙ w.arrives in
      (cause port.origin r.item.tag r.place, written_cause r.place r.item v r.is_item q.1, (refl, leads), q.0)

  pub port_cause : IsPresent plan t g (Port p) → (c : EventCause) × IsCause plan t c × Leads port.origin (port.shift.time, port.shift.steps) g c
  port_cause x = let c = port_cause_at x.1.0 x.0 x.1.1 in (c.0, c.1, c.2)

  pub port_none : (o : Option Value) → IsValueFrom plan t port.origin (port.shift.time, port.shift.steps) g o → IfNone o (IsPresent plan t g (Port p) → ⊥)
  port_none (Some v) h = tt
  port_none None h = λ x. let c = port_cause x in h c.0 c.1 c.2

  -- what a cause leads to is present: the last write at the tag of the cause
  pub port_from : (c : EventCause) → IsCause plan t c → Leads port.origin (port.shift.time, port.shift.steps) g c → (v : Value) × IsWrittenFrom plan t g p (tag_of c) v
  port_from c i l = go (carrier plan t c i)
    where
      go : (v : Value) × Carries plan t c (Some v) → (v : Value) × IsWrittenFrom plan t g p (tag_of c) v
      go (v, inr x) = let q = event_of plan t c x.0 x.1 i x.2 x.3 in let y : length plan.program.ports + x.1.action ≡ port.origin = ap (λ (z : EventCause). z.name) q ∙ l.0 in let m : port.origin < length plan.program.ports = known in absurd (omega arith)
      go (v, inl x) =
          let writes = step_writes plan.program x.0.tag c.place x.0.step c port.origin v known (row_of plan t c x.0 i x.1) l.0 (sym x.2) in
          let arrives : after_all x.0.tag chain.delays ≡ g = sym (chain.leads x.0.tag) ∙ ap (λ (k : Tag). shifted k (port.shift.time, port.shift.steps)) (sym writes.0) ∙ l.1 in
          let w = last_of_mem v (filter_map (written x.0.tag port.origin) t) (mem_filter (written x.0.tag port.origin) x.0 v t (mem_get t c.place x.0 x.1) (by_written x.0.tag port.origin x.0 v refl writes.1)) in
          (w.0, subst (λ (h : Tag). IsWrittenFrom plan t g p h w.0) (sym writes.0) (record { origin = port.origin; delays = chain.delays; is_origin = chain.is_origin; arrives = arrives; is_last = w.1 }))

  pub port_present : (c : EventCause) → IsCause plan t c → Leads port.origin (port.shift.time, port.shift.steps) g c → IsPresent plan t g (Port p)
  port_present c i l = let w = port_from c i l in (w.0, (tag_of c, w.1))

-- the event of an action
module _ (plan : PlanParts) (t : List Row) (fit : RowsFit plan.program t) (g : Tag) (a : ℕ) where
  pub given_there : (event : Event) (v : Value) → g ≡ event.tag → a ≡ event.action → event.value ≡ v → given g a event ≡ Some v
  given_there event v e q w = ap (λ b. cond b (Some event.value) None) (and_from (same_tag g event.tag) (a == event.action) (same_tag_refl g event.tag e) (eq-eqb a event.action q)) ∙ ap Some w

  action_last : (c : EventCause) (v : Value) → IsCause plan t c → Leads (length plan.program.ports + a) (0, 0) g c → Carries plan t c (Some v) → At plan t g (Action a) v
  action_last c v i l (inl x) =
      let there : tag_of c ≡ g = sym (none_leads (tag_of c)) ∙ l.1 in
      let does = step_schedules plan.program g x.0.tag c.place x.0.step c a v (fit.each c.place x.0 x.1).step (row_of plan t c x.0 i x.1) l.0 there (sym x.2) in
      mem_contains v (events_of plan t g a) (mem_left v (filter_map (scheduled g a (min_delay plan.program a)) t) (filter_map (given g a) plan.externals.events) (mem_filter (scheduled g a (min_delay plan.program a)) x.0 v t (mem_get t c.place x.0 x.1) (by_scheduled g a (min_delay plan.program a) x.0 v does)))
  action_last c v i l (inr x) =
      let q = event_of plan t c x.0 x.1 i x.2 x.3 in
      let there : tag_of c ≡ g = sym (none_leads (tag_of c)) ∙ l.1 in
      let y : length plan.program.ports + x.1.action ≡ length plan.program.ports + a = ap (λ (z : EventCause). z.name) q ∙ l.0 in
      let z : x.1.tag ≡ g = ap tag_of q ∙ there in
      let w : ◌≡◌ {A = Option Value} (Some v) (Some x.1.value) = x.4 in
      let u : x.1.value ≡ v = cc in
      mem_contains v (events_of plan t g a) (mem_right v (filter_map (scheduled g a (min_delay plan.program a)) t) (filter_map (given g a) plan.externals.events) (mem_filter (given g a) x.1 v plan.externals.events (mem_get plan.externals.events x.0 x.1 x.3) (given_there x.1 v (sym z) (omega arith) u)))

  -- each event of the action is of a cause
  row_event : (v : Value) → Mem v (filter_map (scheduled g a (min_delay plan.program a)) t) → (c : EventCause) × IsCause plan t c × Leads (length plan.program.ports + a) (0, 0) g c
  row_event v m =
      let f = mem_from_filter (scheduled g a (min_delay plan.program a)) t v m in
      let p = get_mem f.0 t f.1 in
      let d = scheduled_by g a (min_delay plan.program a) f.0 v f.2 in
      (cause (length plan.program.ports + a) g p.0, inl (record { place = p.0; row = f.0; is_row = p.1; gives = schedules_step plan.program g f.0.tag p.0 f.0.step a v d }), (refl, none_leads g))

  given_event : (v : Value) → Mem v (filter_map (given g a) plan.externals.events) → (c : EventCause) × IsCause plan t c × Leads (length plan.program.ports + a) (0, 0) g c
  given_event v m =
      let f = mem_from_filter (given g a) plan.externals.events v m in
      let p = get_mem f.0 plan.externals.events f.1 in
      let b = both_true (same_tag g f.0.tag) (a == f.0.action) (cond_some (same_tag g f.0.tag && (a == f.0.action)) f.0.value v f.2).0 in
      let e : g ≡ f.0.tag = same_tag_true g f.0.tag b.0 in
      let q : a ≡ f.0.action = eqb-true a f.0.action b.1 in
      (event_cause plan.program (length t + p.0) f.0, inr (record { place = p.0; event = f.0; is_event = p.1; gives = refl }), (ap (λ k. length plan.program.ports + k) (sym q), none_leads f.0.tag ∙ sym e))

  pub action_some : (o : Option Value) → IsValueFrom plan t (length plan.program.ports + a) (0, 0) g o → IfSome o (λ v. At plan t g (Action a) v)
  action_some None h = tt
  action_some (Some v) h = action_last h.0 v h.1.0 h.1.1 h.2

  pub action_present : (c : EventCause) → IsCause plan t c → Leads (length plan.program.ports + a) (0, 0) g c → IsPresent plan t g (Action a)
  action_present c i l = let v = carrier plan t c i in (v.0, action_last c v.0 i l v.1)

  pub action_cause : IsPresent plan t g (Action a) → (c : EventCause) × IsCause plan t c × Leads (length plan.program.ports + a) (0, 0) g c
  action_cause x = go x.0 (mem_cases x.0 (filter_map (scheduled g a (min_delay plan.program a)) t) (filter_map (given g a) plan.externals.events) (contains_mem x.0 (events_of plan t g a) x.1))
    where
      go : (v : Value) → Mem v (filter_map (scheduled g a (min_delay plan.program a)) t) ⊎ Mem v (filter_map (given g a) plan.externals.events) → (c : EventCause) × IsCause plan t c × Leads (length plan.program.ports + a) (0, 0) g c
      go v (inl m) = row_event v m
      go v (inr m) = given_event v m

  pub action_none : (o : Option Value) → IsValueFrom plan t (length plan.program.ports + a) (0, 0) g o → IfNone o (IsPresent plan t g (Action a) → ⊥)
  action_none (Some v) h = tt
  action_none None h = λ x. let c = action_cause x in h c.0 c.1 c.2

-- what stands for a name among the causes: the origin of a port with its shift, or an action
abbrev pub IsKey : Parts → Name → ℕ → Folded → Type 0
IsKey program (Port p) key s = (port : PortOf) × (slice_get program.ports p ≡ Some port) × (key ≡ port.origin) × (s ≡ (port.shift.time, port.shift.steps))
IsKey program (Action a) key s = (key ≡ length program.ports + a) × (s ≡ (0, 0))

-- a port or action is present where a cause leads
module _ (plan : PlanParts) (t : List Row) (sound : IsSound plan.program) (fit : RowsFit plan.program t) (g : Tag) where
  pub present_cause : (n : Name) (key : ℕ) (s : Folded) → IsKey plan.program n key s → IsPresent plan t g n → (c : EventCause) × IsCause plan t c × Leads key s g c
  present_cause (Port p) key s k x = let c = port_cause plan t g p k.0 (chain_of plan.program sound p k.0 k.1) x in (c.0, c.1, subst (λ z. Leads key z g c.0) (sym k.3) (subst (λ z. Leads z (k.0.shift.time, k.0.shift.steps) g c.0) (sym k.2) c.2))
  present_cause (Action a) key s k x = let c = action_cause plan t fit g a x in (c.0, c.1, subst (λ z. Leads key z g c.0) (sym k.1) (subst (λ z. Leads z (0, 0) g c.0) (sym k.0) c.2))

  pub cause_present : (n : Name) (key : ℕ) (s : Folded) → IsKey plan.program n key s → (c : EventCause) → IsCause plan t c → Leads key s g c → IsPresent plan t g n
  cause_present (Port p) key s k c i l = port_present plan t g p k.0 (chain_of plan.program sound p k.0 k.1) c i (subst (λ z. Leads z (k.0.shift.time, k.0.shift.steps) g c) k.2 (subst (λ z. Leads key z g c) k.3 l))
  cause_present (Action a) key s k c i l = action_present plan t fit g a c i (subst (λ z. Leads z (0, 0) g c) k.0 (subst (λ z. Leads key z g c) k.1 l))
