-- The events in the queue, when a step of a run is fed to it.
use Rattle.std.proofs.Common.{◌≡◌, ◌↔◌, ℕ, zero, suc, ◌+◌, ◌<◌, ◌≤◌, ◌⊎◌, inl, inr, List, [], ◌∷◌, ◌++◌, length, length-append, map, take, refl, sym, ap, ◌∙◌, subst, arith, Option, Some, None, IsSome, is_some, IsTrue, Bool, true, false, cond, nat_eq, ◌==◌, slice_get, filter_map, Contains, eq-eqb}
use Rattle.std.specs.{Cmp.nat_eq_equiv, List.{cons_option, last_or, list_any}}
use Rattle.std.proofs.lemmas.{Bool.{false≢true, cases_eq}, List.Elements.filter_map-append, Map.Views.list_any-from_Contains}
use Rattle.lft_tag.{specs.{declared.Tag.Tag, Tags.{Before, UpTo, after}}, proofs.Order.{UpTo-refl, UpTo-trans, Before-weaken, after_past}}
use Rattle.lft_lists.proofs.{Places.same_some, Members.{Mem, mem_contains, contains_mem, nil_of_none, mem_left, mem_right}}
use Rattle.lft_ir.proofs.{Origins.port_of, Naming.name_self}
use Rattle.lft_ir.specs.declared.parts.{Port.Port as PortOf, Value.Value, Name.{Name, TheVariants.{Port, Action}}}
use Rattle.lft_ir.specs.declared.steps.row.{Row.Row, Step.{Step, TheVariants.{Write, Schedule, End}}}
use Rattle.lft_ir.specs.Naming.{same_name}
use Rattle.lft_queue.specs.Pending.{Pending, value_of}
use Rattle.lft_scheduler.specs.inner.Listeners.{IsArrival, IsWatched}
use Rattle.lft_scheduler.specs.inner.Events.{IsEarlier, IsWanted, IsEventPut, IsWatchedName, HasEvents, HasEventsOf, seen_by, IsFedTo, WasWritten, KnowsAgain}
use Rattle.lft_scheduler.proofs.{Heard.{heard, unheard, iff_trans, iff_sym}, Written.{origin_at, its_origin, unheard_at, unheard_clash, more_clash}}
use Rattle.lft_scheduler.proofs.{Carried.{carried, earlier_up}, Fed.{none_there, some_there, among_new}}
use Rattle.lft_model.specs.Plans.{PlanParts, IsSoundPlan}
use Rattle.lft_model.specs.Presence.{written, value_scheduled, scheduled, given, min_delay, events_of, Last, IsWrittenFrom, At, PortClash, ClashesAt}
use Rattle.lft_model.specs.Recorded.{run_row, committed_rows}
use Rattle.lft_model.proofs.{Steps.{written_some, scheduled_some, some_scheduled}, Ended.{written_by, scheduled_by, by_scheduled}, Grown.added_none}

-- a row that schedules nothing for an action
pub none_scheduled : (plan : PlanParts) (t : List Row) (x : Row) (k : Tag) (a : ℕ) → scheduled k a (min_delay plan.program a) x ≡ None → events_of plan (t ++ x ∷ []) k a ≡ events_of plan t k a
none_scheduled plan t x k a e = ap (λ (vs : List Value). vs ++ filter_map (given k a) plan.externals.events) (added_none (scheduled k a (min_delay plan.program a)) t (x ∷ []) none)
  where
    none : (y : Row) → Mem y (x ∷ []) → scheduled k a (min_delay plan.program a) y ≡ None
    none y (inl q) = subst (λ (z : Row). scheduled k a (min_delay plan.program a) z ≡ None) q e
    none y (inr m) = absurd m

pub action_at : (plan : PlanParts) (s t : List Row) (k : Tag) (a : ℕ) → events_of plan s k a ≡ events_of plan t k a → (u : Value) → At plan s k (Action a) u ↔ At plan t k (Action a) u
action_at plan s t k a e u = (λ c. subst (λ (vs : List Value). Contains vs u) e c, λ c. subst (λ (vs : List Value). Contains vs u) (sym e) c)

pub action_clash : (plan : PlanParts) (s t : List Row) (k : Tag) (a : ℕ) → events_of plan s k a ≡ events_of plan t k a → ClashesAt plan s k (Action a) ↔ ClashesAt plan t k (Action a)
action_clash plan s t k a e = (λ c. subst (λ (vs : List Value). 2 ≤ length vs) e c, λ c. subst (λ (vs : List Value). 2 ≤ length vs) (sym e) c)

-- a row that isn't a scheduling of the action that arrives at the tag
not_scheduled : (x : Row) (k : Tag) (a min : ℕ) → ((v : Value) (d : ℕ) → x.step ≡ Schedule (Action a) v d → after x.tag (min + d) ≡ k → ⊥) → scheduled k a min x ≡ None
not_scheduled x k a min n = go (scheduled k a min x) refl
  where
    go : (o : Option Value) → scheduled k a min x ≡ o → scheduled k a min x ≡ None
    go None e = e
    go (Some v) e = let s = scheduled_by k a min x v e in absurd (n v s.extra (scheduled_some a x.step (s.extra, v) s.value_is) s.arrives)

-- a row that isn't a write of the port at the tag
not_written : (x : Row) (k : Tag) (c : ℕ) → ((v : Value) → x.step ≡ Write (Port c) v → ⊥) → written k c x ≡ None
not_written x k c n = go (written k c x) refl
  where
    go : (o : Option Value) → written k c x ≡ o → written k c x ≡ None
    go None e = e
    go (Some v) e = absurd (n v (written_some c x.step v (written_by k c x v e).1))

-- a row that writes no port
module _ (plan : PlanParts) (t : List Row) (x : Row) (none : (c : ℕ) (v : Value) → x.step ≡ Write (Port c) v → ⊥) where
  last_kept : (h : Tag) (c : ℕ) (u : Value) → (Last (t ++ x ∷ []) h c u → Last t h c u) × (Last t h c u → Last (t ++ x ∷ []) h c u)
  last_kept h c u = subst (λ (vs : List Value). (Last (t ++ x ∷ []) h c u → last_or None vs ≡ Some u) × (last_or None vs ≡ Some u → Last (t ++ x ∷ []) h c u)) (added_none (written h c) t (x ∷ []) all) (λ l. l, λ l. l)
    where
      all : (y : Row) → Mem y (x ∷ []) → written h c y ≡ None
      all y (inl q) = subst (λ (z : Row). written h c z ≡ None) q (not_written x h c (none c))
      all y (inr m) = absurd m

  back : (k h : Tag) (p : ℕ) (u : Value) → IsWrittenFrom plan (t ++ x ∷ []) k p h u → IsWrittenFrom plan t k p h u
  back k h p u w = record { origin = w.origin; delays = w.delays; is_origin = w.is_origin; arrives = w.arrives; is_last = (last_kept h w.origin u).0 w.is_last }

  on : (k h : Tag) (p : ℕ) (u : Value) → IsWrittenFrom plan t k p h u → IsWrittenFrom plan (t ++ x ∷ []) k p h u
  on k h p u w = record { origin = w.origin; delays = w.delays; is_origin = w.is_origin; arrives = w.arrives; is_last = (last_kept h w.origin u).1 w.is_last }

  pub port_at : (p : ℕ) (k : Tag) (u : Value) → At plan (t ++ x ∷ []) k (Port p) u ↔ At plan t k (Port p) u
  port_at p k u = (λ a. (a.0, back k a.0 p u a.1), λ a. (a.0, on k a.0 p u a.1))

  pub port_clash : (p : ℕ) (k : Tag) → ClashesAt plan (t ++ x ∷ []) k (Port p) ↔ ClashesAt plan t k (Port p)
  port_clash p k = (to, from)
    where
      to : PortClash plan (t ++ x ∷ []) k p → PortClash plan t k p
      to c = record { first = c.first; second = c.second; first_value = c.first_value; second_value = c.second_value; is_first = back k c.first p c.first_value c.is_first; is_second = back k c.second p c.second_value c.is_second; differ = c.differ }

      from : PortClash plan t k p → PortClash plan (t ++ x ∷ []) k p
      from c = record { first = c.first; second = c.second; first_value = c.first_value; second_value = c.second_value; is_first = on k c.first p c.first_value c.is_first; is_second = on k c.second p c.second_value c.is_second; differ = c.differ }

-- a row that neither writes a port nor schedules an action
pub inert : (plan : PlanParts) (t : List Row) (x : Row) → ((c : ℕ) (v : Value) → x.step ≡ Write (Port c) v → ⊥) → ((a d : ℕ) (v : Value) → x.step ≡ Schedule (Action a) v d → ⊥) → (from last : Tag) (clash : Option Tag) (q : List Pending) → HasEvents plan t from last clash q → HasEvents plan (t ++ x ∷ []) from last clash q
inert plan t x no_write no_schedule from last clash q is = unheard plan (λ n. t) (λ n. t ++ x ∷ []) from last clash q ats clashes is
  where
    ats : (n : Name) (k : Tag) (u : Value) → At plan (t ++ x ∷ []) k n u ↔ At plan t k n u
    ats (Port p) k u = port_at plan t x no_write p k u
    ats (Action a) k u = action_at plan (t ++ x ∷ []) t k a (none_scheduled plan t x k a (not_scheduled x k a (min_delay plan.program a) (λ v d e q. no_schedule a d v e))) u

    clashes : (n : Name) (k : Tag) → ClashesAt plan (t ++ x ∷ []) k n ↔ ClashesAt plan t k n
    clashes (Port p) k = port_clash plan t x no_write p k
    clashes (Action a) k = action_clash plan (t ++ x ∷ []) t k a (none_scheduled plan t x k a (not_scheduled x k a (min_delay plan.program a) (λ v d e q. no_schedule a d v e)))

-- all watched ports of the origin have heard of a write
module _ (plan : PlanParts) (good : IsSoundPlan plan) (t : List Row) (x : Row) (o : ℕ) (v : Value) (writes : x.step ≡ Write (Port o) v) (last : Tag) (clash : Option Tag) (q : List Pending) (ports : List ℕ) (all : (p : ℕ) → IsArrival plan.program o p → IsWatched plan.program p → Contains ports p) (is : IsFedTo plan t x last ports clash q) where
  abbrev seen : Name → List Row
  seen = seen_by ports (t ++ x ∷ []) t

  no_schedule : (k : Tag) (a : ℕ) → scheduled k a (min_delay plan.program a) x ≡ None
  no_schedule k a = not_scheduled x k a (min_delay plan.program a) (λ u d e z. let y : Write (Port o) v ≡ Schedule (Action a) u d = sym writes ∙ e in absurd (cc))

  no_port : (p : ℕ) → IsWatched plan.program p → list_any (nat_eq p) ports ≡ false → (port : PortOf) → slice_get plan.program.ports p ≡ Some port → ¬ (port.origin ≡ o)
  no_port p w f port e z = false≢true (sym f ∙ list_any-from_Contains nat_eq_equiv p ports (all p (port, e, z) w))

  ats : (n : Name) → IsWatchedName plan.program n → (k : Tag) (u : Value) → At plan (t ++ x ∷ []) k n u ↔ At plan (seen n) k n u
  ats (Port p) w k u = go (list_any (nat_eq p) ports) refl
    where
      go : (b : Bool) → list_any (nat_eq p) ports ≡ b → At plan (t ++ x ∷ []) k (Port p) u ↔ At plan (cond b (t ++ x ∷ []) t) k (Port p) u
      go true e = (λ a. a, λ a. a)
      go false e = unheard_at plan good t x o v writes p (no_port p w e) k u
  ats (Action a) w k u = action_at plan (t ++ x ∷ []) t k a (none_scheduled plan t x k a (no_schedule k a)) u

  -- a port of another origin has what it had
  other_port : (p : ℕ) (port : PortOf) → slice_get plan.program.ports p ≡ Some port → (port.origin ≡ o → ⊥) → (k : Tag) → ClashesAt plan (t ++ x ∷ []) k (Port p) ↔ ClashesAt plan (seen (Port p)) k (Port p)
  other_port p port there other k = go (list_any (nat_eq p) ports)
    where
      go : (b : Bool) → ClashesAt plan (t ++ x ∷ []) k (Port p) ↔ ClashesAt plan (cond b (t ++ x ∷ []) t) k (Port p)
      go true = (λ c. c, λ c. c)
      go false = unheard_clash plan good t x o v writes p (λ z e f. other (ap (λ (y : PortOf). y.origin) (same_some (slice_get plan.program.ports p) port z there e) ∙ f)) k

  -- a port of the origin collides where a watched one does
  own_port : (p : ℕ) (port : PortOf) → slice_get plan.program.ports p ≡ Some port → port.origin ≡ o → (k : Tag) → UpTo k last → IsEarlier clash k → ¬ PortClash plan (t ++ x ∷ []) k p
  own_port p port there its k b e c =
      let f = carried plan good (t ++ x ∷ []) p port there k c in
      let heard : Contains ports f.port = all f.port (subst (λ (z : ℕ). IsArrival plan.program z f.port) its f.arrives) f.watched in
      is.clean f.tag (Port f.port) (UpTo-trans f.tag k last f.sooner b) (earlier_up clash f.tag k f.sooner e) (subst (λ (rows : List Row). PortClash plan rows f.tag f.port) (sym (among_new (t ++ x ∷ []) t ports f.port heard)) f.collides)

  clean : (k : Tag) (n : Name) → UpTo k last → IsEarlier clash k → ¬ ClashesAt plan (t ++ x ∷ []) k n
  clean k (Action a) b e c = is.clean k (Action a) b e ((action_clash plan (t ++ x ∷ []) t k a (none_scheduled plan t x k a (no_schedule k a))).0 c)
  clean k (Port p) b e c = let port = port_of c.is_first.is_origin in go port.0 port.1 (cases_eq port.0.origin o)
    where
      go : (port : PortOf) → slice_get plan.program.ports p ≡ Some port → (port.origin ≡ o) ⊎ (port.origin ≡ o → ⊥) → ⊥
      go port there (inl its) = own_port p port there its k b e c
      go port there (inr other) = is.clean k (Port p) b e ((other_port p port there other k).0 c)

  -- what collided does so still
  collides : (n : Name) (k : Tag) → ClashesAt plan (seen n) k n → ClashesAt plan (t ++ x ∷ []) k n
  collides (Action a) k c = (action_clash plan (t ++ x ∷ []) t k a (none_scheduled plan t x k a (no_schedule k a))).1 c
  collides (Port p) k c = go (list_any (nat_eq p) ports) c
    where
      by : (port : PortOf) → slice_get plan.program.ports p ≡ Some port → (port.origin ≡ o) ⊎ (port.origin ≡ o → ⊥) → PortClash plan t k p → PortClash plan (t ++ x ∷ []) k p
      by port there (inl its) d = more_clash plan good t x o v writes p port there its k d
      by port there (inr other) d = (unheard_clash plan good t x o v writes p (λ z e f. other (ap (λ (y : PortOf). y.origin) (same_some (slice_get plan.program.ports p) port z there e) ∙ f)) k).1 d

      go : (b : Bool) → PortClash plan (cond b (t ++ x ∷ []) t) k p → PortClash plan (t ++ x ∷ []) k p
      go true d = d
      go false d = let port = port_of d.is_first.is_origin in by port.0 port.1 (cases_eq port.0.origin o) d

  pub write_fed : HasEvents plan (t ++ x ∷ []) x.tag last clash q
  write_fed = record {
    values = λ h n u w a b e. iff_trans (is.values h n u w a b e) (iff_sym (ats n w h u));
    clean = clean;
    found = λ c e. (let f = is.found c e in (f.0, f.1, (f.2.0, collides f.2.0 c f.2.1)));
  }

-- no port has heard of it yet
pub none_fed : (plan : PlanParts) (t : List Row) (x : Row) (last : Tag) (clash : Option Tag) (q : List Pending) → HasEvents plan t x.tag last clash q → IsFedTo plan t x last [] clash q
none_fed plan t x last clash q is = unheard plan (λ n. t) (seen_by [] (t ++ x ∷ []) t) x.tag last clash q ats clashes is
  where
    ats : (n : Name) (k : Tag) (u : Value) → At plan (seen_by [] (t ++ x ∷ []) t n) k n u ↔ At plan t k n u
    ats (Port p) k u = (λ a. a, λ a. a)
    ats (Action a) k u = (λ a. a, λ a. a)

    clashes : (n : Name) (k : Tag) → ClashesAt plan (seen_by [] (t ++ x ∷ []) t n) k n ↔ ClashesAt plan t k n
    clashes (Port p) k = (λ a. a, λ a. a)
    clashes (Action a) k = (λ a. a, λ a. a)

-- what was found is later than the tag
pub found_later : (plan : PlanParts) (t : List Row) (g last : Tag) (clash : Option Tag) (q : List Pending) → HasEvents plan t g last clash q → IsEarlier clash g
found_later plan t g last None q is = tt
found_later plan t g last (Some c) q is = (is.found c refl).0

-- whether the origin was written at the tag is seen by its own event there
pub knows_again : (plan : PlanParts) (good : IsSoundPlan plan) (t : List Row) (g last : Tag) (clash : Option Tag) (q : List Pending) (o : ℕ) (b : Bool) → UpTo g last → HasEvents plan t g last clash q → b ≡ is_some (value_of g (Port o) q) → KnowsAgain plan t g o b
knows_again plan good t g last clash q o b u is e p port is_port its = (to, from)
  where
    values : (w : Value) → (value_of g (Port o) q ≡ Some w) ↔ Last t g o w
    values w = subst (λ (c : ℕ). (value_of g (Port c) q ≡ Some w) ↔ Last t g c w) its (iff_trans (is.values g (Port port.origin) w (inr (inl (its_origin plan good p port is_port))) (UpTo-refl g) u (found_later plan t g last clash q is)) (origin_at plan good p port is_port t g w))

    to : IsTrue b → WasWritten t g o
    to x = let s = some_there (value_of g (Port o) q) (sym e ∙ x) in (s.0, (values s.0).0 s.1)

    from : WasWritten t g o → IsTrue b
    from w = e ∙ ap is_some ((values w.0).1 w.1)

-- a scheduling of an action
module _ (plan : PlanParts) (t : List Row) (x : Row) (a d : ℕ) (v : Value) (schedules : x.step ≡ Schedule (Action a) v d) where
  arrives : scheduled (after x.tag (min_delay plan.program a + d)) a (min_delay plan.program a) x ≡ Some v
  arrives = by_scheduled (after x.tag (min_delay plan.program a + d)) a (min_delay plan.program a) x v (record { extra = d; arrives = refl; value_is = ap (λ (s : Step). value_scheduled a s) schedules ∙ some_scheduled a d v })

  -- the events there: one more
  events_there : events_of plan (t ++ x ∷ []) (after x.tag (min_delay plan.program a + d)) a ≡ (filter_map (scheduled (after x.tag (min_delay plan.program a + d)) a (min_delay plan.program a)) t ++ v ∷ []) ++ filter_map (given (after x.tag (min_delay plan.program a + d)) a) plan.externals.events
  events_there = ap (λ (vs : List Value). vs ++ filter_map (given (after x.tag (min_delay plan.program a + d)) a) plan.externals.events) (filter_map-append (scheduled (after x.tag (min_delay plan.program a + d)) a (min_delay plan.program a)) t (x ∷ []) ∙ ap (λ (o : Option Value). filter_map (scheduled (after x.tag (min_delay plan.program a + d)) a (min_delay plan.program a)) t ++ cons_option o []) arrives)

  -- another action, or another tag
  same_events : (k : Tag) (b : ℕ) → ((b ≡ a) × (after x.tag (min_delay plan.program a + d) ≡ k) → ⊥) → events_of plan (t ++ x ∷ []) k b ≡ events_of plan t k b
  same_events k b n = none_scheduled plan t x k b (not_scheduled x k b (min_delay plan.program b) never)
    where
      never : (u : Value) (e : ℕ) → x.step ≡ Schedule (Action b) u e → after x.tag (min_delay plan.program b + e) ≡ k → ⊥
      never u e s q =
          let z : Schedule (Action a) v d ≡ Schedule (Action b) u e = sym schedules ∙ s in
          let p : b ≡ a = cc in
          let r : e ≡ d = cc in
          n (p, ap (λ (i : ℕ). after x.tag (min_delay plan.program i + d)) (sym p) ∙ ap (λ (i : ℕ). after x.tag (min_delay plan.program b + i)) (sym r) ∙ q)

  no_write : (c : ℕ) (u : Value) → x.step ≡ Write (Port c) u → ⊥
  no_write c u e = let z : Schedule (Action a) v d ≡ Write (Port c) u = sym schedules ∙ e in absurd (cc)

  -- the same events, or one more
  grown : (k : Tag) → length (events_of plan t k a) ≤ length (events_of plan (t ++ x ∷ []) k a)
  grown k = omega (arith, length-append (filter_map (scheduled k a (min_delay plan.program a)) t) (filter_map (given k a) plan.externals.events), length-append (filter_map (scheduled k a (min_delay plan.program a)) (t ++ x ∷ [])) (filter_map (given k a) plan.externals.events), ap length (filter_map-append (scheduled k a (min_delay plan.program a)) t (x ∷ [])), length-append (filter_map (scheduled k a (min_delay plan.program a)) t) (filter_map (scheduled k a (min_delay plan.program a)) (x ∷ [])))

  module _ (last : Tag) (clash found : Option Tag) (q0 q2 : List Pending) (is : HasEvents plan t x.tag last clash q0) (put : IsEventPut last clash (after x.tag (min_delay plan.program a + d)) (Action a) v q0 q2 found) where
    one_heard : HasEventsOf plan (λ m. cond (same_name (Action a) m) (t ++ x ∷ []) t) x.tag last found q2
    one_heard = heard plan (λ n. t) (λ m. cond (same_name (Action a) m) (t ++ x ∷ []) t) x.tag last clash found q0 q0 q2 is (Action a) (after x.tag (min_delay plan.program a + d)) v (λ m e. ap (λ (b : Bool). cond b (t ++ x ∷ []) t) e) t (t ++ x ∷ []) refl (ap (λ (b : Bool). cond b (t ++ x ∷ []) t) (name_self (Action a))) (λ k u n. action_at plan (t ++ x ∷ []) t k a (same_events k a (λ z. n (sym z.1))) u) (λ k n. (action_clash plan (t ++ x ∷ []) t k a (same_events k a (λ z. n (sym z.1)))).0) (λ k c. (let l : 2 ≤ length (events_of plan t k a) = c in let m = grown k in omega arith)) (λ k m e. refl) put fresh twice
      where
        value_old : IsWanted last clash (after x.tag (min_delay plan.program a + d)) → (u : Value) → (value_of (after x.tag (min_delay plan.program a + d)) (Action a) q0 ≡ Some u) ↔ At plan t (after x.tag (min_delay plan.program a + d)) (Action a) u
        value_old w u = is.values (after x.tag (min_delay plan.program a + d)) (Action a) u tt (Before-weaken x.tag (after x.tag (min_delay plan.program a + d)) (after_past x.tag (min_delay plan.program a + d))) w.0 w.1

        fresh : IsWanted last clash (after x.tag (min_delay plan.program a + d)) → value_of (after x.tag (min_delay plan.program a + d)) (Action a) q0 ≡ None → ((u : Value) → At plan (t ++ x ∷ []) (after x.tag (min_delay plan.program a + d)) (Action a) u ↔ (u ≡ v)) × ¬ ClashesAt plan (t ++ x ∷ []) (after x.tag (min_delay plan.program a + d)) (Action a)
        fresh w e = (λ u. (λ c. its u (subst (λ (vs : List Value). Contains vs u) one c), λ q. subst (λ (vs : List Value). Contains vs u) (sym one) (mem_contains u (v ∷ []) (inl (sym q)))), λ c. two (subst (λ (vs : List Value). 2 ≤ length vs) one c))
          where
            none : (u : Value) → ¬ Mem u (events_of plan t (after x.tag (min_delay plan.program a + d)) a)
            none u m = none_there (value_of (after x.tag (min_delay plan.program a + d)) (Action a) q0) u e ((value_old w u).1 (mem_contains u (events_of plan t (after x.tag (min_delay plan.program a + d)) a) m))

            one : events_of plan (t ++ x ∷ []) (after x.tag (min_delay plan.program a + d)) a ≡ v ∷ []
            one = events_there ∙ ap (λ (vs : List Value). (vs ++ v ∷ []) ++ filter_map (given (after x.tag (min_delay plan.program a + d)) a) plan.externals.events) (nil_of_none (filter_map (scheduled (after x.tag (min_delay plan.program a + d)) a (min_delay plan.program a)) t) (λ u m. none u (mem_left u (filter_map (scheduled (after x.tag (min_delay plan.program a + d)) a (min_delay plan.program a)) t) (filter_map (given (after x.tag (min_delay plan.program a + d)) a) plan.externals.events) m))) ∙ ap (λ (vs : List Value). v ∷ vs) (nil_of_none (filter_map (given (after x.tag (min_delay plan.program a + d)) a) plan.externals.events) (λ u m. none u (mem_right u (filter_map (scheduled (after x.tag (min_delay plan.program a + d)) a (min_delay plan.program a)) t) (filter_map (given (after x.tag (min_delay plan.program a + d)) a) plan.externals.events) m)))

            its : (u : Value) → Contains (v ∷ []) u → u ≡ v
            its u c = go (contains_mem u (v ∷ []) c)
              where
                go : Mem u (v ∷ []) → u ≡ v
                go (inl q) = sym q
                go (inr m) = absurd m

            two : 2 ≤ length (v ∷ []) → ⊥
            two l = omega arith

        twice : IsWanted last clash (after x.tag (min_delay plan.program a + d)) → IsSome (value_of (after x.tag (min_delay plan.program a + d)) (Action a) q0) → Before x.tag (after x.tag (min_delay plan.program a + d)) × ClashesAt plan (t ++ x ∷ []) (after x.tag (min_delay plan.program a + d)) (Action a)
        twice w s = (after_past x.tag (min_delay plan.program a + d), subst (λ (vs : List Value). 2 ≤ length vs) (sym events_there) (omega (arith, some, length-append (filter_map (scheduled (after x.tag (min_delay plan.program a + d)) a (min_delay plan.program a)) t ++ v ∷ []) (filter_map (given (after x.tag (min_delay plan.program a + d)) a) plan.externals.events), length-append (filter_map (scheduled (after x.tag (min_delay plan.program a + d)) a (min_delay plan.program a)) t) (v ∷ []), length-append (filter_map (scheduled (after x.tag (min_delay plan.program a + d)) a (min_delay plan.program a)) t) (filter_map (given (after x.tag (min_delay plan.program a + d)) a) plan.externals.events))))
          where
            some : 0 < length (events_of plan t (after x.tag (min_delay plan.program a + d)) a)
            some = let u = some_there (value_of (after x.tag (min_delay plan.program a + d)) (Action a) q0) s in let c : Contains (events_of plan t (after x.tag (min_delay plan.program a + d)) a) u.0 = (value_old w u.0).0 u.1 in let l : c.0 < length (events_of plan t (after x.tag (min_delay plan.program a + d)) a) = c.1 in omega arith

    pub schedule_fed : HasEvents plan (t ++ x ∷ []) x.tag last found q2
    schedule_fed = unheard plan (λ m. cond (same_name (Action a) m) (t ++ x ∷ []) t) (λ n. t ++ x ∷ []) x.tag last found q2 ats clashes one_heard
      where
        other : (b : ℕ) → (a == b) ≡ false → (k : Tag) → (b ≡ a) × (after x.tag (min_delay plan.program a + d) ≡ k) → ⊥
        other b f k z = let e : (a == b) ≡ true = eq-eqb a b (sym z.0) in false≢true (sym f ∙ e)

        ats : (n : Name) (k : Tag) (u : Value) → At plan (t ++ x ∷ []) k n u ↔ At plan (cond (same_name (Action a) n) (t ++ x ∷ []) t) k n u
        ats (Port p) k u = port_at plan t x no_write p k u
        ats (Action b) k u = go (a == b) refl
          where
            go : (y : Bool) → (a == b) ≡ y → At plan (t ++ x ∷ []) k (Action b) u ↔ At plan (cond y (t ++ x ∷ []) t) k (Action b) u
            go true e = (λ z. z, λ z. z)
            go false e = action_at plan (t ++ x ∷ []) t k b (same_events k b (other b e k)) u

        clashes : (n : Name) (k : Tag) → ClashesAt plan (t ++ x ∷ []) k n ↔ ClashesAt plan (cond (same_name (Action a) n) (t ++ x ∷ []) t) k n
        clashes (Port p) k = port_clash plan t x no_write p k
        clashes (Action b) k = go (a == b) refl
          where
            go : (y : Bool) → (a == b) ≡ y → ClashesAt plan (t ++ x ∷ []) k (Action b) ↔ ClashesAt plan (cond y (t ++ x ∷ []) t) k (Action b)
            go true e = (λ z. z, λ z. z)
            go false e = action_clash plan (t ++ x ∷ []) t k b (same_events k b (other b e k))

-- all steps of a run, and its end
pub end_fed : (plan : PlanParts) (t : List Row) (w : ℕ) (g : Tag) (r : ℕ) (steps : List Step) (from last : Tag) (clash : Option Tag) (q : List Pending) → HasEvents plan (t ++ map (run_row w g r) steps) from last clash q → HasEvents plan (t ++ committed_rows w g r steps) from last clash q
end_fed plan t w g r steps from last clash q is = subst (λ (rs : List Row). HasEvents plan rs from last clash q) (seam t (map (run_row w g r) steps) ∙ ap (λ (rs : List Row). t ++ rs) (mapped steps)) (inert plan (t ++ map (run_row w g r) steps) (run_row w g r End) (λ c v e. cc) (λ a d v e. cc) from last clash q is)
  where
    seam : (s u : List Row) → (s ++ u) ++ run_row w g r End ∷ [] ≡ s ++ (u ++ run_row w g r End ∷ [])
    seam [] u = refl
    seam (y ∷ s) u = ap (λ (rs : List Row). y ∷ rs) (seam s u)

    mapped : (ss : List Step) → map (run_row w g r) ss ++ run_row w g r End ∷ [] ≡ map (run_row w g r) (ss ++ End ∷ [])
    mapped [] = refl
    mapped (s ∷ ss) = ap (λ (rs : List Row). run_row w g r s ∷ rs) (mapped ss)

-- one step more
pub step_more : (plan : PlanParts) (t : List Row) (w : ℕ) (g : Tag) (r : ℕ) (steps : List Step) (i : ℕ) (s : Step) (from last : Tag) (clash : Option Tag) (q : List Pending) → slice_get steps i ≡ Some s → HasEvents plan ((t ++ map (run_row w g r) (take i steps)) ++ run_row w g r s ∷ []) from last clash q → HasEvents plan (t ++ map (run_row w g r) (take (i + 1) steps)) from last clash q
step_more plan t w g r steps i s from last clash q e is = subst (λ (rs : List Row). HasEvents plan rs from last clash q) (seam t (map (run_row w g r) (take i steps)) ∙ ap (λ (rs : List Row). t ++ rs) (mapped steps i e ∙ ap (λ (n : ℕ). map (run_row w g r) (take n steps)) (let z : suc i ≡ i + 1 = omega arith in z))) is
  where
    seam : (a u : List Row) → (a ++ u) ++ run_row w g r s ∷ [] ≡ a ++ (u ++ run_row w g r s ∷ [])
    seam [] u = refl
    seam (y ∷ a) u = ap (λ (rs : List Row). y ∷ rs) (seam a u)

    mapped : (ss : List Step) (i : ℕ) → slice_get ss i ≡ Some s → map (run_row w g r) (take i ss) ++ run_row w g r s ∷ [] ≡ map (run_row w g r) (take (suc i) ss)
    mapped [] i f = absurd (cc)
    mapped (y ∷ ss) zero f = let z : s ≡ y = cc in ap (λ (k : Step). run_row w g r k ∷ []) z
    mapped (y ∷ ss) (suc i) f = ap (λ (rs : List Row). run_row w g r y ∷ rs) (mapped ss i f)
