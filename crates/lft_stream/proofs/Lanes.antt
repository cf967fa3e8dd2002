-- The lanes: events that are still to be met.
use Rattle.std.proofs.Common.{◌≡◌, ℕ, zero, suc, ◌+◌, ◌<◌, ◌≤◌, ◌⊎◌, inl, inr, ◌==◌, ◌&&◌, Bool, true, false, cond, List, [], ◌∷◌, ◌++◌, length, length-append, refl, sym, ap, ◌∙◌, subst, arith, Option, Some, None, slice_get, filter_map, option_map, Contains, option_to_list}
use Rattle.std.{specs.{List.last_or, Option.{option_and_then, option_to_list}}, proofs.{lemmas.List.Elements.filter_map-append, NetLemmas.Options.cond_some}}
use Rattle.lft_tag.specs.{declared.Tag.Tag, Tags.{Before, UpTo, after, after_all, same_tag}}
use Rattle.lft_tag.proofs.Order.{order_cases, Before-UpTo, UpTo-Before, UpTo-trans, same_tag_true, same_tag_refl}
use Rattle.lft_lists.proofs.Members.{Mem, get_mem, mem_left, mem_right, mem_cases, mem_contains, contains_mem, mem_filter, mem_from_filter, last_mem, filter_map-filter_map}
use Rattle.lft_ir.specs.Origins.{Origin}
use Rattle.lft_ir.specs.declared.parts.{Value.Value, Name.{Name, TheVariants.{Port, Action}}, Trigger.TheVariants.On}
use Rattle.lft_ir.specs.declared.steps.{row.Row.Row, externals.Event.Event}
use Rattle.lft_ir.proofs.Origins.{origin_unique}
use Rattle.lft_model.specs.Plans.{PlanParts}
use Rattle.lft_model.specs.Presence.{stop, value_scheduled, scheduled, given, min_delay, events_of, written, Last, IsWrittenFrom, At, PortClash}
use Rattle.lft_model.proofs.Ended.{written_by}
use Rattle.lft_queue.specs.Coming.AtTag.{AreBefore, AreAt}
use Rattle.lft_queue.specs.inner.Coming.Lanes.{at_tag, held, coming, event_given_to, first_events, made, carried, IsTagDone, IsKept, IsLane, LaneGoesOn}
use Rattle.lft_stream.specs.inner.Owed.{IsMet, AreCausesApart}
use Rattle.lft_stream.proofs.{Behind.{at_back, clash_back}, Hand.{last_old, last_whole, last_now, last_then}, Owing.ran_grows}

-- how a lane goes: it begins with the external inputs; more rows put their events behind; it goes on to a later tag where what it had before that is met; and where it is done with up to the stop, its name is met and apart
pub record LaneLaw (plan : PlanParts) : Type 0 where
  pub begins : (n : Name) → IsLane plan [] n (record { time = 0; micro = 0 }) (first_events plan n)
  pub schedules : (t u : List Row) (a : ℕ) (low : Tag) (queue : List (Tag × Value)) → ((i : ℕ) (x : Row) → slice_get u i ≡ Some x → UpTo low x.tag) → IsLane plan t (Action a) low queue → IsLane plan (t ++ u) (Action a) low (queue ++ made plan u a)
  pub writes : (t u : List Row) (g : Tag) (p o : ℕ) (delays : List ℕ) (low : Tag) (queue : List (Tag × Value)) → Origin plan.program p o delays → AreBefore t g → AreAt u g → UpTo low g → IsLane plan t (Port p) low queue → IsLane plan (t ++ u) (Port p) low (queue ++ carried u g o delays)
  pub goes : (t : List Row) (n : Name) (low high : Tag) (queue rest : List (Tag × Value)) → LaneGoesOn plan t n low queue high rest → IsLane plan t n low queue → IsLane plan t n high rest
  pub ends : (t : List Row) (n : Name) (low : Tag) (queue : List (Tag × Value)) → Before (stop plan t) low → IsLane plan t n low queue → IsMet plan t (On n) × AreCausesApart plan t n

-- an event of a list at its tag
item_at : (h : Tag) (x : Tag × Value) (v : Value) → at_tag h x ≡ Some v → (x.0 ≡ h) × (x.1 ≡ v)
item_at h x v e = let p = cond_some (same_tag h x.0) x.1 v e in (sym (same_tag_true h x.0 p.0), p.1)

at_item : (h : Tag) (x : Tag × Value) → x.0 ≡ h → at_tag h x ≡ Some x.1
at_item h x e = let a : same_tag h x.0 ≡ true = same_tag_refl h x.0 (sym e) in rw a refl

pub held_mem : (queue : List (Tag × Value)) (h : Tag) (v : Value) → Mem v (held queue h) → (x : Tag × Value) × Mem x queue × (x.0 ≡ h) × (x.1 ≡ v)
held_mem queue h v m = let p = mem_from_filter (at_tag h) queue v m in let q = item_at h p.0 v p.2 in (p.0, p.1, q.0, q.1)

mem_held : (queue : List (Tag × Value)) (h : Tag) (x : Tag × Value) → Mem x queue → x.0 ≡ h → Mem x.1 (held queue h)
mem_held queue h x m e = mem_filter (at_tag h) x x.1 queue m (at_item h x e)

pub held_append : (xs ys : List (Tag × Value)) (h : Tag) → held (xs ++ ys) h ≡ held xs h ++ held ys h
held_append xs ys h = filter_map-append (at_tag h) xs ys

some_one : {X : Type 0} (x : X) (xs : List X) → Mem x xs → 1 ≤ length xs
some_one x [] m = absurd m
some_one x (y ∷ ys) m = omega arith

first_one : {X : Type 0} (xs : List X) → 1 ≤ length xs → (x : X) × Mem x xs
first_one [] l = absurd (omega arith)
first_one (x ∷ xs) l = (x, inl refl)

-- what a row schedules for a tag is the event that it makes, where that is at the tag
coming_at : (h : Tag) (a min : ℕ) (row : Row) → scheduled h a min row ≡ option_and_then (at_tag h) (coming a min row)
coming_at h a min row = go (value_scheduled a row.step)
  where
    go : (o : Option (ℕ × Value)) → option_and_then (λ x. cond (same_tag h (after row.tag (min + x.0))) (Some x.1) None) o ≡ option_and_then (at_tag h) (option_map (λ x. (after row.tag (min + x.0), x.1)) o)
    go None = refl
    go (Some x) = refl

given_at : (h : Tag) (a : ℕ) (event : Event) → given h a event ≡ option_and_then (at_tag h) (event_given_to a event)
given_at h a event = go (same_tag h event.tag) (a == event.action) refl
  where
    go : (b c : Bool) → same_tag h event.tag ≡ b → cond (b && c) (Some event.value) None ≡ option_and_then (at_tag h) (cond c (Some (event.tag, event.value)) None)
    go true true e = sym (rw e refl)
    go false true e = sym (rw e refl)
    go true false e = refl
    go false false e = refl

held_made : (plan : PlanParts) (u : List Row) (a : ℕ) (h : Tag) → held (made plan u a) h ≡ filter_map (scheduled h a (min_delay plan.program a)) u
held_made plan u a h = filter_map-filter_map (coming a (min_delay plan.program a)) (at_tag h) (scheduled h a (min_delay plan.program a)) (coming_at h a (min_delay plan.program a)) u

pub held_first : (plan : PlanParts) (a : ℕ) (h : Tag) → held (first_events plan (Action a)) h ≡ filter_map (given h a) plan.externals.events
held_first plan a h = filter_map-filter_map (event_given_to a) (at_tag h) (given h a) (given_at h a) plan.externals.events

-- what is done with stays so with later rows
done_grows : (plan : PlanParts) (t u : List Row) (n : Name) (h : Tag) → ((x : Row) → Mem x u → Before h x.tag) → IsTagDone plan t n h → IsTagDone plan (t ++ u) n h
done_grows plan t u n h later o = record { met = λ v x r l. ran_grows t u h r (o.met v (at_back plan t u h later n v x) r l); apart = λ c. o.apart (clash_back plan t u h later n c) }

begins_lane : (plan : PlanParts) (n : Name) → IsLane plan [] n (record { time = 0; micro = 0 }) (first_events plan n)
begins_lane plan n = record { past = λ h b. absurd (none h b); ahead = λ h up. kept h n }
  where
    none : (h : Tag) → ¬ Before h (record { time = 0; micro = 0 })
    none h (inl l) = omega arith
    none h (inr p) = let l : h.micro < 0 = p.1 in omega arith

    kept : (h : Tag) (n : Name) → IsKept plan [] n h (first_events plan n)
    kept h (Port p) = record { there = λ v x. let e : None ≡ Some v = x.1.is_last in absurd (cc); back = λ v c. absurd (contains_mem v [] c); clash = λ c. let e : None ≡ Some c.first_value = c.is_first.is_last in absurd (cc) }
    kept h (Action a) = record {
      there = λ v c. subst (λ (vs : List Value). Contains vs v) (sym (held_first plan a h)) c;
      back = λ v c. subst (λ (vs : List Value). Contains vs v) (held_first plan a h) c;
      clash = λ c. rw (held_first plan a h) c;
    }

module _ (plan : PlanParts) (t u : List Row) (a : ℕ) (low : Tag) (queue : List (Tag × Value)) (from : (i : ℕ) (x : Row) → slice_get u i ≡ Some x → UpTo low x.tag) (lane : IsLane plan t (Action a) low queue) where
  module _ (h : Tag) (up : UpTo low h) where
    abbrev own : List Row → List Value
    own s = filter_map (scheduled h a (min_delay plan.program a)) s

    abbrev out : List Value
    out = filter_map (given h a) plan.externals.events

    old : IsKept plan t (Action a) h queue
    old = lane.ahead h up

    parted : own (t ++ u) ≡ own t ++ own u
    parted = filter_map-append (scheduled h a (min_delay plan.program a)) t u

    all_held : held (queue ++ made plan u a) h ≡ held queue h ++ own u
    all_held = held_append queue (made plan u a) h ∙ ap (λ (vs : List Value). held queue h ++ vs) (held_made plan u a h)

    there : (v : Value) → Mem v (events_of plan (t ++ u) h a) → Mem v (held queue h ++ own u)
    there v m = go (mem_cases v (own (t ++ u)) out m)
      where
        before : Mem v (events_of plan t h a) → Mem v (held queue h ++ own u)
        before k = mem_left v (held queue h) (own u) (contains_mem v (held queue h) (old.there v (mem_contains v (events_of plan t h a) k)))

        split : Mem v (own t) ⊎ Mem v (own u) → Mem v (held queue h ++ own u)
        split (inl k) = before (mem_left v (own t) out k)
        split (inr k) = mem_right v (held queue h) (own u) k

        go : Mem v (own (t ++ u)) ⊎ Mem v out → Mem v (held queue h ++ own u)
        go (inl k) = split (mem_cases v (own t) (own u) (subst (λ (vs : List Value). Mem v vs) parted k))
        go (inr k) = before (mem_right v (own t) out k)

    back : (v : Value) → Mem v (held queue h ++ own u) → Mem v (events_of plan (t ++ u) h a)
    back v m = go (mem_cases v (held queue h) (own u) m)
      where
        put : Mem v (own t ++ own u) → Mem v (events_of plan (t ++ u) h a)
        put k = mem_left v (own (t ++ u)) out (subst (λ (vs : List Value). Mem v vs) (sym parted) k)

        split : Mem v (own t) ⊎ Mem v out → Mem v (events_of plan (t ++ u) h a)
        split (inl k) = put (mem_left v (own t) (own u) k)
        split (inr k) = mem_right v (own (t ++ u)) out k

        go : Mem v (held queue h) ⊎ Mem v (own u) → Mem v (events_of plan (t ++ u) h a)
        go (inl k) = split (mem_cases v (own t) out (contains_mem v (events_of plan t h a) (old.back v (mem_contains v (held queue h) k))))
        go (inr k) = put (mem_right v (own t) (own u) k)

    clash : 2 ≤ length (events_of plan (t ++ u) h a) → 2 ≤ length (held queue h ++ own u)
    clash l =
        let e1 : length (own (t ++ u) ++ out) ≡ length (own (t ++ u)) + length out = length-append (own (t ++ u)) out in
        let e2 : length (own (t ++ u)) ≡ length (own t ++ own u) = ap (λ (vs : List Value). length vs) parted in
        let e3 : length (own t ++ own u) ≡ length (own t) + length (own u) = length-append (own t) (own u) in
        let e4 : length (own t ++ out) ≡ length (own t) + length out = length-append (own t) out in
        let e5 : length (held queue h ++ own u) ≡ length (held queue h) + length (own u) = length-append (held queue h) (own u) in
        let k : 2 ≤ length (own (t ++ u) ++ out) = l in
        by (length (own t ++ out)) (length (own u)) refl refl (omega arith) (omega arith)
      where
        by : (m n : ℕ) → length (own t ++ out) ≡ m → length (own u) ≡ n → 2 ≤ m + n → length (held queue h ++ own u) ≡ length (held queue h) + n → 2 ≤ length (held queue h ++ own u)
        by zero n p q s e = omega arith
        by (suc zero) n p q s e =
            let x = first_one (own t ++ out) (omega arith) in
            let y : 1 ≤ length (held queue h) = some_one x.0 (held queue h) (contains_mem x.0 (held queue h) (old.there x.0 (mem_contains x.0 (own t ++ out) x.1))) in
            omega arith
        by (suc (suc m)) n p q s e = let z : 2 ≤ length (own t ++ out) = omega arith in let y : 2 ≤ length (held queue h) = old.clash z in omega arith

    kept_grows : IsKept plan (t ++ u) (Action a) h (queue ++ made plan u a)
    kept_grows = record {
      there = λ v c. subst (λ (vs : List Value). Contains vs v) (sym all_held) (mem_contains v (held queue h ++ own u) (there v (contains_mem v (events_of plan (t ++ u) h a) c)));
      back = λ v c. mem_contains v (events_of plan (t ++ u) h a) (back v (contains_mem v (held queue h ++ own u) (subst (λ (vs : List Value). Contains vs v) all_held c)));
      clash = λ c. rw all_held (clash c);
    }

  schedules_lane : IsLane plan (t ++ u) (Action a) low (queue ++ made plan u a)
  schedules_lane = record { past = λ h b. done_grows plan t u (Action a) h (λ x m. let p = get_mem x u m in Before-UpTo h low x.tag b (from p.0 x p.1)) (lane.past h b); ahead = λ h up. kept_grows h up }

-- the event that a slice makes of a port
module _ (u : List Row) (g : Tag) (o : ℕ) (ds : List ℕ) where
  carried_of : (v : Value) → Last u g o v → Mem {X = Tag × Value} (after_all g ds, v) (carried u g o ds)
  carried_of v e = go (last_or None (filter_map (written g o) u)) e
    where
      go : (z : Option Value) → z ≡ Some v → Mem {X = Tag × Value} (after_all g ds, v) (option_to_list (option_map (λ w. (after_all g ds, w)) z))
      go None q = absurd (cc)
      go (Some w) q = let k : w ≡ v = cc in inl (ap (λ (y : Value). (after_all g ds, y)) k)

  pub of_carried : (x : Tag × Value) → Mem x (carried u g o ds) → Last u g o x.1 × (after_all g ds ≡ x.0)
  of_carried x m = go (last_or None (filter_map (written g o) u)) refl m
    where
      go : (z : Option Value) → last_or None (filter_map (written g o) u) ≡ z → Mem x (option_to_list (option_map (λ w. (after_all g ds, w)) z)) → Last u g o x.1 × (after_all g ds ≡ x.0)
      go None q k = absurd k
      go (Some w) q (inl e) = (q ∙ ap (λ (y : Tag × Value). Some y.1) e, ap (λ (y : Tag × Value). y.0) e)
      go (Some w) q (inr k) = absurd k

module _ (plan : PlanParts) (t u : List Row) (g : Tag) (p o : ℕ) (ds : List ℕ) (way : Origin plan.program p o ds) (before : AreBefore t g) (at : AreAt u g) where
  -- a tag with a write is that of a row
  row_of : (s : List Row) (k : Tag) (q : ℕ) (v : Value) → Last s k q v → (x : Row) × Mem x s × (x.tag ≡ k)
  row_of s k q v e = let m = mem_from_filter (written k q) s v (last_mem (filter_map (written k q) s) v e) in (m.0, m.1, (written_by k q m.0 v m.2).0)

  from_first : (h k : Tag) (v : Value) → IsWrittenFrom plan t h p k v → Before k g
  from_first h k v x = let r = row_of t k x.origin v x.is_last in let m = get_mem r.0 t r.1 in subst (λ (z : Tag). Before z g) r.2 (before m.0 r.0 m.1)

  -- a cause of the port is one of the earlier rows, or the last write at the tag
  pub split_cause : (h k : Tag) (v : Value) → IsWrittenFrom plan (t ++ u) h p k v → IsWrittenFrom plan t h p k v ⊎ ((k ≡ g) × Last u g o v × (after_all g ds ≡ h))
  split_cause h k v x = go (mem_cases r.0 t u r.1)
    where
      r : (y : Row) × Mem y (t ++ u) × (y.tag ≡ k)
      r = row_of (t ++ u) k x.origin v x.is_last

      same : (x.origin ≡ o) × (x.delays ≡ ds)
      same = origin_unique x.is_origin way

      go : Mem r.0 t ⊎ Mem r.0 u → IsWrittenFrom plan t h p k v ⊎ ((k ≡ g) × Last u g o v × (after_all g ds ≡ h))
      go (inl m) =
          let i = get_mem r.0 t m in
          let b : Before k g = subst (λ (z : Tag). Before z g) r.2 (before i.0 r.0 i.1) in
          inl (record { origin = x.origin; delays = x.delays; is_origin = x.is_origin; arrives = x.arrives; is_last = last_old plan t u g before at k x.origin v b x.is_last })
      go (inr m) =
          let i = get_mem r.0 u m in
          let e : k ≡ g = sym r.2 ∙ at i.0 r.0 i.1 in
          let l : Last (t ++ u) g o v = subst (λ (z : Tag). Last (t ++ u) z o v) e (subst (λ (q : ℕ). Last (t ++ u) k q v) same.0 x.is_last) in
          let w : after_all g ds ≡ h = sym (ap (λ (z : Tag). after_all z ds) e) ∙ sym (ap (λ (z : List ℕ). after_all k z) same.1) ∙ x.arrives in
          inr (e, last_now plan t u g before at o v l, w)

module _ (plan : PlanParts) (t u : List Row) (g : Tag) (p o : ℕ) (ds : List ℕ) (low : Tag) (queue : List (Tag × Value)) (way : Origin plan.program p o ds) (before : AreBefore t g) (at : AreAt u g) (reached : UpTo low g) (lane : IsLane plan t (Port p) low queue) where
  module _ (h : Tag) (up : UpTo low h) where
    old_port : IsKept plan t (Port p) h queue
    old_port = lane.ahead h up

    abbrev new : List Value
    new = held (carried u g o ds) h

    in_old : (k : Tag) (v : Value) → IsWrittenFrom plan t h p k v → Mem v (held queue h)
    in_old k v x = contains_mem v (held queue h) (old_port.there v (k, x))

    in_new : (v : Value) → Last u g o v → after_all g ds ≡ h → Mem v new
    in_new v l e = mem_held (carried u g o ds) h (after_all g ds, v) (carried_of u g o ds v l) e

    port_there : (v : Value) → At plan (t ++ u) h (Port p) v → Mem v (held queue h ++ new)
    port_there v x = go (split_cause plan t u g p o ds way before at h x.0 v x.1)
      where
        go : IsWrittenFrom plan t h p x.0 v ⊎ ((x.0 ≡ g) × Last u g o v × (after_all g ds ≡ h)) → Mem v (held queue h ++ new)
        go (inl y) = mem_left v (held queue h) new (in_old x.0 v y)
        go (inr y) = mem_right v (held queue h) new (in_new v y.1 y.2)

    port_back : (v : Value) → Mem v (held queue h ++ new) → At plan (t ++ u) h (Port p) v
    port_back v m = go (mem_cases v (held queue h) new m)
      where
        go : Mem v (held queue h) ⊎ Mem v new → At plan (t ++ u) h (Port p) v
        go (inl k) =
            let x = old_port.back v (mem_contains v (held queue h) k) in
            (x.0, record { origin = x.1.origin; delays = x.1.delays; is_origin = x.1.is_origin; arrives = x.1.arrives; is_last = last_whole plan t u g before at x.0 x.1.origin v (from_first plan t u g p o ds way before at h x.0 v x.1) x.1.is_last })
        go (inr k) =
            let x = held_mem (carried u g o ds) h v k in
            let y = of_carried u g o ds x.0 x.1 in
            (g, record { origin = o; delays = ds; is_origin = way; arrives = y.1 ∙ x.2; is_last = last_then plan t u g before at o v (subst (λ (w : Value). Last u g o w) x.3 y.0) })

    port_clash : PortClash plan (t ++ u) h p → 2 ≤ length (held queue h ++ new)
    port_clash c = go (split_cause plan t u g p o ds way before at h c.first c.first_value c.is_first) (split_cause plan t u g p o ds way before at h c.second c.second_value c.is_second) (length-append (held queue h) new)
      where
        go : IsWrittenFrom plan t h p c.first c.first_value ⊎ ((c.first ≡ g) × Last u g o c.first_value × (after_all g ds ≡ h)) → IsWrittenFrom plan t h p c.second c.second_value ⊎ ((c.second ≡ g) × Last u g o c.second_value × (after_all g ds ≡ h)) → length (held queue h ++ new) ≡ length (held queue h) + length new → 2 ≤ length (held queue h ++ new)
        go (inl x) (inl y) e = let l : 2 ≤ length (held queue h) = old_port.clash (record { first = c.first; second = c.second; first_value = c.first_value; second_value = c.second_value; is_first = x; is_second = y; differ = c.differ }) in omega arith
        go (inl x) (inr y) e = let k : 1 ≤ length (held queue h) = some_one c.first_value (held queue h) (in_old c.first c.first_value x) in let l : 1 ≤ length new = some_one c.second_value new (in_new c.second_value y.1 y.2) in omega arith
        go (inr x) (inl y) e = let k : 1 ≤ length (held queue h) = some_one c.second_value (held queue h) (in_old c.second c.second_value y) in let l : 1 ≤ length new = some_one c.first_value new (in_new c.first_value x.1 x.2) in omega arith
        go (inr x) (inr y) e = absurd (c.differ (x.0 ∙ sym y.0))

    port_kept : IsKept plan (t ++ u) (Port p) h (queue ++ carried u g o ds)
    port_kept = record {
      there = λ v x. subst (λ (vs : List Value). Contains vs v) (sym (held_append queue (carried u g o ds) h)) (mem_contains v (held queue h ++ new) (port_there v x));
      back = λ v x. port_back v (contains_mem v (held queue h ++ new) (subst (λ (vs : List Value). Contains vs v) (held_append queue (carried u g o ds) h) x));
      clash = λ c. rw (held_append queue (carried u g o ds) h) (port_clash c);
    }

  writes_lane : IsLane plan (t ++ u) (Port p) low (queue ++ carried u g o ds)
  writes_lane = record { past = λ h b. done_grows plan t u (Port p) h (λ x m. let i = get_mem x u m in subst (λ (z : Tag). Before h z) (sym (at i.0 x i.1)) (Before-UpTo h low g b reached)) (lane.past h b); ahead = λ h up. port_kept h up }

module _ (plan : PlanParts) (t : List Row) (n : Name) (low : Tag) (queue : List (Tag × Value)) (lane : IsLane plan t n low queue) where
  goes_lane : (high : Tag) (rest : List (Tag × Value)) → LaneGoesOn plan t n low queue high rest → IsLane plan t n high rest
  goes_lane high rest on = record { past = past; ahead = ahead }
    where
      past : (h : Tag) → Before h high → IsTagDone plan t n h
      past h b = go (order_cases h low)
        where
          go : Before h low ⊎ UpTo low h → IsTagDone plan t n h
          go (inl c) = lane.past h c
          go (inr far) =
              let here = on.met h far b in
              let kept = lane.ahead h far in
              record { met = λ v x. here.met v (kept.there v x); apart = λ c. let k : 2 ≤ length (held queue h) = kept.clash c in let m : length (held queue h) < 2 = here.alone in omega arith }

      ahead : (h : Tag) → UpTo high h → IsKept plan t n h rest
      ahead h far =
          let kept = lane.ahead h (UpTo-trans low high h on.up far) in
          record { there = λ v x. subst (λ (vs : List Value). Contains vs v) (sym (on.same h far)) (kept.there v x); back = λ v c. kept.back v (subst (λ (vs : List Value). Contains vs v) (on.same h far) c); clash = λ c. rw (on.same h far) (kept.clash c) }

  ends_lane : Before (stop plan t) low → IsMet plan t (On n) × AreCausesApart plan t n
  ends_lane past = (λ h r up z l. (lane.past h (UpTo-Before h (stop plan t) low up past)).met z.0 z.1 r l, λ h up c. (lane.past h (UpTo-Before h (stop plan t) low up past)).apart c)

pub lane_law : (plan : PlanParts) → LaneLaw plan
lane_law plan = record {
  begins = begins_lane plan;
  schedules = λ t u a low queue from lane. schedules_lane plan t u a low queue from lane;
  writes = λ t u g p o ds low queue way before at reached lane. writes_lane plan t u g p o ds low queue way before at reached lane;
  goes = λ t n low high queue rest on lane. goes_lane plan t n low queue lane high rest on;
  ends = λ t n low queue past lane. ends_lane plan t n low queue lane past;
}
