-- What a port has when its origin is written once more.
use Rattle.std.proofs.Common.{◌≡◌, ◌↔◌, ℕ, zero, suc, ◌+◌, ◌⊎◌, inl, inr, List, [], ◌∷◌, ◌++◌, refl, sym, ap, ◌∙◌, subst, arith, Option, Some, None, slice_get, filter_map}
use Rattle.std.{specs.List.{last_or, cons_option}, proofs.lemmas.List.Elements.filter_map-append}
use Rattle.lft_tag.specs.{declared.Tag.Tag, Tags.{Before, UpTo, after_all}, Shifts.{Folded, shifted}}
use Rattle.lft_tag.proofs.{Order.{order_cases, UpTo_antisym, after_all_past}, Chains.{shifted_chain, tag_of}}
use Rattle.lft_lists.proofs.Members.{Mem, last-append_some}
use Rattle.lft_ir.specs.{Parts.Parts, Origins.{Origin, Origin.{itself, over}}}
use Rattle.lft_ir.specs.declared.{parts.{Port.Port as PortOf, Value.Value, Name.TheVariants.Port}, steps.row.{Row.Row, Step.{Step, TheVariants.Write}}}
use Rattle.lft_ir.proofs.Origins.{origin_unique, port_of}
use Rattle.lft_scheduler.specs.inner.Listeners.{IsArrival}
use Rattle.lft_model.specs.{Plans.{PlanParts, IsSoundPlan}, Presence.{value_written, written, Last, IsWrittenFrom, At, PortClash, ClashesAt}}
use Rattle.lft_model.proofs.{Places.tag_discrete, Steps.{written_some, some_written}, Ended.{written_by, by_written}, Grown.added_none}

-- the origin of a port is its own origin
pub own_origin : {program : Parts} {p o : ℕ} {ds : List ℕ} → Origin program p o ds → Origin program o o []
own_origin (itself port e n) = itself port e n
own_origin (over port source first e s way d) = own_origin way

-- a shift that leaves one tag as it is leaves each
shift_none : (g h : Tag) (s : Folded) → shifted g s ≡ g → shifted h s ≡ h
shift_none g h s e = go s.0 s.1 e
  where
    go : (d n : ℕ) → shifted g (d, n) ≡ g → shifted h (d, n) ≡ h
    go zero n q = let z : g.micro + n ≡ g.micro = ap (λ (k : Tag). k.micro) q in tag_of refl (let y : h.micro + n ≡ h.micro = omega arith in y)
    go (suc d) n q = let z : g.time + suc d ≡ g.time = ap (λ (k : Tag). k.time) q in absurd (omega arith)

module _ (plan : PlanParts) (good : IsSoundPlan plan) (p : ℕ) (port : PortOf) (is_port : slice_get plan.program.ports p ≡ Some port) where
  leads : (h : Tag) → shifted h (port.shift.time, port.shift.steps) ≡ after_all h (good.sound.origins p port is_port).0
  leads h = ap (λ z. shifted h z) (sym (good.sound.origins p port is_port).2) ∙ shifted_chain h (good.sound.origins p port is_port).0

  pub shifts_on : (h : Tag) → UpTo h (shifted h (port.shift.time, port.shift.steps))
  shifts_on h = subst (λ (k : Tag). UpTo h k) (sym (leads h)) (after_all_past h (good.sound.origins p port is_port).0)

  pub from_written : (t : List Row) (k h : Tag) (u : Value) → IsWrittenFrom plan t k p h u → (shifted h (port.shift.time, port.shift.steps) ≡ k) × Last t h port.origin u
  from_written t k h u w =
      let q = origin_unique w.is_origin (good.sound.origins p port is_port).1 in
      (leads h ∙ ap (λ ds. after_all h ds) (sym q.1) ∙ w.arrives, subst (λ (o : ℕ). Last t h o u) q.0 w.is_last)

  pub to_written : (t : List Row) (k h : Tag) (u : Value) → shifted h (port.shift.time, port.shift.steps) ≡ k → Last t h port.origin u → IsWrittenFrom plan t k p h u
  to_written t k h u e l = record { origin = port.origin; delays = (good.sound.origins p port is_port).0; is_origin = (good.sound.origins p port is_port).1; arrives = sym (leads h) ∙ e; is_last = l }

  -- the origin is a port, and its own origin
  pub its_origin : IsArrival plan.program port.origin port.origin
  its_origin =
      let way = own_origin (good.sound.origins p port is_port).1 in
      let o = port_of way in
      (o.0, o.1, (origin_unique (good.sound.origins port.origin o.0 o.1).1 way).0)

  -- it has an event itself at a tag where it was written there
  pub origin_at : (t : List Row) (g : Tag) (u : Value) → At plan t g (Port port.origin) u ↔ Last t g port.origin u
  origin_at t g u = (to, from)
    where
      way : Origin plan.program port.origin port.origin []
      way = own_origin (good.sound.origins p port is_port).1

      to : At plan t g (Port port.origin) u → Last t g port.origin u
      to a =
          let q = origin_unique a.1.is_origin way in
          let there : a.0 ≡ g = ap (λ ds. after_all a.0 ds) (sym q.1) ∙ a.1.arrives in
          subst (λ (k : Tag). Last t k port.origin u) there (subst (λ (o : ℕ). Last t a.0 o u) q.0 a.1.is_last)

      from : Last t g port.origin u → At plan t g (Port port.origin) u
      from l = (g, record { origin = port.origin; delays = []; is_origin = way; arrives = refl; is_last = l })

-- a row that writes port o
module _ (plan : PlanParts) (good : IsSoundPlan plan) (t : List Row) (x : Row) (o : ℕ) (v : Value) (writes : x.step ≡ Write (Port o) v) where
  -- what it writes
  pub its_write : (h : Tag) (c : ℕ) (u : Value) → written h c x ≡ Some u → (x.tag ≡ h) × (c ≡ o)
  its_write h c u e =
      let w = written_by h c x u e in
      let z : Write (Port o) v ≡ Write (Port c) u = sym writes ∙ written_some c x.step u w.1 in
      (w.0, let y : c ≡ o = cc in y)

  pub last_same : (h : Tag) (c : ℕ) → ((x.tag ≡ h) × (c ≡ o) → ⊥) → filter_map (written h c) (t ++ x ∷ []) ≡ filter_map (written h c) t
  last_same h c n = added_none (written h c) t (x ∷ []) none
    where
      it : (z : Option Value) → written h c x ≡ z → written h c x ≡ None
      it None e = e
      it (Some u) e = absurd (n (its_write h c u e))

      none : (y : Row) → Mem y (x ∷ []) → written h c y ≡ None
      none y (inl e) = subst (λ (z : Row). written h c z ≡ None) e (it (written h c x) refl)
      none y (inr m) = absurd m

  pub last_own : Last (t ++ x ∷ []) x.tag o v
  last_own =
      let w : written x.tag o x ≡ Some v = by_written x.tag o x v refl (ap (λ (s : Step). value_written o s) writes ∙ some_written o v) in
      let m : filter_map (written x.tag o) (x ∷ []) ≡ v ∷ [] = ap (λ (z : Option Value). cons_option z []) w in
      ap (λ (vs : List Value). last_or None vs) (filter_map-append (written x.tag o) t (x ∷ [])) ∙ last-append_some None (filter_map (written x.tag o) t) (filter_map (written x.tag o) (x ∷ [])) v (ap (λ (vs : List Value). last_or None vs) m)

  -- a write elsewhere is what it was, and one that was is one still
  pub last_back : (h : Tag) (c : ℕ) (u : Value) → ((x.tag ≡ h) × (c ≡ o) → ⊥) → Last (t ++ x ∷ []) h c u → Last t h c u
  last_back h c u n l = ap (λ (vs : List Value). last_or None vs) (sym (last_same h c n)) ∙ l

  pub last_on : (h : Tag) (c : ℕ) (u : Value) → ((x.tag ≡ h) × (c ≡ o) → ⊥) → Last t h c u → Last (t ++ x ∷ []) h c u
  last_on h c u n l = ap (λ (vs : List Value). last_or None vs) (last_same h c n) ∙ l

  pub last_more : (h : Tag) (u : Value) → Last t h o u → (w : Value) × Last (t ++ x ∷ []) h o w
  last_more h u l = go (tag_discrete x.tag h)
    where
      go : Dec (x.tag ≡ h) → (w : Value) × Last (t ++ x ∷ []) h o w
      go (yes e) = (v, subst (λ (k : Tag). Last (t ++ x ∷ []) k o v) e last_own)
      go (no n) = (u, last_on h o u (λ q. n q.0) l)

  -- a port of another origin hears nothing
  module _ (p : ℕ) (none : (port : PortOf) → slice_get plan.program.ports p ≡ Some port → ¬ (port.origin ≡ o)) where
    other : (s : List Row) (k h : Tag) (u : Value) → (w : IsWrittenFrom plan s k p h u) → ¬ (w.origin ≡ o)
    other s k h u w e =
        let q = port_of w.is_origin in
        let z = origin_unique w.is_origin (good.sound.origins p q.0 q.1).1 in
        none q.0 q.1 (sym z.0 ∙ e)

    back : (k h : Tag) (u : Value) → IsWrittenFrom plan (t ++ x ∷ []) k p h u → IsWrittenFrom plan t k p h u
    back k h u w = record { origin = w.origin; delays = w.delays; is_origin = w.is_origin; arrives = w.arrives; is_last = last_back h w.origin u (λ q. other (t ++ x ∷ []) k h u w q.1) w.is_last }

    on : (k h : Tag) (u : Value) → IsWrittenFrom plan t k p h u → IsWrittenFrom plan (t ++ x ∷ []) k p h u
    on k h u w = record { origin = w.origin; delays = w.delays; is_origin = w.is_origin; arrives = w.arrives; is_last = last_on h w.origin u (λ q. other t k h u w q.1) w.is_last }

    pub unheard_at : (k : Tag) (u : Value) → At plan (t ++ x ∷ []) k (Port p) u ↔ At plan t k (Port p) u
    unheard_at k u = (λ a. (a.0, back k a.0 u a.1), λ a. (a.0, on k a.0 u a.1))

    pub unheard_clash : (k : Tag) → ClashesAt plan (t ++ x ∷ []) k (Port p) ↔ ClashesAt plan t k (Port p)
    unheard_clash k = (to, from)
      where
        to : PortClash plan (t ++ x ∷ []) k p → PortClash plan t k p
        to c = record { first = c.first; second = c.second; first_value = c.first_value; second_value = c.second_value; is_first = back k c.first c.first_value c.is_first; is_second = back k c.second c.second_value c.is_second; differ = c.differ }

        from : PortClash plan t k p → PortClash plan (t ++ x ∷ []) k p
        from c = record { first = c.first; second = c.second; first_value = c.first_value; second_value = c.second_value; is_first = on k c.first c.first_value c.is_first; is_second = on k c.second c.second_value c.is_second; differ = c.differ }

  -- a port of the origin hears of it where the shift leads
  module _ (p : ℕ) (port : PortOf) (is_port : slice_get plan.program.ports p ≡ Some port) (its : port.origin ≡ o) where
    last_port : (s : List Row) (h : Tag) (u : Value) → Last s h port.origin u → Last s h o u
    last_port s h u l = subst (λ (c : ℕ). Last s h c u) its l

    port_last : (s : List Row) (h : Tag) (u : Value) → Last s h o u → Last s h port.origin u
    port_last s h u l = subst (λ (c : ℕ). Last s h c u) (sym its) l

    -- not from the tag of the row
    back_from : (k h : Tag) (u : Value) → ¬ (x.tag ≡ h) → IsWrittenFrom plan (t ++ x ∷ []) k p h u → IsWrittenFrom plan t k p h u
    back_from k h u n w = let f = from_written plan good p port is_port (t ++ x ∷ []) k h u w in to_written plan good p port is_port t k h u f.0 (last_back h port.origin u (λ q. n q.0) f.1)

    on_from : (k h : Tag) (u : Value) → ¬ (x.tag ≡ h) → IsWrittenFrom plan t k p h u → IsWrittenFrom plan (t ++ x ∷ []) k p h u
    on_from k h u n w = let f = from_written plan good p port is_port t k h u w in to_written plan good p port is_port (t ++ x ∷ []) k h u f.0 (last_on h port.origin u (λ q. n q.0) f.1)

    -- not at its own tag where it arrives elsewhere
    not_own : (s : List Row) (k h : Tag) (u : Value) → ¬ (k ≡ shifted x.tag (port.shift.time, port.shift.steps)) → IsWrittenFrom plan s k p h u → ¬ (x.tag ≡ h)
    not_own s k h u n w e = n (sym (from_written plan good p port is_port s k h u w).0 ∙ ap (λ (g : Tag). shifted g (port.shift.time, port.shift.steps)) (sym e))

    pub elsewhere_at : (k : Tag) (u : Value) → ¬ (k ≡ shifted x.tag (port.shift.time, port.shift.steps)) → At plan (t ++ x ∷ []) k (Port p) u ↔ At plan t k (Port p) u
    elsewhere_at k u n = (λ a. (a.0, back_from k a.0 u (not_own (t ++ x ∷ []) k a.0 u n a.1) a.1), λ a. (a.0, on_from k a.0 u (not_own t k a.0 u n a.1) a.1))

    pub elsewhere_clash : (k : Tag) → ¬ (k ≡ shifted x.tag (port.shift.time, port.shift.steps)) → ClashesAt plan (t ++ x ∷ []) k (Port p) → ClashesAt plan t k (Port p)
    elsewhere_clash k n c = record { first = c.first; second = c.second; first_value = c.first_value; second_value = c.second_value; is_first = back_from k c.first c.first_value (not_own (t ++ x ∷ []) k c.first c.first_value n c.is_first) c.is_first; is_second = back_from k c.second c.second_value (not_own (t ++ x ∷ []) k c.second c.second_value n c.is_second) c.is_second; differ = c.differ }

    -- what was written is written still
    pub still : (k h : Tag) (u : Value) → IsWrittenFrom plan t k p h u → (w : Value) × IsWrittenFrom plan (t ++ x ∷ []) k p h w
    still k h u w =
        let f = from_written plan good p port is_port t k h u w in
        let m = last_more h u (last_port t h u f.1) in
        (m.0, to_written plan good p port is_port (t ++ x ∷ []) k h m.0 f.0 (port_last (t ++ x ∷ []) h m.0 m.1))

    pub more_clash : (k : Tag) → ClashesAt plan t k (Port p) → ClashesAt plan (t ++ x ∷ []) k (Port p)
    more_clash k c =
        let a = still k c.first c.first_value c.is_first in
        let b = still k c.second c.second_value c.is_second in
        record { first = c.first; second = c.second; first_value = a.0; second_value = b.0; is_first = a.1; is_second = b.1; differ = c.differ }

    own_from : IsWrittenFrom plan (t ++ x ∷ []) (shifted x.tag (port.shift.time, port.shift.steps)) p x.tag v
    own_from = to_written plan good p port is_port (t ++ x ∷ []) (shifted x.tag (port.shift.time, port.shift.steps)) x.tag v refl (port_last (t ++ x ∷ []) x.tag v last_own)

    -- where no other tag leads there, it is the one event
    pub one_event : ((h : Tag) (u : Value) → IsWrittenFrom plan t (shifted x.tag (port.shift.time, port.shift.steps)) p h u → x.tag ≡ h) → ((u : Value) → At plan (t ++ x ∷ []) (shifted x.tag (port.shift.time, port.shift.steps)) (Port p) u ↔ (u ≡ v)) × ¬ ClashesAt plan (t ++ x ∷ []) (shifted x.tag (port.shift.time, port.shift.steps)) (Port p)
    one_event alone = (λ u. (λ a. its_value u a.0 a.1 (tag_discrete x.tag a.0), λ e. (x.tag, subst (λ (w : Value). IsWrittenFrom plan (t ++ x ∷ []) (shifted x.tag (port.shift.time, port.shift.steps)) p x.tag w) (sym e) own_from)), λ c. c.differ (sym (from_own c.first c.first_value c.is_first (tag_discrete x.tag c.first)) ∙ from_own c.second c.second_value c.is_second (tag_discrete x.tag c.second)))
      where
        from_own : (h : Tag) (u : Value) → IsWrittenFrom plan (t ++ x ∷ []) (shifted x.tag (port.shift.time, port.shift.steps)) p h u → Dec (x.tag ≡ h) → x.tag ≡ h
        from_own h u w (yes e) = e
        from_own h u w (no n) = alone h u (back_from (shifted x.tag (port.shift.time, port.shift.steps)) h u n w)

        its_value : (u : Value) (h : Tag) → IsWrittenFrom plan (t ++ x ∷ []) (shifted x.tag (port.shift.time, port.shift.steps)) p h u → Dec (x.tag ≡ h) → u ≡ v
        its_value u h w (yes e) =
            let f = last_port (t ++ x ∷ []) h u (from_written plan good p port is_port (t ++ x ∷ []) (shifted x.tag (port.shift.time, port.shift.steps)) h u w).1 in
            let l : Last (t ++ x ∷ []) x.tag o u = subst (λ (k : Tag). Last (t ++ x ∷ []) k o u) (sym e) f in
            let z : Some u ≡ Some v = sym l ∙ last_own in
            cc
        its_value u h w (no n) = absurd (n (alone h u (back_from (shifted x.tag (port.shift.time, port.shift.steps)) h u n w)))

    -- where another does, there are two
    pub two_events : (h : Tag) (u : Value) → IsWrittenFrom plan t (shifted x.tag (port.shift.time, port.shift.steps)) p h u → ¬ (x.tag ≡ h) → Before x.tag (shifted x.tag (port.shift.time, port.shift.steps)) × ClashesAt plan (t ++ x ∷ []) (shifted x.tag (port.shift.time, port.shift.steps)) (Port p)
    two_events h u w n = (later (order_cases x.tag (shifted x.tag (port.shift.time, port.shift.steps))), record { first = x.tag; second = h; first_value = v; second_value = u; is_first = own_from; is_second = on_from (shifted x.tag (port.shift.time, port.shift.steps)) h u n w; differ = n })
      where
        later : Before x.tag (shifted x.tag (port.shift.time, port.shift.steps)) ⊎ UpTo (shifted x.tag (port.shift.time, port.shift.steps)) x.tag → Before x.tag (shifted x.tag (port.shift.time, port.shift.steps))
        later (inl b) = b
        later (inr b) =
            let e : shifted x.tag (port.shift.time, port.shift.steps) ≡ x.tag = UpTo_antisym (shifted x.tag (port.shift.time, port.shift.steps)) x.tag b (shifts_on plan good p port is_port x.tag) in
            let s : shifted h (port.shift.time, port.shift.steps) ≡ h = shift_none x.tag h (port.shift.time, port.shift.steps) e in
            absurd (n (sym e ∙ sym (from_written plan good p port is_port t (shifted x.tag (port.shift.time, port.shift.steps)) h u w).0 ∙ s))
