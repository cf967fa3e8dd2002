-- What is present at a tag can be decided, and so can what is triggered and read there.
use Rattle.std.proofs.Common.{◌≡◌, ℕ, suc, ◌+◌, ◌*◌, ◌<◌, ◌≤◌, List, [], ◌∷◌, length, refl, sym, ap, ◌∙◌, subst, arith, Option, Some, None, slice_get, filter_map}
use Rattle.std.{specs.List.{last_or, AllZip}, proofs.Math.{Nat.mul-le-mul_left, IntN.ℤ_discrete}}
use native.Mathlib.Decide.{ℕ_discrete}
use Rattle.lft_ir.proofs.Origins.{origin_unique}
use Rattle.lft_ir.specs.{Parts.{Parts, inputs}, Sound.IsSound, Origins.{Origin, Origin.{itself, over}}}
use Rattle.lft_ir.specs.declared.parts.{Port.Port as PortOf, Timer.Timer as TimerOf, Reaction.Reaction, Value.{Value, TheVariants.{Bare, Int}}}
use Rattle.lft_ir.specs.declared.parts.{Name.{Name, TheVariants.{Port, Action}}, Trigger.{Trigger, TheVariants.{Startup, Shutdown, Timer, On}}}
use Rattle.lft_ir.specs.declared.steps.row.Row.{Row}
use Rattle.lft_tag.specs.{declared.Tag.Tag, Tags.after_all}
use Rattle.lft_lists.proofs.Members.{mem_get, get_mem, last_mem, mem_from_filter, mem_contains, contains_mem}
use Rattle.lft_model.specs.{Plans.PlanParts, Presence.{written, Fires, events_of, Last, At, IsPresent, Triggered, Occurs, Shows, Inputs, stop}}
use Rattle.lft_model.specs.Runs.{Ran, start_row}
use Rattle.lft_model.proofs.{Places.{dec_map, dec_both, dec_not, dec_below, tag_discrete, slice_get_within, dec_row, dec_start}, Ended.written_by}

pub value_discrete : (v w : Value) → Dec (v ≡ w)
value_discrete Bare Bare = yes refl
value_discrete Bare (Int y) = no (λ e. cc)
value_discrete (Int x) Bare = no (λ e. cc)
value_discrete (Int x) (Int y) = dec_map (λ e. ap Int e) (λ e. cc) (ℤ_discrete x y)

-- something of an item at a place
pub dec_item : {X : Type 0} (xs : List X) (P : X → Type 0) → ((x : X) → Dec (P x)) → (i : ℕ) → Dec ((x : X) × (slice_get xs i ≡ Some x) × P x)
dec_item {X} xs P d i = go (slice_get xs i) refl
  where
    go : (o : Option X) → slice_get xs i ≡ o → Dec ((x : X) × (slice_get xs i ≡ Some x) × P x)
    go None e = no (λ q. let z : None ≡ Some q.0 = sym e ∙ q.1 in absurd (cc))
    go (Some x) e = dec_map (λ p. (x, e, p)) (λ q. let z : Some q.0 ≡ Some x = sym q.1 ∙ e in let y : q.0 ≡ x = cc in subst P y q.2) (d x)

-- something of some item
pub dec_some : {X : Type 0} (xs : List X) (P : X → Type 0) → ((x : X) → Dec (P x)) → Dec ((i : ℕ) × (x : X) × (slice_get xs i ≡ Some x) × P x)
dec_some {X} xs P d = dec_map to from (dec_below (λ i. (x : X) × (slice_get xs i ≡ Some x) × P x) (dec_item xs P d) (length xs))
  where
    to : ((i : ℕ) × (i < length xs) × ((x : X) × (slice_get xs i ≡ Some x) × P x)) → (i : ℕ) × (x : X) × (slice_get xs i ≡ Some x) × P x
    to q = (q.0, q.2.0, q.2.1, q.2.2)

    from : ((i : ℕ) × (x : X) × (slice_get xs i ≡ Some x) × P x) → (i : ℕ) × (i < length xs) × ((x : X) × (slice_get xs i ≡ Some x) × P x)
    from q = (q.0, slice_get_within xs q.0 q.1 q.2, (q.1, q.2, q.3))

pub dec_ran : (t : List Row) (g : Tag) (r : ℕ) → Dec (Ran t g r)
dec_ran t g r = dec_map to from (dec_some t (λ x. x ≡ start_row x.worker g r) (λ x. dec_row x x.worker g r _ (dec_start x.step)))
  where
    to : ((i : ℕ) × (x : Row) × (slice_get t i ≡ Some x) × (x ≡ start_row x.worker g r)) → Ran t g r
    to q = record { place = q.0; worker = q.1.worker; starts = q.2 ∙ ap Some q.3 }

    from : Ran t g r → (i : ℕ) × (x : Row) × (slice_get t i ≡ Some x) × (x ≡ start_row x.worker g r)
    from o = (o.place, start_row o.worker g r, o.starts, refl)

no_origin : {program : Parts} {p o : ℕ} {ds : List ℕ} → slice_get program.ports p ≡ None → Origin program p o ds → ⊥
no_origin e (itself x f n) = cc
no_origin e (over x s first f n way l) = cc

module _ (plan : PlanParts) (sound : IsSound plan.program) (t : List Row) (g : Tag) where
  -- the events of a port at its origin
  IsFrom : ℕ → ℕ → List ℕ → (Value → Type 0) → Type 0
  IsFrom p o ds P = (h : Tag) × (v : Value) × (after_all h ds ≡ g) × Last t h o v × P v

  ByRow : ℕ → List ℕ → (Value → Type 0) → Row → Type 0
  ByRow o ds P x = (after_all x.tag ds ≡ g) × ((v : Value) × Last t x.tag o v × P v)

  dec_last : (h : Tag) (o : ℕ) (P : Value → Type 0) → ((v : Value) → Dec (P v)) → Dec ((v : Value) × Last t h o v × P v)
  dec_last h o P d = go (last_or None (filter_map (written h o) t)) refl
    where
      go : (z : Option Value) → last_or None (filter_map (written h o) t) ≡ z → Dec ((v : Value) × Last t h o v × P v)
      go None e = no (λ q. let z : None ≡ Some q.0 = sym e ∙ q.1 in absurd (cc))
      go (Some v) e = dec_map (λ p. (v, e, p)) (λ q. let z : Some q.0 ≡ Some v = sym q.1 ∙ e in let y : q.0 ≡ v = cc in subst P y q.2) (d v)

  dec_from : (p o : ℕ) (ds : List ℕ) (P : Value → Type 0) → ((v : Value) → Dec (P v)) → Dec (IsFrom p o ds P)
  unfolding IsFrom ByRow
  dec_from p o ds P d = dec_map to from (dec_some t (ByRow o ds P) (λ x. dec_both (tag_discrete (after_all x.tag ds) g) (dec_last x.tag o P d)))
    where
      to : ((i : ℕ) × (x : Row) × (slice_get t i ≡ Some x) × ByRow o ds P x) → IsFrom p o ds P
      to q = (q.1.tag, q.3.1.0, q.3.0, q.3.1.1, q.3.1.2)

      from : IsFrom p o ds P → (i : ℕ) × (x : Row) × (slice_get t i ≡ Some x) × ByRow o ds P x
      from q =
          let m = mem_from_filter (written q.0 o) t q.1 (last_mem (filter_map (written q.0 o) t) q.1 q.3) in
          let k = get_mem m.0 t m.1 in
          let e : m.0.tag ≡ q.0 = (written_by q.0 o m.0 q.1 m.2).0 in
          (k.0, m.0, k.1, (ap (λ (h : Tag). after_all h ds) e ∙ q.2, (q.1, subst (λ (h : Tag). Last t h o q.1) (sym e) q.3, q.4)))

  -- an event of a name whose value is of a kind
  IsAt : Name → (Value → Type 0) → Type 0
  IsAt n P = (v : Value) × At plan t g n v × P v

  dec_port : (p : ℕ) (P : Value → Type 0) → ((v : Value) → Dec (P v)) → Dec (IsAt (Port p) P)
  unfolding IsAt IsFrom
  dec_port p P d = go (slice_get plan.program.ports p) refl
    where
      known : (port : PortOf) → slice_get plan.program.ports p ≡ Some port → ((ds : List ℕ) × Origin plan.program p port.origin ds) → Dec (IsAt (Port p) P)
      known port e way = dec_map to from (dec_from p port.origin way.0 P d)
        where
          to : IsFrom p port.origin way.0 P → IsAt (Port p) P
          to q = (q.1, (q.0, record { origin = port.origin; delays = way.0; is_origin = way.1; arrives = q.2; is_last = q.3 }), q.4)

          from : IsAt (Port p) P → IsFrom p port.origin way.0 P
          from q =
              let o = q.1.1 in
              let same = origin_unique o.is_origin way.1 in
              (q.1.0, q.0, ap (λ ds. after_all q.1.0 ds) (sym same.1) ∙ o.arrives, subst (λ (z : ℕ). Last t q.1.0 z q.0) same.0 o.is_last, q.2)

      go : (z : Option PortOf) → slice_get plan.program.ports p ≡ z → Dec (IsAt (Port p) P)
      go None e = no (λ q. no_origin e q.1.1.is_origin)
      go (Some port) e = let w = sound.origins p port e in known port e (w.0, w.1)

  dec_action : (a : ℕ) (P : Value → Type 0) → ((v : Value) → Dec (P v)) → Dec (IsAt (Action a) P)
  unfolding IsAt
  dec_action a P d = dec_map to from (dec_some (events_of plan t g a) P d)
    where
      to : ((i : ℕ) × (v : Value) × (slice_get (events_of plan t g a) i ≡ Some v) × P v) → IsAt (Action a) P
      to q = (q.1, mem_contains q.1 (events_of plan t g a) (mem_get (events_of plan t g a) q.0 q.1 q.2), q.3)

      from : IsAt (Action a) P → (i : ℕ) × (v : Value) × (slice_get (events_of plan t g a) i ≡ Some v) × P v
      from q = let k = get_mem q.0 (events_of plan t g a) (contains_mem q.0 (events_of plan t g a) q.1) in (k.0, q.0, k.1, q.2)

  dec_at_name : (n : Name) (P : Value → Type 0) → ((v : Value) → Dec (P v)) → Dec (IsAt n P)
  dec_at_name (Port p) P d = dec_port p P d
  dec_at_name (Action a) P d = dec_action a P d

  pub dec_present : (n : Name) → Dec (IsPresent plan t g n)
  unfolding IsAt
  dec_present n = dec_map (λ q. (q.0, q.1)) (λ q. (q.0, q.1, tt)) (dec_at_name n (λ v. Unit {0}) (λ v. yes tt))

  pub dec_at : (n : Name) (v : Value) → Dec (At plan t g n v)
  unfolding IsAt
  dec_at n v = dec_map (λ q. subst (λ (w : Value). At plan t g n w) q.2 q.1) (λ e. (v, e, refl)) (dec_at_name n (λ w. w ≡ v) (λ w. value_discrete w v))

  -- whether a timer fires
  pub dec_fires : (timer : TimerOf) → Dec (Fires timer g)
  dec_fires timer = dec_map (λ q. (q.0, q.2.0, q.2.1)) from (dec_below one_k dec_k (suc g.time))
    where
      one_k : ℕ → Type 0
      one_k k = (g ≡ record { time = timer.offset + k * timer.period; micro = 0 }) × (timer.period ≡ 0 → k ≡ 0)

      dec_if : (k : ℕ) → Dec (timer.period ≡ 0) → Dec (k ≡ 0) → Dec (timer.period ≡ 0 → k ≡ 0)
      dec_if k (yes e) (yes z) = yes (λ q. z)
      dec_if k (yes e) (no z) = no (λ f. z (f e))
      dec_if k (no e) d = yes (λ q. absurd (e q))

      dec_k : (k : ℕ) → Dec (one_k k)
      dec_k k = dec_both (tag_discrete g (record { time = timer.offset + k * timer.period; micro = 0 })) (dec_if k (ℕ_discrete timer.period 0) (ℕ_discrete k 0))

      bound : (k : ℕ) → g.time ≡ timer.offset + k * timer.period → (timer.period ≡ 0 → k ≡ 0) → Dec (timer.period ≡ 0) → k < suc g.time
      bound k e z (yes q) = let y : k ≡ 0 = z q in omega arith
      bound k e z (no q) = let p : 1 ≤ timer.period = omega arith in let m : k * 1 ≤ k * timer.period = mul-le-mul_left k p in omega arith

      from : Fires timer g → (k : ℕ) × (k < suc g.time) × one_k k
      from q = (q.0, bound q.0 (ap (λ x. x.time) q.1) q.2 (ℕ_discrete timer.period 0), (q.1, q.2))

  pub dec_occurs : (x : Trigger) → Dec (Occurs plan t g x)
  dec_occurs Startup = tag_discrete g (record { time = 0; micro = 0 })
  dec_occurs Shutdown = tag_discrete g (stop plan t)
  dec_occurs (Timer n) = dec_item plan.program.timers (λ timer. Fires timer g) dec_fires n
  dec_occurs (On n) = dec_present n

  pub dec_triggered : (r : ℕ) → Dec (Triggered plan t g r)
  dec_triggered r = dec_map to from (dec_item plan.program.reactions (λ x. (i : ℕ) × (z : Trigger) × (slice_get x.triggers i ≡ Some z) × Occurs plan t g z) (λ x. dec_some x.triggers (λ z. Occurs plan t g z) dec_occurs) r)
    where
      to : ((x : Reaction) × (slice_get plan.program.reactions r ≡ Some x) × ((i : ℕ) × (z : Trigger) × (slice_get x.triggers i ≡ Some z) × Occurs plan t g z)) → Triggered plan t g r
      to q = record { reaction = q.0; trigger = q.2.1; is_reaction = q.1; is_trigger = mem_contains q.2.1 q.0.triggers (mem_get q.0.triggers q.2.0 q.2.1 q.2.2); occurs = q.2.3 }

      from : Triggered plan t g r → (x : Reaction) × (slice_get plan.program.reactions r ≡ Some x) × ((i : ℕ) × (z : Trigger) × (slice_get x.triggers i ≡ Some z) × Occurs plan t g z)
      from o = let k = get_mem o.trigger o.reaction.triggers (contains_mem o.trigger o.reaction.triggers o.is_trigger) in (o.reaction, o.is_reaction, (k.0, o.trigger, k.1, o.occurs))

  pub dec_shows : (n : Name) (o : Option Value) → Dec (Shows plan t g n o)
  dec_shows n None = dec_not (dec_present n)
  dec_shows n (Some v) = dec_at n v

  dec_all : (ns : List Name) (os : List (Option Value)) → Dec (AllZip (Shows plan t g) ns os)
  dec_all [] [] = yes (tt)
  dec_all [] (o ∷ os) = no (λ z. z)
  dec_all (n ∷ ns) [] = no (λ z. z)
  dec_all (n ∷ ns) (o ∷ os) = dec_both (dec_shows n o) (dec_all ns os)

  pub dec_inputs : (r : ℕ) (reads : List (Option Value)) → Dec (Inputs plan t g r reads)
  dec_inputs r reads = dec_map (λ q. record { reaction = q.0; is_reaction = q.1; each = q.2 }) (λ o. (o.reaction, o.is_reaction, o.each)) (dec_item plan.program.reactions (λ x. AllZip (Shows plan t g) (inputs x) reads) (λ x. dec_all (inputs x) reads) r)
