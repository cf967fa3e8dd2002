-- Two causes of one action at one tag, and two events of it.
use Rattle.std.proofs.Common.{◌≡◌, ◌≢◌, ℕ, zero, suc, ◌+◌, ◌<◌, ◌≤◌, ◌⊎◌, inl, inr, List, [], ◌∷◌, length, length-append, refl, sym, ap, ◌∙◌, arith, ◌==◌, ◌&&◌, Option, Some, None, slice_get, filter_map, eqb-true}
use Rattle.std.{specs.List.cons_option, proofs.{lemmas.Bool.cases_lt, NetLemmas.Options.cond_some}}
use Rattle.lft_tag.{specs.{declared.Tag.Tag, Tags.{after, same_tag}}, proofs.Order.same_tag_true}
use Rattle.lft_ir.specs.declared.parts.{Value.Value, Name.TheVariants.{Port, Action}}
use Rattle.lft_ir.specs.declared.steps.{row.{Row.Row, Step.{Step, TheVariants.{Start, Read, Write, Schedule, Stop, End}}}, externals.Event.Event}
use Rattle.lft_ir.specs.Steps.Fits.{RowsFit, StepFits}
use Rattle.lft_model.specs.{Plans.{PlanParts, IsSoundPlan}, Presence.{scheduled, given, min_delay, events_of}}
use Rattle.lft_model.proofs.{Places.slice_get_within, Ended.{scheduled_by, by_scheduled}, Steps.both_true}
use Rattle.lft_rows.specs.{declared.presence.causes.EventCause.EventCause, inner.Presence.Causes.{tag_of, cause, Leads, IsCause, Carries, step_cause}}
use Rattle.lft_rows.proofs.PresenceLemmas.Presences.{step_schedules, schedules_step, none_leads, row_of, event_of, carrier, given_there}

-- an item of which a filter keeps something
record Kept {X Y : Type 0} (h : X → Option Y) (xs : List X) : Type 0 where
  place : ℕ
  item : X
  value : Y
  is_item : slice_get xs place ≡ Some item
  gives : h item ≡ Some value

one_kept : {X Y : Type 0} (h : X → Option Y) (xs : List X) → 0 < length (filter_map h xs) → Kept h xs
one_kept h [] l = absurd (omega arith)
one_kept {X} {Y} h (x ∷ xs) l = go (h x) refl l (λ m. one_kept h xs m)
  where
    next : Kept h xs → Kept h (x ∷ xs)
    next k = record { place = suc k.place; item = k.item; value = k.value; is_item = k.is_item; gives = k.gives }

    go : (o : Option Y) → h x ≡ o → 0 < length (cons_option o (filter_map h xs)) → (0 < length (filter_map h xs) → Kept h xs) → Kept h (x ∷ xs)
    go None e m k = next (k m)
    go (Some v) e m k = record { place = 0; item = x; value = v; is_item = refl; gives = e }

-- two items of which a filter keeps something
record KeptTwice {X Y : Type 0} (h : X → Option Y) (xs : List X) : Type 0 where
  first : Kept h xs
  second : Kept h xs
  order : first.place < second.place

two_kept : {X Y : Type 0} (h : X → Option Y) (xs : List X) → 1 < length (filter_map h xs) → KeptTwice h xs
two_kept h [] l = absurd (omega arith)
two_kept {X} {Y} h (x ∷ xs) l = go (h x) refl l (λ m. two_kept h xs m)
  where
    next : Kept h xs → Kept h (x ∷ xs)
    next k = record { place = suc k.place; item = k.item; value = k.value; is_item = k.is_item; gives = k.gives }

    go : (o : Option Y) → h x ≡ o → 1 < length (cons_option o (filter_map h xs)) → (1 < length (filter_map h xs) → KeptTwice h xs) → KeptTwice h (x ∷ xs)
    go None e m again = let k = again m in record { first = next k.first; second = next k.second; order = let l : k.first.place < k.second.place = k.order in omega arith }
    go (Some v) e m again = let k = one_kept h xs (omega arith) in record { first = record { place = 0; item = x; value = v; is_item = refl; gives = e }; second = next k; order = omega arith }

-- how much a filter keeps of a list with one such item, or two
count_one : {X Y : Type 0} (h : X → Option Y) (xs : List X) (i : ℕ) (x : X) (v : Y) → slice_get xs i ≡ Some x → h x ≡ Some v → 0 < length (filter_map h xs)
count_one h [] i x v e f = absurd (cc)
count_one {X} {Y} h (y ∷ ys) zero x v e f = let q : y ≡ x = cc in go (h y) (ap h q ∙ f)
  where
    go : (o : Option Y) → o ≡ Some v → 0 < length (cons_option o (filter_map h ys))
    go None g = absurd (cc)
    go (Some w) g = omega arith
count_one {X} {Y} h (y ∷ ys) (suc i) x v e f = go (h y) (count_one h ys i x v e f)
  where
    go : (o : Option Y) → 0 < length (filter_map h ys) → 0 < length (cons_option o (filter_map h ys))
    go None g = g
    go (Some w) g = omega arith

count_two : {X Y : Type 0} (h : X → Option Y) (xs : List X) (i j : ℕ) (x y : X) (v w : Y) → i < j → slice_get xs i ≡ Some x → h x ≡ Some v → slice_get xs j ≡ Some y → h y ≡ Some w → 1 < length (filter_map h xs)
count_two h [] i j x y v w l e f g k = absurd (cc)
count_two h (z ∷ zs) i zero x y v w l e f g k = absurd (omega arith)
count_two {X} {Y} h (z ∷ zs) zero (suc j) x y v w l e f g k = let q : z ≡ x = cc in go (h z) (ap h q ∙ f) (count_one h zs j y w g k)
  where
    go : (o : Option Y) → o ≡ Some v → 0 < length (filter_map h zs) → 1 < length (cons_option o (filter_map h zs))
    go None m n = absurd (cc)
    go (Some u) m n = omega arith
count_two {X} {Y} h (z ∷ zs) (suc i) (suc j) x y v w l e f g k = go (h z) (count_two h zs i j x y v w (omega arith) e f g k)
  where
    go : (o : Option Y) → 1 < length (filter_map h zs) → 1 < length (cons_option o (filter_map h zs))
    go None m = m
    go (Some u) m = omega arith

-- two causes of an action's events at one tag
pub record IsTwo (plan : PlanParts) (t : List Row) (g : Tag) (a : ℕ) : Type 0 where
  pub first : EventCause
  pub second : EventCause
  pub is_first : IsCause plan t first
  pub is_second : IsCause plan t second
  pub first_leads : Leads (length plan.program.ports + a) (0, 0) g first
  pub second_leads : Leads (length plan.program.ports + a) (0, 0) g second
  pub first_at : tag_of first ≡ g
  pub second_at : tag_of second ≡ g
  pub times : first.time ≡ second.time
  pub micros : first.micro ≡ second.micro
  pub differ : first.place ≢ second.place

module _ (plan : PlanParts) (t : List Row) (fit : RowsFit plan.program t) (g : Tag) (a : ℕ) where
  row_kept : (k : Kept (scheduled g a (min_delay plan.program a)) t) → IsCause plan t (cause (length plan.program.ports + a) g k.place)
  row_kept k = inl (record { place = k.place; row = k.item; is_row = k.is_item; gives = schedules_step plan.program g k.item.tag k.place k.item.step a k.value (scheduled_by g a (min_delay plan.program a) k.item k.value k.gives) })

  event_kept : (k : Kept (given g a) plan.externals.events) → IsCause plan t (cause (length plan.program.ports + a) g (length t + k.place))
  event_kept k =
      let b = both_true (same_tag g k.item.tag) (a == k.item.action) (cond_some (same_tag g k.item.tag && (a == k.item.action)) k.item.value k.value k.gives).0 in
      let e : g ≡ k.item.tag = same_tag_true g k.item.tag b.0 in
      let q : a ≡ k.item.action = eqb-true a k.item.action b.1 in
      inr (record { place = k.place; event = k.item; is_event = k.is_item; gives = ap (λ h. cause (length plan.program.ports + k.item.action) h (length t + k.place)) (sym e) ∙ ap (λ n. cause (length plan.program.ports + n) g (length t + k.place)) (sym q) })

  two_at : (i j : ℕ) → IsCause plan t (cause (length plan.program.ports + a) g i) → IsCause plan t (cause (length plan.program.ports + a) g j) → i ≢ j → IsTwo plan t g a
  two_at i j x y n = record { first = cause (length plan.program.ports + a) g i; second = cause (length plan.program.ports + a) g j; is_first = x; is_second = y; first_leads = (refl, none_leads g); second_leads = (refl, none_leads g); first_at = refl; second_at = refl; times = refl; micros = refl; differ = n }

  pub two_causes : 1 < length (events_of plan t g a) → IsTwo plan t g a
  two_causes l = go (cases_lt 1 (length (filter_map (scheduled g a (min_delay plan.program a)) t))) (cases_lt 1 (length (filter_map (given g a) plan.externals.events)))
    where
      both : length (events_of plan t g a) ≡ length (filter_map (scheduled g a (min_delay plan.program a)) t) + length (filter_map (given g a) plan.externals.events)
      both = length-append (filter_map (scheduled g a (min_delay plan.program a)) t) (filter_map (given g a) plan.externals.events)

      go : (1 < length (filter_map (scheduled g a (min_delay plan.program a)) t)) ⊎ (length (filter_map (scheduled g a (min_delay plan.program a)) t) ≤ 1) → (1 < length (filter_map (given g a) plan.externals.events)) ⊎ (length (filter_map (given g a) plan.externals.events) ≤ 1) → IsTwo plan t g a
      go (inl m) d = let k = two_kept (scheduled g a (min_delay plan.program a)) t m in two_at k.first.place k.second.place (row_kept k.first) (row_kept k.second) (λ e. let o : k.first.place < k.second.place = k.order in omega arith)
      go (inr m) (inl d) = let k = two_kept (given g a) plan.externals.events d in two_at (length t + k.first.place) (length t + k.second.place) (event_kept k.first) (event_kept k.second) (λ e. let o : k.first.place < k.second.place = k.order in omega arith)
      go (inr m) (inr d) =
          let r = one_kept (scheduled g a (min_delay plan.program a)) t (let b = both in omega arith) in
          let k = one_kept (given g a) plan.externals.events (let b = both in omega arith) in
          let w : r.place < length t = slice_get_within t r.place r.item r.is_item in
          two_at r.place (length t + k.place) (row_kept r) (event_kept k) (λ e. omega arith)

  -- what stands at the place of a cause is kept
  kept_there : (c : EventCause) → IsCause plan t c → c.name ≡ length plan.program.ports + a → tag_of c ≡ g → ((row : Row) × (v : Value) × (slice_get t c.place ≡ Some row) × (scheduled g a (min_delay plan.program a) row ≡ Some v)) ⊎ ((i : ℕ) × (event : Event) × (v : Value) × (length t + i ≡ c.place) × (slice_get plan.externals.events i ≡ Some event) × (given g a event ≡ Some v))
  kept_there c i q there = go (carrier plan t c i)
    where
      go : (v : Value) × Carries plan t c (Some v) → ((row : Row) × (v : Value) × (slice_get t c.place ≡ Some row) × (scheduled g a (min_delay plan.program a) row ≡ Some v)) ⊎ ((i : ℕ) × (event : Event) × (v : Value) × (length t + i ≡ c.place) × (slice_get plan.externals.events i ≡ Some event) × (given g a event ≡ Some v))
      go (v, inl x) = inl (x.0, v, x.1, by_scheduled g a (min_delay plan.program a) x.0 v (step_schedules plan.program g x.0.tag c.place x.0.step c a v (fit.each c.place x.0 x.1).step (row_of plan t c x.0 i x.1) q there (sym x.2)))
      go (v, inr x) =
          let d = event_of plan t c x.0 x.1 i x.2 x.3 in
          let y : length plan.program.ports + x.1.action ≡ length plan.program.ports + a = ap (λ (z : EventCause). z.name) d ∙ q in
          let z : x.1.tag ≡ g = ap tag_of d ∙ there in
          let w : ◌≡◌ {A = Option Value} (Some v) (Some x.1.value) = x.4 in
          let u : x.1.value ≡ v = cc in
          inr (x.0, x.1, v, x.2, x.3, given_there plan t fit g a x.1 v (sym z) (omega arith) u)

  pub two_events : (x y : EventCause) → IsCause plan t x → IsCause plan t y → x.name ≡ length plan.program.ports + a → y.name ≡ length plan.program.ports + a → tag_of x ≡ g → tag_of y ≡ g → x.place ≢ y.place → 1 < length (events_of plan t g a)
  two_events x y i j e f p q n = go (kept_there x i e p) (kept_there y j f q)
    where
      both : length (events_of plan t g a) ≡ length (filter_map (scheduled g a (min_delay plan.program a)) t) + length (filter_map (given g a) plan.externals.events)
      both = length-append (filter_map (scheduled g a (min_delay plan.program a)) t) (filter_map (given g a) plan.externals.events)

      go : ((row : Row) × (v : Value) × (slice_get t x.place ≡ Some row) × (scheduled g a (min_delay plan.program a) row ≡ Some v)) ⊎ ((i : ℕ) × (event : Event) × (v : Value) × (length t + i ≡ x.place) × (slice_get plan.externals.events i ≡ Some event) × (given g a event ≡ Some v)) → ((row : Row) × (v : Value) × (slice_get t y.place ≡ Some row) × (scheduled g a (min_delay plan.program a) row ≡ Some v)) ⊎ ((i : ℕ) × (event : Event) × (v : Value) × (length t + i ≡ y.place) × (slice_get plan.externals.events i ≡ Some event) × (given g a event ≡ Some v)) → 1 < length (events_of plan t g a)
      go (inl k) (inl m) = by (cases_lt x.place y.place)
        where
          by : (x.place < y.place) ⊎ (y.place ≤ x.place) → 1 < length (events_of plan t g a)
          by (inl l) = let c = count_two (scheduled g a (min_delay plan.program a)) t x.place y.place k.0 m.0 k.1 m.1 l k.2 k.3 m.2 m.3 in let b = both in omega arith
          by (inr l) = let c = count_two (scheduled g a (min_delay plan.program a)) t y.place x.place m.0 k.0 m.1 k.1 (omega arith) m.2 m.3 k.2 k.3 in let b = both in omega arith
      go (inl k) (inr m) = let c = count_one (scheduled g a (min_delay plan.program a)) t x.place k.0 k.1 k.2 k.3 in let d = count_one (given g a) plan.externals.events m.0 m.1 m.2 m.4 m.5 in let b = both in omega arith
      go (inr k) (inl m) = let c = count_one (scheduled g a (min_delay plan.program a)) t y.place m.0 m.1 m.2 m.3 in let d = count_one (given g a) plan.externals.events k.0 k.1 k.2 k.4 k.5 in let b = both in omega arith
      go (inr k) (inr m) = by (cases_lt k.0 m.0)
        where
          by : (k.0 < m.0) ⊎ (m.0 ≤ k.0) → 1 < length (events_of plan t g a)
          by (inl l) = let c = count_two (given g a) plan.externals.events k.0 m.0 k.1 m.1 k.2 m.2 l k.4 k.5 m.4 m.5 in let b = both in omega arith
          by (inr l) = let u : length t + k.0 ≡ x.place = k.3 in let w : length t + m.0 ≡ y.place = m.3 in let c = count_two (given g a) plan.externals.events m.0 k.0 m.1 k.1 m.2 k.2 (omega arith) m.4 m.5 k.4 k.5 in let b = both in omega arith

  -- an action that has two events is of the program
  pub action_known : IsSoundPlan plan → 1 < length (events_of plan t g a) → a < length plan.program.actions
  action_known sound l = go (two_causes l)
    where
      schedules : (h : Tag) (i : ℕ) (s : Step) (c : EventCause) → StepFits plan.program s → step_cause plan.program h i s ≡ Some c → c.name ≡ length plan.program.ports + a → a < length plan.program.actions
      schedules h i Start c f e q = absurd (cc)
      schedules h i (Read n v) c f e q = absurd (cc)
      schedules h i (Write (Port o) v) c f e q = let x : cause o h i ≡ c = cc in let y : o ≡ length plan.program.ports + a = ap (λ (z : EventCause). z.name) x ∙ q in let l : o < length plan.program.ports = f in absurd (omega arith)
      schedules h i (Write (Action b) v) c f e q = absurd (cc)
      schedules h i (Schedule (Port o) v d) c f e q = absurd (cc)
      schedules h i (Schedule (Action b) v d) c f e q = let x : cause (length plan.program.ports + b) (after h (min_delay plan.program b + d)) i ≡ c = cc in let y : length plan.program.ports + b ≡ length plan.program.ports + a = ap (λ (z : EventCause). z.name) x ∙ q in let l : b < length plan.program.actions = f.0 in omega arith
      schedules h i Stop c f e q = absurd (cc)
      schedules h i End c f e q = absurd (cc)

      of_cause : (c : EventCause) → IsCause plan t c → c.name ≡ length plan.program.ports + a → a < length plan.program.actions
      of_cause c (inl x) q = schedules x.row.tag x.place x.row.step c (fit.each x.place x.row x.is_row).step x.gives q
      of_cause c (inr x) q = let y : length plan.program.ports + x.event.action ≡ length plan.program.ports + a = ap (λ (z : EventCause). z.name) x.gives ∙ q in let l : x.event.action < length plan.program.actions = (sound.fit.each x.place x.event x.is_event).action in omega arith

      go : IsTwo plan t g a → a < length plan.program.actions
      go k = of_cause k.first k.is_first k.first_leads.0
