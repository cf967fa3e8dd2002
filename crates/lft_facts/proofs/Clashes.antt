-- Rule 6: two causes of one event.
use Rattle.std.proofs.Common.{◌≡◌, ◌≢◌, ℕ, zero, suc, ◌+◌, ◌-◌, ◌<◌, ◌≤◌, ◌⊎◌, inl, inr, List, [], ◌∷◌, length, length-append, refl, sym, ap, ◌∙◌, subst, arith, Option, Some, None, slice_get, filter_map}
use native.Mathlib.Decide.{dec_lt}
use Rattle.std.{specs.List.cons_option, proofs.lemmas.{Bool.cases_lt, List.Elements.{All-head, All-cons, All-nil}}}
use Rattle.lft_lists.proofs.Places.{same_at}
use Rattle.lft_tag.{specs.{declared.Tag.Tag, Tags.{Before, UpTo}, Shifts.shifted}, proofs.Order.{Before-irrefl, UpTo_antisym}}
use Rattle.lft_ir.specs.declared.{parts.{Port.Port as PortOf, Value.Value, Name.TheVariants.{Port, Action}}, steps.row.{Row.Row, Step.TheVariants.Write}}
use Rattle.lft_ir.specs.Steps.Fits.{RowsFit}
use Rattle.lft_ir.proofs.Origins.{origin_unique}
use Rattle.lft_model.proofs.{Blocks.two_places, Steps.some_written}
use Rattle.lft_model.specs.{Plans.PlanParts, Presence.{value_written, scheduled, given, min_delay, events_of, IsWrittenFrom, PortClash}}
use Rattle.lft_rows.specs.declared.presence.causes.EventCause.{EventCause as Event}
use Rattle.lft_rows.specs.inner.Presence.{Causes.{tag_of, ComesUpTo, AreCauses, Leads, IsLastCause, IsCause as IsEventCause}, Lookups.IsFirstCause}
use Rattle.lft_rows.proofs.PresenceLemmas.{Presences.{ChainOf, port_cause_at, none_leads}, Twice.two_causes, Lookups.in_order}
use Rattle.lft_facts.specs.{declared.facts.{Fact.Fact, Cause.Cause}, Facts.{IsShown, AreShown, IsWrittenIn, event_of_cause}}
use Rattle.lft_facts.specs.{inner.Enough.{Gives, GivesClash, AreOwnAt}, Enough.{IsOwn, AreOwn}}
use Rattle.lft_facts.proofs.Causes.{written_from, scheduled_at, given_at, written_in}
use Rattle.lft_facts.specs.declared.facts.Fact.TheVariants as fact
use Rattle.lft_facts.specs.declared.facts.Cause.TheVariants as cause

-- two rows that write the origin of one port last at their tags, and lead to one tag, are of two tags
pub two_written : (g : Tag) (p i j : ℕ) → i ≢ j → GivesClash (cause.Written g p i) (cause.Written g p j) g
two_written g p i j apart plan t a b = (Port p, record { first = a.row.tag; second = b.row.tag; first_value = a.value; second_value = b.value; is_first = written_from plan t g p i a; is_second = written_from plan t g p j b; differ = differ })
  where
    behind : (i j : ℕ) (a : IsWrittenIn plan t g p i) (b : IsWrittenIn plan t g p j) → i < j → ¬ (b.row.tag ≡ a.row.tag)
    behind i j a b l q =
        let o = (origin_unique a.is_origin b.is_origin).0 in
        let w : value_written a.origin b.row.step ≡ Some b.value = ap (value_written a.origin) b.writes ∙ ap (λ (k : ℕ). value_written a.origin (Write (Port k) b.value)) (sym o) ∙ some_written a.origin b.value in
        let z : None ≡ Some b.value = sym (a.last j b.row l b.is_row q) ∙ w in
        absurd (cc)

    differ : a.row.tag ≢ b.row.tag
    differ q = go (dec_lt i j) (dec_lt j i)
      where
        go : Dec (i < j) → Dec (j < i) → ⊥
        go (yes l) d = behind i j a b l (sym q)
        go (no n) (yes l) = behind j i b a l q
        go (no n) (no m) = apart (omega arith)

-- how many items a filter keeps
kept_one : {X Y : Type 0} (h : X → Option Y) (xs : List X) (i : ℕ) (x : X) (v : Y) → slice_get xs i ≡ Some x → h x ≡ Some v → 1 ≤ length (filter_map h xs)
kept_one h [] i x v e f = absurd (cc)
kept_one h (y ∷ ys) zero x v e f = let q : y ≡ x = cc in let p : h y ≡ Some v = ap h q ∙ f in rw p (omega arith)
kept_one {X} {Y} h (y ∷ ys) (suc i) x v e f = over (h y) (kept_one h ys i x v e f)
  where
    over : (o : Option Y) → 1 ≤ length (filter_map h ys) → 1 ≤ length (cons_option o (filter_map h ys))
    over None l = l
    over (Some w) l = omega arith

pub two_scheduled : (g : Tag) (a i j : ℕ) → i ≢ j → GivesClash (cause.Scheduled g a i) (cause.Scheduled g a j) g
two_scheduled g a i j apart plan t x y = (Action a, go (dec_lt i j) (dec_lt j i))
  where
    both : length (events_of plan t g a) ≡ length (filter_map (scheduled g a (min_delay plan.program a)) t) + length (filter_map (given g a) plan.externals.events)
    both = length-append (filter_map (scheduled g a (min_delay plan.program a)) t) (filter_map (given g a) plan.externals.events)

    go : Dec (i < j) → Dec (j < i) → 2 ≤ length (events_of plan t g a)
    go (yes l) d = let n = two_places (scheduled g a (min_delay plan.program a)) t i j x.row y.row x.value y.value l x.is_row y.is_row (scheduled_at plan t g a i x) (scheduled_at plan t g a j y) in let b = both in omega arith
    go (no n) (yes l) = let n = two_places (scheduled g a (min_delay plan.program a)) t j i y.row x.row y.value x.value l y.is_row x.is_row (scheduled_at plan t g a j y) (scheduled_at plan t g a i x) in let b = both in omega arith
    go (no n) (no m) = absurd (apart (omega arith))

pub scheduled_given : (g : Tag) (a i e : ℕ) → GivesClash (cause.Scheduled g a i) (cause.Given g a e) g
scheduled_given g a i e plan t x y =
    let n = kept_one (scheduled g a (min_delay plan.program a)) t i x.row x.value x.is_row (scheduled_at plan t g a i x) in
    let m = kept_one (given g a) plan.externals.events e y.event y.event.value y.is_event (given_at plan g a e y) in
    let b : length (events_of plan t g a) ≡ length (filter_map (scheduled g a (min_delay plan.program a)) t) + length (filter_map (given g a) plan.externals.events) = length-append (filter_map (scheduled g a (min_delay plan.program a)) t) (filter_map (given g a) plan.externals.events) in
    (Action a, omega arith)

pub two_given : (g : Tag) (a i j : ℕ) → i ≢ j → GivesClash (cause.Given g a i) (cause.Given g a j) g
two_given g a i j apart plan t x y = (Action a, go (dec_lt i j) (dec_lt j i))
  where
    both : length (events_of plan t g a) ≡ length (filter_map (scheduled g a (min_delay plan.program a)) t) + length (filter_map (given g a) plan.externals.events)
    both = length-append (filter_map (scheduled g a (min_delay plan.program a)) t) (filter_map (given g a) plan.externals.events)

    go : Dec (i < j) → Dec (j < i) → 2 ≤ length (events_of plan t g a)
    go (yes l) d = let n = two_places (given g a) plan.externals.events i j x.event y.event x.event.value y.event.value l x.is_event y.is_event (given_at plan g a i x) (given_at plan g a j y) in let b = both in omega arith
    go (no n) (yes l) = let n = two_places (given g a) plan.externals.events j i y.event x.event y.event.value x.event.value l y.is_event x.is_event (given_at plan g a j y) (given_at plan g a i x) in let b = both in omega arith
    go (no n) (no m) = absurd (apart (omega arith))

-- what is told of two places of causes of an action gives two events
pub places_clash : (n : ℕ) (g : Tag) (a x y : ℕ) (f h : Cause) → (x < n → f ≡ cause.Scheduled g a x) → (n ≤ x → f ≡ cause.Given g a (x - n)) → (y < n → h ≡ cause.Scheduled g a y) → (n ≤ y → h ≡ cause.Given g a (y - n)) → x ≢ y → GivesClash f h g
places_clash n g a x y f h xr xe yr ye apart = go (cases_lt x n) (cases_lt y n)
  where
    told : (u v : Cause) → f ≡ u → h ≡ v → GivesClash u v g → GivesClash f h g
    told u v p q c = subst (λ (z : Cause). GivesClash z h g) (sym p) (subst (λ (z : Cause). GivesClash u z g) (sym q) c)

    go : (x < n) ⊎ (n ≤ x) → (y < n) ⊎ (n ≤ y) → GivesClash f h g
    go (inl l) (inl m) = told (cause.Scheduled g a x) (cause.Scheduled g a y) (xr l) (yr m) (two_scheduled g a x y apart)
    go (inl l) (inr m) = told (cause.Scheduled g a x) (cause.Given g a (y - n)) (xr l) (ye m) (scheduled_given g a x (y - n))
    go (inr l) (inl m) = told (cause.Given g a (x - n)) (cause.Scheduled g a y) (xe l) (yr m) (λ plan t c d. scheduled_given g a y (x - n) plan t d c)
    go (inr l) (inr m) = told (cause.Given g a (x - n)) (cause.Given g a (y - n)) (xe l) (ye m) (two_given g a (x - n) (y - n) (λ e. apart (omega arith)))

-- they are told apart, and are of one event
pub places_apart : (n : ℕ) (g : Tag) (a x y : ℕ) (f h : Cause) → (x < n → f ≡ cause.Scheduled g a x) → (n ≤ x → f ≡ cause.Given g a (x - n)) → (y < n → h ≡ cause.Scheduled g a y) → (n ≤ y → h ≡ cause.Given g a (y - n)) → x ≢ y → f ≢ h
places_apart n g a x y f h xr xe yr ye apart e = go (cases_lt x n) (cases_lt y n)
  where
    go : (x < n) ⊎ (n ≤ x) → (y < n) ⊎ (n ≤ y) → ⊥
    go (inl l) (inl m) = let p : cause.Scheduled g a x ≡ cause.Scheduled g a y = sym (xr l) ∙ e ∙ yr m in let q : x ≡ y = cc in apart q
    go (inl l) (inr m) = let p : cause.Scheduled g a x ≡ cause.Given g a (y - n) = sym (xr l) ∙ e ∙ ye m in absurd (cc)
    go (inr l) (inl m) = let p : cause.Given g a (x - n) ≡ cause.Scheduled g a y = sym (xe l) ∙ e ∙ yr m in absurd (cc)
    go (inr l) (inr m) = let p : cause.Given g a (x - n) ≡ cause.Given g a (y - n) = sym (xe l) ∙ e ∙ ye m in let q : x - n ≡ y - n = cc in apart (omega arith)

pub place_event : (n : ℕ) (g : Tag) (a x : ℕ) (f : Cause) → (x < n → f ≡ cause.Scheduled g a x) → (n ≤ x → f ≡ cause.Given g a (x - n)) → event_of_cause f ≡ Some (g, Action a)
place_event n g a x f xr xe = go (cases_lt x n)
  where
    go : (x < n) ⊎ (n ≤ x) → event_of_cause f ≡ Some (g, Action a)
    go (inl l) = ap event_of_cause (xr l)
    go (inr l) = ap event_of_cause (xe l)

pub written_apart : (g : Tag) (p i j : ℕ) → i ≢ j → cause.Written g p i ≢ cause.Written g p j
written_apart g p i j apart e = let q : i ≡ j = cc in apart q

-- a fact on two causes gives the breach
pub clash_gives : (g : Tag) (f h : Cause) (facts : List Fact) → facts ≡ fact.Clash g f h ∷ [] → GivesClash f h g → Gives facts g None 6
clash_gives g f h facts is gives plan t all kept =
    let two = All-head (IsShown plan t) (fact.Clash g f h) [] (subst (λ (fs : List Fact). AreShown plan t fs) is all) in
    (refl, gives plan t two.first two.second)

pub clash_own : (g : Tag) (f h : Cause) (facts : List Fact) → facts ≡ fact.Clash g f h ∷ [] → AreOwnAt g None facts
clash_own g f h facts is b p q = subst (λ (fs : List Fact). AreOwn b fs) (sym is) (All-cons (IsOwn b) (fact.Clash g f h) [] p (All-nil (IsOwn b)))

-- causes of one place are one
same_place : (plan : PlanParts) (t : List Row) (causes : List Event) → AreCauses plan t causes → (x y : Event) → IsEventCause plan t x → IsEventCause plan t y → x.place ≡ y.place → x ≡ y
same_place plan t causes are x y i j e =
    let p = are.just.each x i in
    let q = are.just.each y j in
    same_at causes p.0 q.0 x y p.1 q.1 (are.just.once p.0 q.0 x y p.1 q.1 e)

-- the first and the last cause that lead the origin of a port to g
module _ (plan : PlanParts) (t : List Row) (g : Tag) (p : ℕ) (port : PortOf) (chain : ChainOf plan.program p port) where
  pub no_last_clash : IsLastCause plan t port.origin (port.shift.time, port.shift.steps) g None → ¬ PortClash plan t g p
  no_last_clash h c = let x = port_cause_at plan t g p port chain c.first c.first_value c.is_first in h x.0 x.1 x.2

  pub no_first_clash : IsFirstCause plan t port.origin (port.shift.time, port.shift.steps) g None → ¬ PortClash plan t g p
  no_first_clash h c = let x = port_cause_at plan t g p port chain c.first c.first_value c.is_first in h x.0 x.1 x.2

  module _ (first last : Event) (is_first : IsFirstCause plan t port.origin (port.shift.time, port.shift.steps) g (Some first)) (is_last : IsLastCause plan t port.origin (port.shift.time, port.shift.steps) g (Some last)) where
    -- where the two are of one tag, all between them are
    pub one_tag_clash : tag_of first ≡ tag_of last → ¬ PortClash plan t g p
    one_tag_clash e c = c.differ (one c.first c.first_value c.is_first ∙ sym (one c.second c.second_value c.is_second))
      where
        one : (h : Tag) (v : Value) → IsWrittenFrom plan t g p h v → h ≡ tag_of last
        one h v w =
            let x = port_cause_at plan t g p port chain h v w in
            let low = in_order first x.0 (is_first.1.0 ∙ sym x.2.0) (is_first.2 x.0 x.1 x.2) in
            let high = in_order x.0 last (x.2.0 ∙ sym is_last.1.0) (is_last.2 x.0 x.1 x.2) in
            sym x.3 ∙ UpTo_antisym (tag_of x.0) (tag_of last) high (subst (λ (z : Tag). UpTo z (tag_of x.0)) e low)

    module _ (other : Event) (is_other : IsLastCause plan t port.origin (0, 0) (tag_of first) (Some other)) where
      same : tag_of other ≡ tag_of first
      same = sym (none_leads (tag_of other)) ∙ is_other.1.1

      pub other_written : IsWrittenIn plan t g p other.place
      other_written = written_in plan t g p port chain other is_other.0 (is_other.1.0, ap (λ (k : Tag). shifted k (port.shift.time, port.shift.steps)) same ∙ is_first.1.1) (λ d i n s. is_other.2 d i (n, none_leads (tag_of d) ∙ s ∙ same))

      pub other_place : (causes : List Event) → AreCauses plan t causes → ¬ (tag_of first ≡ tag_of last) → other.place ≢ last.place
      other_place causes are differ e = differ (sym same ∙ ap tag_of (same_place plan t causes are other last is_other.0 is_last.0 e))

-- the first and the last cause that lead an action to g
module _ (plan : PlanParts) (t : List Row) (fit : RowsFit plan.program t) (g : Tag) (a : ℕ) where
  pub no_first_events : IsFirstCause plan t (length plan.program.ports + a) (0, 0) g None → ¬ (2 ≤ length (events_of plan t g a))
  no_first_events h l = let q = two_causes plan t fit g a (omega arith) in h q.first q.is_first q.first_leads

  pub no_last_events : IsLastCause plan t (length plan.program.ports + a) (0, 0) g None → ¬ (2 ≤ length (events_of plan t g a))
  no_last_events h l = let q = two_causes plan t fit g a (omega arith) in h q.first q.is_first q.first_leads

  pub one_place_events : (first last : Event) → IsFirstCause plan t (length plan.program.ports + a) (0, 0) g (Some first) → IsLastCause plan t (length plan.program.ports + a) (0, 0) g (Some last) → first.place ≡ last.place → ¬ (2 ≤ length (events_of plan t g a))
  one_place_events first last is_first is_last e l =
      let q = two_causes plan t fit g a (omega arith) in
      q.differ (at q.first q.is_first q.first_leads ∙ sym (at q.second q.is_second q.second_leads))
    where
      tag_at : (x : Event) → Leads (length plan.program.ports + a) (0, 0) g x → tag_of x ≡ g
      tag_at x m = sym (none_leads (tag_of x)) ∙ m.1

      place_up : (x y : Event) → Leads (length plan.program.ports + a) (0, 0) g x → Leads (length plan.program.ports + a) (0, 0) g y → ComesUpTo x y → x.place ≤ y.place
      place_up x y m n (inl o) = let b : x.name < y.name = o in let c : x.name ≡ y.name = m.0 ∙ sym n.0 in absurd (omega arith)
      place_up x y m n (inr (o, inl b)) = absurd (Before-irrefl g (subst (λ (z : Tag). Before g z) (tag_at y n) (subst (λ (z : Tag). Before z (tag_of y)) (tag_at x m) b)))
      place_up x y m n (inr (o, inr b)) = b.1

      at : (x : Event) → IsEventCause plan t x → Leads (length plan.program.ports + a) (0, 0) g x → x.place ≡ first.place
      at x i m =
          let low : first.place ≤ x.place = place_up first x is_first.1 m (is_first.2 x i m) in
          let high : x.place ≤ last.place = place_up x last m is_last.1 (is_last.2 x i m) in
          omega arith
