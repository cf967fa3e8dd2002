-- The events in the queue, when a row is fed to it.
use Rattle.std.proofs.Common.{◌≡◌, ◌≢◌, ◌↔◌, ℕ, ◌+◌, ◌<◌, List, [], ◌∷◌, ◌++◌, refl, sym, ap, ◌∙◌, subst, arith, Option, Some, None, IsSome, Bool, true, false, cond, ◌||◌, nat_eq, eqb-true, slice_get, Contains, AllPairs, length, take, length-take}
use Rattle.std.specs.{Cmp.nat_eq_equiv, List.list_any}
use Rattle.std.proofs.lemmas.{Bool.Decides.nat_tests, List.{get_or-take, Elements.Contains-push, Folds.list_any-append}}
use Rattle.std.proofs.lemmas.{Option.{slice_get_within, get_or_from_slice_get}, Map.Views.{list_any-from_Contains, Contains-from_any}}
use Rattle.lft_tag.{specs.{declared.Tag.Tag, Tags.{Before, same_tag}, Shifts.shifted}, proofs.Order.same_tag_refl}
use Rattle.lft_ir.specs.declared.parts.{Port.Port as PortOf, Value.Value, Name.{Name, TheVariants.{Port, Action}}}
use Rattle.lft_ir.specs.declared.steps.row.{Row.Row, Step.TheVariants.Write}
use Rattle.lft_ir.specs.Naming.{same_name}
use Rattle.lft_ir.proofs.Naming.{name_self}
use Rattle.lft_lists.proofs.Picked.{take_one_more}
use Rattle.lft_queue.specs.Pending.{Pending, value_of, same_key, Becomes}
use Rattle.lft_model.{specs.{Plans.{PlanParts, IsSoundPlan}, Presence.{Last, IsWrittenFrom, At, PortClash, ClashesAt}}, proofs.Places.tag_discrete}
use Rattle.lft_scheduler.specs.inner.{Listeners.IsWatched, Events.{IsWanted, IsEventPut, seen_by, IsFedTo, WasWritten}}
use Rattle.lft_scheduler.proofs.{Heard.heard, Written.{shifts_on, from_written, to_written, elsewhere_at, elsewhere_clash, more_clash, one_event, two_events}}

-- the ports of a list that have heard so far, and the next one
pub taken_more : (ports : List ℕ) (i p : ℕ) → slice_get ports i ≡ Some p → take (i + 1) ports ≡ take i ports ++ p ∷ []
taken_more ports i p e = take_one_more ports i p (slice_get_within ports i p e) (get_or_from_slice_get ports i p p e)

pub unmet_yet : (ports : List ℕ) (i p : ℕ) → AllPairs (λ a b. a ≢ b) ports → slice_get ports i ≡ Some p → ¬ Contains (take i ports) p
unmet_yet ports i p apart e c =
    let w : i < length ports = slice_get_within ports i p e in
    let l : c.0 < length (take i ports) = c.1 in
    let k : c.0 < i = omega (arith, length-take i ports) in
    apart c.0 i p k w (sym (get_or-take i ports c.0 p k) ∙ c.2 ∙ sym (get_or_from_slice_get ports i p p e))

-- another port, and an action, have the rows that they had
among_other : (new old : List Row) (ports : List ℕ) (p : ℕ) (m : Name) → same_name (Port p) m ≡ false → seen_by (ports ++ p ∷ []) new old m ≡ seen_by ports new old m
among_other new old ports p (Port q) e = ap (λ (b : Bool). cond b new old) (list_any-append (nat_eq q) ports (p ∷ []) ∙ (let z : nat_eq q p ≡ false = grind (arith, nat_tests) in ap (λ (b : Bool). list_any (nat_eq q) ports || (b || false)) z ∙ or_false (list_any (nat_eq q) ports)))
  where
    or_false : (b : Bool) → b || false ≡ b
    or_false true = refl
    or_false false = refl
among_other new old ports p (Action a) e = refl

-- a port of the list has others
pub among_new : (new old : List Row) (ports : List ℕ) (p : ℕ) → Contains ports p → seen_by ports new old (Port p) ≡ new
among_new new old ports p c = ap (λ (b : Bool). cond b new old) (list_any-from_Contains nat_eq_equiv p ports c)

pub among_old : (new old : List Row) (ports : List ℕ) (p : ℕ) → ¬ Contains ports p → seen_by ports new old (Port p) ≡ old
among_old new old ports p n = go (list_any (nat_eq p) ports) refl
  where
    go : (b : Bool) → list_any (nat_eq p) ports ≡ b → cond b new old ≡ old
    go true e = absurd (n (Contains-from_any (λ x y q. eqb-true x y q) p ports e))
    go false e = refl

pub none_there : (o : Option Value) (u : Value) → o ≡ None → o ≡ Some u → ⊥
none_there o u a b = let z : None ≡ Some u = sym a ∙ b in absurd (cc)

pub some_there : (o : Option Value) → IsSome o → (u : Value) × (o ≡ Some u)
some_there None s = absurd (cc)
some_there (Some u) s = (u, refl)

-- a watched port that hasn't heard of a write of its origin hears of it
module _ (plan : PlanParts) (good : IsSoundPlan plan) (t : List Row) (x : Row) (o : ℕ) (v : Value) (writes : x.step ≡ Write (Port o) v) (p : ℕ) (port : PortOf) (is_port : slice_get plan.program.ports p ≡ Some port) (watched : IsWatched plan.program p) (last : Tag) (ports : List ℕ) (unmet : ¬ Contains ports p) (clash : Option Tag) (q0 : List Pending) (is : IsFedTo plan t x last ports clash q0) where
  module _ (its : port.origin ≡ o) (q1 q2 : List Pending) (found : Option Tag) (put : IsEventPut last clash (shifted x.tag (port.shift.time, port.shift.steps)) (Port p) v q1 q2 found) where
    clean_old : IsWanted last clash (shifted x.tag (port.shift.time, port.shift.steps)) → ¬ PortClash plan t (shifted x.tag (port.shift.time, port.shift.steps)) p
    clean_old w = subst (λ (s : List Row). ¬ ClashesAt plan s (shifted x.tag (port.shift.time, port.shift.steps)) (Port p)) (among_old (t ++ x ∷ []) t ports p unmet) (is.clean (shifted x.tag (port.shift.time, port.shift.steps)) (Port p) w.0 w.1)

    value_old : IsWanted last clash (shifted x.tag (port.shift.time, port.shift.steps)) → (u : Value) → (value_of (shifted x.tag (port.shift.time, port.shift.steps)) (Port p) q0 ≡ Some u) ↔ At plan t (shifted x.tag (port.shift.time, port.shift.steps)) (Port p) u
    value_old w u = subst (λ (s : List Row). (value_of (shifted x.tag (port.shift.time, port.shift.steps)) (Port p) q0 ≡ Some u) ↔ At plan s (shifted x.tag (port.shift.time, port.shift.steps)) (Port p) u) (among_old (t ++ x ∷ []) t ports p unmet) (is.values (shifted x.tag (port.shift.time, port.shift.steps)) (Port p) u watched (shifts_on plan good p port is_port x.tag) w.0 w.1)

    abbrev One : Type 0
    One = ((u : Value) → At plan (t ++ x ∷ []) (shifted x.tag (port.shift.time, port.shift.steps)) (Port p) u ↔ (u ≡ v)) × ¬ ClashesAt plan (t ++ x ∷ []) (shifted x.tag (port.shift.time, port.shift.steps)) (Port p)

    abbrev Two : Type 0
    Two = Before x.tag (shifted x.tag (port.shift.time, port.shift.steps)) × ClashesAt plan (t ++ x ∷ []) (shifted x.tag (port.shift.time, port.shift.steps)) (Port p)

    fed : ((k : Tag) (m : Name) → same_key (shifted x.tag (port.shift.time, port.shift.steps)) (Port p) k m ≡ false → value_of k m q1 ≡ value_of k m q0) → (IsWanted last clash (shifted x.tag (port.shift.time, port.shift.steps)) → value_of (shifted x.tag (port.shift.time, port.shift.steps)) (Port p) q1 ≡ None → One) → (IsWanted last clash (shifted x.tag (port.shift.time, port.shift.steps)) → IsSome (value_of (shifted x.tag (port.shift.time, port.shift.steps)) (Port p) q1) → Two) → IsFedTo plan t x last (ports ++ p ∷ []) found q2
    fed taken fresh twice = heard plan (seen_by ports (t ++ x ∷ []) t) (seen_by (ports ++ p ∷ []) (t ++ x ∷ []) t) x.tag last clash found q0 q1 q2 is (Port p) (shifted x.tag (port.shift.time, port.shift.steps)) v (among_other (t ++ x ∷ []) t ports p) t (t ++ x ∷ []) (among_old (t ++ x ∷ []) t ports p unmet) (among_new (t ++ x ∷ []) t (ports ++ p ∷ []) p (Contains-push ports p)) (elsewhere_at plan good t x o v writes p port is_port its) (elsewhere_clash plan good t x o v writes p port is_port its) (more_clash plan good t x o v writes p port is_port its) taken put fresh twice

    -- the origin was written at the tag before: what it gave the port is taken out first
    pub again_fed : WasWritten t x.tag o → Becomes q0 q1 (shifted x.tag (port.shift.time, port.shift.steps)) (Port p) None → IsFedTo plan t x last (ports ++ p ∷ []) found q2
    again_fed was out = fed (λ k m e. out k m ∙ ap (λ (b : Bool). cond b None (value_of k m q0)) e) (λ w e. one_event plan good t x o v writes p port is_port its (alone w)) (λ w s. absurd (gone s))
      where
        before : IsWrittenFrom plan t (shifted x.tag (port.shift.time, port.shift.steps)) p x.tag was.0
        before = to_written plan good p port is_port t (shifted x.tag (port.shift.time, port.shift.steps)) x.tag was.0 refl (subst (λ (c : ℕ). Last t x.tag c was.0) (sym its) was.1)

        alone : IsWanted last clash (shifted x.tag (port.shift.time, port.shift.steps)) → (h : Tag) (u : Value) → IsWrittenFrom plan t (shifted x.tag (port.shift.time, port.shift.steps)) p h u → x.tag ≡ h
        alone w h u k = go (tag_discrete x.tag h)
          where
            go : Dec (x.tag ≡ h) → x.tag ≡ h
            go (yes e) = e
            go (no n) = absurd (clean_old w (record { first = x.tag; second = h; first_value = was.0; second_value = u; is_first = before; is_second = k; differ = n }))

        gone : IsSome (value_of (shifted x.tag (port.shift.time, port.shift.steps)) (Port p) q1) → ⊥
        gone s =
            let a : same_tag (shifted x.tag (port.shift.time, port.shift.steps)) (shifted x.tag (port.shift.time, port.shift.steps)) ≡ true = same_tag_refl (shifted x.tag (port.shift.time, port.shift.steps)) (shifted x.tag (port.shift.time, port.shift.steps)) refl in
            let c : same_name (Port p) (Port p) ≡ true = name_self (Port p) in
            let k : same_key (shifted x.tag (port.shift.time, port.shift.steps)) (Port p) (shifted x.tag (port.shift.time, port.shift.steps)) (Port p) ≡ true = rw (a, c) refl in
            let none : value_of (shifted x.tag (port.shift.time, port.shift.steps)) (Port p) q1 ≡ None = out (shifted x.tag (port.shift.time, port.shift.steps)) (Port p) ∙ ap (λ (b : Bool). cond b None (value_of (shifted x.tag (port.shift.time, port.shift.steps)) (Port p) q0)) k in
            let q = some_there (value_of (shifted x.tag (port.shift.time, port.shift.steps)) (Port p) q1) s in
            none_there (value_of (shifted x.tag (port.shift.time, port.shift.steps)) (Port p) q1) q.0 none q.1

    -- it wasn't
    pub first_fed : ¬ WasWritten t x.tag o → q1 ≡ q0 → IsFedTo plan t x last (ports ++ p ∷ []) found q2
    first_fed never same = fed (λ k m e. ap (λ (q : List Pending). value_of k m q) same) fresh twice
      where
        same_value : value_of (shifted x.tag (port.shift.time, port.shift.steps)) (Port p) q1 ≡ value_of (shifted x.tag (port.shift.time, port.shift.steps)) (Port p) q0
        same_value = ap (λ (q : List Pending). value_of (shifted x.tag (port.shift.time, port.shift.steps)) (Port p) q) same

        fresh : IsWanted last clash (shifted x.tag (port.shift.time, port.shift.steps)) → value_of (shifted x.tag (port.shift.time, port.shift.steps)) (Port p) q1 ≡ None → One
        fresh w e = one_event plan good t x o v writes p port is_port its (λ h u k. absurd (none_there (value_of (shifted x.tag (port.shift.time, port.shift.steps)) (Port p) q0) u (sym same_value ∙ e) ((value_old w u).1 (h, k))))

        twice : IsWanted last clash (shifted x.tag (port.shift.time, port.shift.steps)) → IsSome (value_of (shifted x.tag (port.shift.time, port.shift.steps)) (Port p) q1) → Two
        twice w s =
            let q = some_there (value_of (shifted x.tag (port.shift.time, port.shift.steps)) (Port p) q1) s in
            let a = (value_old w q.0).0 (sym same_value ∙ q.1) in
            two_events plan good t x o v writes p port is_port its a.0 q.0 a.1 (λ e. never (q.0, subst (λ (c : ℕ). Last t x.tag c q.0) its (subst (λ (h : Tag). Last t h port.origin q.0) (sym e) (from_written plan good p port is_port t (shifted x.tag (port.shift.time, port.shift.steps)) a.0 q.0 a.1).1)))
