-- The causes, one row and one event after another, and in order.
use Rattle.std.proofs.Common.{◌≡◌, ℕ, zero, suc, ◌+◌, ◌<◌, ◌≤◌, ◌⊎◌, inl, inr, List, [], ◌∷◌, ◌++◌, length, refl, sym, ap, ◌∙◌, subst, arith, Bool, ◌==◌, Option, Some, None, slice_get, false, slice_index_or, ne_eqb}
use Rattle.std.specs.{List.{IsDistinct, Sorted.{IsPermutation, IsSorted}}, Ordering.{nat_cmp, ordering_then, is_lt}, Cmp.IsTotalOrder}
use Rattle.std.proofs.lemmas.{Cmp.{nat_cmp_total, then_total, on_total}, List.Sorted.{IsPermutation-sym, Contains-permutation, sorted_far, ranks_by}}
use Rattle.std.proofs.lemmas.{Bool.{cases_lt, eq-eqb, Decides.nat_tests}, Map.Keys.{IsDistinct-IsPermutation, IsDistinct-from_apart, apart_from_distinct}}
use Rattle.std.proofs.lemmas.Option.{get_or_from_slice_get, slice_get-get_or}
use native.Mathlib.Decide.{ℕ_discrete}
use Rattle.lft_tag.{specs.{declared.Tag.Tag, Tags.{IsRecorded, after}}, proofs.Chains.tag_of as tag_from}
use Rattle.lft_lists.proofs.{Members.{mem_get, get_mem, mem_contains, contains_mem}, Places.{get_left, get_last, get_push_cases}}
use Rattle.lft_ir.specs.{Parts.Parts, Sound.IsSound}
use Rattle.lft_ir.specs.declared.parts.{Action.Action as ActionOf, Name.TheVariants.{Port, Action}}
use Rattle.lft_ir.specs.declared.steps.{row.{Row.Row, Step.{Step, TheVariants.{Start, Read, Write, Schedule, Stop, End}}}, externals.Event.Event}
use Rattle.lft_ir.specs.Steps.Fits.{RowsFit, StepFits}
use Rattle.lft_model.{specs.{Plans.{PlanParts, IsSoundPlan}, Presence.min_delay}, proofs.Places.slice_get_within}
use Rattle.lft_rows.specs.declared.presence.causes.EventCause.{EventCause}
use Rattle.lft_rows.specs.inner.Presence.Causes.{tag_of, ComesUpTo, AreAscending, IsNear, AreNear, HasJust, IsRowCause, IsEventCause, IsCause, AreCauses, step_cause, event_cause}
use Rattle.lft_rows.proofs.PresenceLemmas.{Lists.not_true, Presences.{step_place, event_place}}

-- a list that has just one kind has just another that is the same
pub just_as : (P Q : EventCause → Type 0) (cs : List EventCause) → HasJust P cs → ((c : EventCause) → P c → Q c) → ((c : EventCause) → Q c → P c) → HasJust Q cs
just_as P Q cs h to from = record { only = λ k c e. to c (h.only k c e); each = λ c q. h.each c (from c q); once = h.once }

-- one more at the end
pub just_more : (P Q : EventCause → Type 0) (cs : List EventCause) (x : EventCause) → HasJust P cs → ((c : EventCause) → P c → Q c) → Q x → ((c : EventCause) → P c → ¬ (c.place ≡ x.place)) → ((c : EventCause) → Q c → P c ⊎ (x ≡ c)) → HasJust Q (cs ++ x ∷ [])
just_more P Q cs x h to here new from = record { only = λ k c e. only c (get_push_cases cs x k c e); each = λ c q. each c (from c q); once = λ j k c d p q e. once j k c d e (get_push_cases cs x j c p) (get_push_cases cs x k d q) }
  where
    once : (j k : ℕ) (c d : EventCause) → c.place ≡ d.place → (slice_get cs j ≡ Some c) ⊎ ((j ≡ length cs) × (x ≡ c)) → (slice_get cs k ≡ Some d) ⊎ ((k ≡ length cs) × (x ≡ d)) → j ≡ k
    once j k c d e (inl p) (inl q) = h.once j k c d p q e
    once j k c d e (inl p) (inr q) = absurd (new c (h.only j c p) (e ∙ ap (λ (z : EventCause). z.place) (sym q.1)))
    once j k c d e (inr p) (inl q) = absurd (new d (h.only k d q) (sym e ∙ ap (λ (z : EventCause). z.place) (sym p.1)))
    once j k c d e (inr p) (inr q) = p.0 ∙ sym q.0

    only : (c : EventCause) → {k : ℕ} → (slice_get cs k ≡ Some c) ⊎ ((k ≡ length cs) × (x ≡ c)) → Q c
    only c {k} (inl e) = to c (h.only k c e)
    only c {k} (inr e) = subst Q e.1 here

    each : (c : EventCause) → P c ⊎ (x ≡ c) → (k : ℕ) × (slice_get (cs ++ x ∷ []) k ≡ Some c)
    each c (inl p) = let k = h.each c p in (k.0, get_left cs (x ∷ []) k.0 c k.1)
    each c (inr e) = (length cs, get_last cs x ∙ ap Some e)

-- a row before place i is the cause
abbrev pub IsRowCauseTo : Parts → List Row → ℕ → EventCause → Type 0
IsRowCauseTo program t i c = (x : IsRowCause program t c) × (x.place < i)

module _ (program : Parts) (t : List Row) (i : ℕ) (row : Row) (is_row : slice_get t i ≡ Some row) where
  -- a cause up to this row is this row or one before it
  last : (o : Option EventCause) → o ≡ step_cause program row.tag i row.step → (c : EventCause) → IsRowCauseTo program t (i + 1) c → IsRowCauseTo program t i c ⊎ (o ≡ Some c)
  last o e c x = go (ℕ_discrete x.0.place i)
    where
      go : Dec (x.0.place ≡ i) → IsRowCauseTo program t i c ⊎ (o ≡ Some c)
      go (no n) = let l : x.0.place < i + 1 = x.1 in inl (x.0, omega arith)
      go (yes q) =
          let a : Some x.0.row ≡ Some row = sym x.0.is_row ∙ ap (λ k. slice_get t k) q ∙ is_row in
          let b : x.0.row ≡ row = cc in
          inr (e ∙ sym (ap (λ (z : Row). step_cause program z.tag i z.step) b) ∙ sym (ap (λ k. step_cause program x.0.row.tag k x.0.row.step) q) ∙ x.0.gives)

  further : (c : EventCause) → IsRowCauseTo program t i c → IsRowCauseTo program t (i + 1) c
  further c x = let l : x.0.place < i = x.1 in (x.0, omega arith)

  pub row_is_none : (cs : List EventCause) → None ≡ step_cause program row.tag i row.step → HasJust (IsRowCauseTo program t i) cs → HasJust (IsRowCauseTo program t (i + 1)) cs
  row_is_none cs e h = just_as (IsRowCauseTo program t i) (IsRowCauseTo program t (i + 1)) cs h further (λ c x. from c (last None e c x))
    where
      from : (c : EventCause) → IsRowCauseTo program t i c ⊎ (None ≡ Some c) → IsRowCauseTo program t i c
      from c (inl x) = x
      from c (inr q) = absurd (cc)

  pub row_is_one : (cs : List EventCause) (x : EventCause) → Some x ≡ step_cause program row.tag i row.step → HasJust (IsRowCauseTo program t i) cs → HasJust (IsRowCauseTo program t (i + 1)) (cs ++ x ∷ [])
  row_is_one cs x e h = just_more (IsRowCauseTo program t i) (IsRowCauseTo program t (i + 1)) cs x h further (record { place = i; row = row; is_row = is_row; gives = sym e }, omega arith) new (λ c y. from c (last (Some x) e c y))
    where
      new : (c : EventCause) → IsRowCauseTo program t i c → ¬ (c.place ≡ x.place)
      new c y q =
          let a : c.place ≡ y.0.place = step_place program y.0.row.tag y.0.place y.0.row.step c y.0.gives in
          let b : x.place ≡ i = step_place program row.tag i row.step x (sym e) in
          let l : y.0.place < i = y.1 in
          absurd (omega arith)

      from : (c : EventCause) → IsRowCauseTo program t i c ⊎ (Some x ≡ Some c) → IsRowCauseTo program t i c ⊎ (x ≡ c)
      from c (inl y) = inl y
      from c (inr q) = let r : x ≡ c = cc in inr r

pub rows_end : (program : Parts) (t : List Row) (i : ℕ) (cs : List EventCause) → i ≡ length t → HasJust (IsRowCauseTo program t i) cs → HasJust (IsRowCause program t) cs
rows_end program t i cs e h = just_as (IsRowCauseTo program t i) (IsRowCause program t) cs h (λ c x. x.0) (λ c x. let l : x.place < length t = slice_get_within t x.place x.row x.is_row in (x, omega arith))

-- a row, or an external event before place i, is the cause
abbrev pub IsCauseTo : Parts → List Row → List Event → ℕ → EventCause → Type 0
IsCauseTo program t events i c = IsRowCause program t c ⊎ ((x : IsEventCause program t events c) × (x.place < i))

pub events_begin : (program : Parts) (t : List Row) (events : List Event) (cs : List EventCause) → HasJust (IsRowCause program t) cs → HasJust (IsCauseTo program t events 0) cs
events_begin program t events cs h = just_as (IsRowCause program t) (IsCauseTo program t events 0) cs h (λ c x. inl x) from
  where
    from : (c : EventCause) → IsCauseTo program t events 0 c → IsRowCause program t c
    from c (inl x) = x
    from c (inr x) = let l : x.0.place < 0 = x.1 in absurd (omega arith)

pub event_more : (program : Parts) (t : List Row) (events : List Event) (i : ℕ) (event : Event) (x : EventCause) (cs : List EventCause) → slice_get events i ≡ Some event → x ≡ event_cause program (length t + i) event → HasJust (IsCauseTo program t events i) cs → HasJust (IsCauseTo program t events (i + 1)) (cs ++ x ∷ [])
event_more program t events i event x cs is_event e h = just_more (IsCauseTo program t events i) (IsCauseTo program t events (i + 1)) cs x h to (inr (record { place = i; event = event; is_event = is_event; gives = sym e }, omega arith)) new from
  where
    new : (c : EventCause) → IsCauseTo program t events i c → ¬ (c.place ≡ x.place)
    new c (inl y) q =
        let a : c.place ≡ y.place = step_place program y.row.tag y.place y.row.step c y.gives in
        let l : y.place < length t = slice_get_within t y.place y.row y.is_row in
        let b : x.place ≡ length t + i = event_place program (length t + i) event x (sym e) in
        absurd (omega arith)
    new c (inr y) q =
        let a : c.place ≡ length t + y.0.place = event_place program (length t + y.0.place) y.0.event c y.0.gives in
        let l : y.0.place < i = y.1 in
        let b : x.place ≡ length t + i = event_place program (length t + i) event x (sym e) in
        absurd (omega arith)

    to : (c : EventCause) → IsCauseTo program t events i c → IsCauseTo program t events (i + 1) c
    to c (inl y) = inl y
    to c (inr y) = let l : y.0.place < i = y.1 in inr (y.0, omega arith)

    from : (c : EventCause) → IsCauseTo program t events (i + 1) c → IsCauseTo program t events i c ⊎ (x ≡ c)
    from c (inl y) = inl (inl y)
    from c (inr y) = go (ℕ_discrete y.0.place i)
      where
        go : Dec (y.0.place ≡ i) → IsCauseTo program t events i c ⊎ (x ≡ c)
        go (no n) = let l : y.0.place < i + 1 = y.1 in inl (inr (y.0, omega arith))
        go (yes q) =
            let a : Some y.0.event ≡ Some event = sym y.0.is_event ∙ ap (λ k. slice_get events k) q ∙ is_event in
            let b : y.0.event ≡ event = cc in
            inr (e ∙ sym (ap (λ (z : Event). event_cause program (length t + i) z) b) ∙ sym (ap (λ k. event_cause program (length t + k) y.0.event) q) ∙ y.0.gives)

pub events_end : (plan : PlanParts) (t : List Row) (i : ℕ) (cs : List EventCause) → i ≡ length plan.externals.events → HasJust (IsCauseTo plan.program t plan.externals.events i) cs → HasJust (IsCause plan t) cs
events_end plan t i cs e h = just_as (IsCauseTo plan.program t plan.externals.events i) (IsCause plan t) cs h to from
  where
    to : (c : EventCause) → IsCauseTo plan.program t plan.externals.events i c → IsCause plan t c
    to c (inl x) = inl x
    to c (inr x) = inr x.0

    from : (c : EventCause) → IsCause plan t c → IsCauseTo plan.program t plan.externals.events i c
    from c (inl x) = inl x
    from c (inr x) = let l : x.place < length plan.externals.events = slice_get_within plan.externals.events x.place x.event x.is_event in inr (x, omega arith)

-- the order of causes
cause_cmp_total : IsTotalOrder (λ (x : EventCause) y. ordering_then (nat_cmp x.name y.name) (ordering_then (nat_cmp x.time y.time) (ordering_then (nat_cmp x.micro y.micro) (nat_cmp x.place y.place))))
cause_cmp_total = then_total (on_total (λ (x : EventCause). x.name) nat_cmp_total) (then_total (on_total (λ (x : EventCause). x.time) nat_cmp_total) (then_total (on_total (λ (x : EventCause). x.micro) nat_cmp_total) (on_total (λ (x : EventCause). x.place) nat_cmp_total)))

numbers_up : (a b c d k l m n : ℕ) → is_lt (ordering_then (nat_cmp k a) (ordering_then (nat_cmp l b) (ordering_then (nat_cmp m c) (nat_cmp n d)))) ≡ false → (a < k) ⊎ ((a ≡ k) × ((b < l) ⊎ ((b ≡ l) × ((c < m) ⊎ ((c ≡ m) × (d ≤ n))))))
numbers_up a b c d k l m n e = grind (arith, nat_tests)

comes_up : (x y : EventCause) → (x.name < y.name) ⊎ ((x.name ≡ y.name) × ((x.time < y.time) ⊎ ((x.time ≡ y.time) × ((x.micro < y.micro) ⊎ ((x.micro ≡ y.micro) × (x.place ≤ y.place)))))) → ComesUpTo x y
comes_up x y (inl l) = inl l
comes_up x y (inr (e, inl l)) = inr (e, inl (inl l))
comes_up x y (inr (e, inr (f, inl l))) = inr (e, inl (inr (f, l)))
comes_up x y (inr (e, inr (f, inr (g, l)))) = inr (e, inr (tag_from f g, l))

pub sorted_up : (cs : List EventCause) → IsSorted (λ (x : EventCause) y. ordering_then (nat_cmp x.name y.name) (ordering_then (nat_cmp x.time y.time) (ordering_then (nat_cmp x.micro y.micro) (nat_cmp x.place y.place)))) cs → AreAscending cs
sorted_up cs up j k x y l e f =
    let lt = λ (x : EventCause) (y : EventCause). is_lt (ordering_then (nat_cmp x.name y.name) (ordering_then (nat_cmp x.time y.time) (ordering_then (nat_cmp x.micro y.micro) (nat_cmp x.place y.place)))) in
    let far = sorted_far lt (ranks_by cause_cmp_total (λ (x : EventCause). x)) cs up j k x (omega arith) (slice_get_within cs k y f) in
    let a = get_or_from_slice_get cs j x x e in
    let b = get_or_from_slice_get cs k y x f in
    comes_up x y (numbers_up x.name x.time x.micro x.place y.name y.time y.micro y.place (subst (λ (v : EventCause). lt y v ≡ false) a (subst (λ (u : EventCause). lt u (slice_index_or cs j x) ≡ false) b far)))

abbrev same_place : EventCause → EventCause → Bool
same_place x y = x.place == y.place

same_place-flips : (x y : EventCause) → same_place x y ≡ same_place y x
same_place-flips x y = go (ℕ_discrete x.place y.place)
  where
    go : Dec (x.place ≡ y.place) → same_place x y ≡ same_place y x
    go (yes e) = eq-eqb x.place y.place e ∙ sym (eq-eqb y.place x.place (sym e))
    go (no n) = ne_eqb x.place y.place n ∙ sym (ne_eqb y.place x.place (λ e. n (sym e)))

-- what stands at places of their own does so in another order
once_sorted : (xs ys : List EventCause) → IsPermutation xs ys → ((j k : ℕ) (x y : EventCause) → slice_get xs j ≡ Some x → slice_get xs k ≡ Some y → x.place ≡ y.place → j ≡ k) → (j k : ℕ) (x y : EventCause) → slice_get ys j ≡ Some x → slice_get ys k ≡ Some y → x.place ≡ y.place → j ≡ k
once_sorted xs ys moves once j k x y p q e = go (cases_lt j k) (cases_lt k j)
  where
    differ : (i l : ℕ) (d : EventCause) → i < l → l < length xs → same_place (slice_index_or xs i d) (slice_index_or xs l d) ≡ false
    differ i l d m n = ne_eqb (slice_index_or xs i d).place (slice_index_or xs l d).place (λ f. let s : i ≡ l = once i l (slice_index_or xs i d) (slice_index_or xs l d) (slice_get-get_or xs i d (omega arith)) (slice_get-get_or xs l d n) f in absurd (omega arith))

    distinct : IsDistinct same_place ys
    distinct = IsDistinct-IsPermutation same_place same_place-flips xs ys moves (IsDistinct-from_apart same_place xs differ)

    apart : (i l : ℕ) (u v : EventCause) → i < l → slice_get ys i ≡ Some u → slice_get ys l ≡ Some v → u.place ≡ v.place → ⊥
    apart i l u v m f g s =
        let a : same_place (slice_index_or ys i u) (slice_index_or ys l u) ≡ false = apart_from_distinct same_place ys i l u distinct m (slice_get_within ys l v g) in
        let b : slice_index_or ys i u ≡ u = get_or_from_slice_get ys i u u f in
        let c : slice_index_or ys l u ≡ v = get_or_from_slice_get ys l v u g in
        let d : same_place u v ≡ false = subst (λ (z : EventCause). same_place u z ≡ false) c (subst (λ (z : EventCause). same_place z (slice_index_or ys l u) ≡ false) b a) in
        not_true (sym d ∙ eq-eqb u.place v.place s)

    go : (j < k) ⊎ (k ≤ j) → (k < j) ⊎ (j ≤ k) → j ≡ k
    go (inl l) o = absurd (apart j k x y l p q e)
    go (inr l) (inl m) = absurd (apart k j y x m q p (sym e))
    go (inr l) (inr m) = omega arith

-- a list in another order has the same
pub just_sorted : (P : EventCause → Type 0) (xs ys : List EventCause) → IsPermutation xs ys → HasJust P xs → HasJust P ys
just_sorted P xs ys moves h = record { only = only; each = each; once = once_sorted xs ys moves h.once }
  where
    only : (k : ℕ) (c : EventCause) → slice_get ys k ≡ Some c → P c
    only k c e = let m = get_mem c xs (contains_mem c xs (Contains-permutation ys xs c (IsPermutation-sym xs ys moves) (mem_contains c ys (mem_get ys k c e)))) in h.only m.0 c m.1

    each : (c : EventCause) → P c → (k : ℕ) × (slice_get ys k ≡ Some c)
    each c p = let k = h.each c p in get_mem c ys (contains_mem c ys (Contains-permutation xs ys c moves (mem_contains c xs (mem_get xs k.0 c k.1))))

-- a shift can be added to the tag of each cause
near_by : (x c : EventCause) → x ≡ c → IsNear (tag_of x) → IsNear (tag_of c)
near_by x c e n = subst (λ (z : EventCause). IsNear (tag_of z)) e n

after_near : (g : Tag) (d : ℕ) → IsRecorded g → d ≤ 2000000000000000000 → IsNear (after g d)
after_near g zero r l = let a : g.time ≤ 1000000000000000000 = r.0 in let b : g.micro ≤ 1000000000 = r.1 in (omega arith, omega arith)
after_near g (suc d) r l = let a : g.time ≤ 1000000000000000000 = r.0 in (omega arith, omega arith)

min_within : (program : Parts) → IsSound program → (a : ℕ) → min_delay program a ≤ 1000000000000000000
min_within program sound a = go (slice_get program.actions a) refl
  where
    go : (o : Option ActionOf) → slice_get program.actions a ≡ o → min_delay program a ≤ 1000000000000000000
    go None e = rw e (omega arith)
    go (Some x) e = let l : x.min_delay ≤ 1000000000000000000 = sound.times.min_delays a x e in rw e l

step_near : (program : Parts) → IsSound program → (g : Tag) (i : ℕ) (s : Step) (c : EventCause) → IsRecorded g → StepFits program s → step_cause program g i s ≡ Some c → IsNear (tag_of c)
step_near program sound g i Start c r f e = absurd (cc)
step_near program sound g i (Read n v) c r f e = absurd (cc)
step_near program sound g i (Write (Port p) v) c r f e = let x : EventCause = record { name = p; time = g.time; micro = g.micro; place = i } in let a : g.time ≤ 1000000000000000000 = r.0 in let b : g.micro ≤ 1000000000 = r.1 in near_by x c (cc) (omega arith, omega arith)
step_near program sound g i (Write (Action a) v) c r f e = absurd (cc)
step_near program sound g i (Schedule (Port p) v d) c r f e = absurd (cc)
step_near program sound g i (Schedule (Action a) v d) c r f e =
    let m : min_delay program a ≤ 1000000000000000000 = min_within program sound a in
    let l : d ≤ 1000000000000000000 = f.1 in
    let h = after g (min_delay program a + d) in
    let x : EventCause = record { name = length program.ports + a; time = h.time; micro = h.micro; place = i } in
    near_by x c (cc) (after_near g (min_delay program a + d) r (omega arith))
step_near program sound g i Stop c r f e = absurd (cc)
step_near program sound g i End c r f e = absurd (cc)

pub causes_near : (plan : PlanParts) (t : List Row) → IsSoundPlan plan → RowsFit plan.program t → (cs : List EventCause) → HasJust (IsCause plan t) cs → AreNear cs
causes_near plan t sound fit cs h k c e = go (h.only k c e)
  where
    go : IsCause plan t c → IsNear (tag_of c)
    go (inl x) = let f = fit.each x.place x.row x.is_row in step_near plan.program sound.sound x.row.tag x.place x.row.step c f.recorded f.step x.gives
    go (inr x) =
        let f = sound.fit.each x.place x.event x.is_event in
        let a : x.event.tag.time ≤ 1000000000000000000 = f.recorded.0 in
        let b : x.event.tag.micro ≤ 1000000000 = f.recorded.1 in
        near_by (event_cause plan.program (length t + x.place) x.event) c x.gives (omega arith, omega arith)

pub causes_sorted : (plan : PlanParts) (t : List Row) → IsSoundPlan plan → RowsFit plan.program t → (cs ds : List EventCause) → HasJust (IsCause plan t) cs → IsPermutation cs ds → IsSorted (λ (x : EventCause) y. ordering_then (nat_cmp x.name y.name) (ordering_then (nat_cmp x.time y.time) (ordering_then (nat_cmp x.micro y.micro) (nat_cmp x.place y.place)))) ds → AreCauses plan t ds
causes_sorted plan t sound fit cs ds h moves up = let j = just_sorted (IsCause plan t) cs ds moves h in record { just = j; ascending = sorted_up ds up; near = causes_near plan t sound fit ds j }
