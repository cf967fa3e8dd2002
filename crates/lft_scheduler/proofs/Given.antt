-- The events of the external inputs in the queue.
use Rattle.std.proofs.Common.{◌≡◌, ◌↔◌, ℕ, ◌+◌, ◌<◌, ◌≤◌, ◌⊎◌, inl, inr, List, [], ◌∷◌, length, refl, sym, ap, ◌∙◌, subst, arith, Option, Some, None, IsSome, Bool, true, false, cond, ◌&&◌, ◌==◌, eq-eqb, eqb-true, slice_get, slice_index_or, filter_map, map, Contains}
use Rattle.std.{specs.List.AllZip, proofs.{lemmas.Bool.false≢true, NetLemmas.Options.cond_some}}
use native.Mathlib.Decide.{dec_lt}
use Rattle.lft_tag.{specs.{declared.Tag.Tag, Tags.{Before, UpTo, same_tag}}, proofs.Order.{Before-irrefl, UpTo-not, order_cases, same_tag_refl, same_tag_true}}
use Rattle.lft_ir.specs.Parts.{Parts, inputs}
use Rattle.lft_ir.specs.declared.parts.{Trigger.TheVariants.On, Reaction.Reaction, Value.Value, Name.{Name, TheVariants.{Port, Action}}}
use Rattle.lft_ir.specs.declared.steps.{row.Row.Row, externals.Event.Event}
use Rattle.lft_ir.specs.{Naming.same_name, Steps.Inputs.InOrder}
use Rattle.lft_ir.proofs.Naming.{name_same, name_self}
use Rattle.lft_lists.proofs.Members.{Mem, mem_get, get_mem, mem_filter, mem_from_filter, mem_contains, contains_mem}
use Rattle.lft_queue.specs.Pending.{Pending, value_of, same_key, Becomes}
use Rattle.lft_model.specs.{Plans.{PlanParts, IsSoundPlan}, Presence.{given, At, Shows, Inputs}}
use Rattle.lft_model.proofs.{Places.slice_get_within, Counted.get_or_get, Steps.both_true, Reached.input_of_trigger, Empty.empty_so_far}
use Rattle.lft_scheduler.{specs.inner.{Listeners.IsListener, Events.{IsWatchedName, HasEvents}}, proofs.Fed.{none_there, some_there}}

-- one of the first i events is of the action at the tag, with the value
pub record IsGiven (events : List Event) (i : ℕ) (h : Tag) (n : Name) (v : Value) : Type 0 where
  pub place : ℕ
  pub event : Event
  pub before : place < i
  pub is_event : slice_get events place ≡ Some event
  pub tag_is : event.tag ≡ h
  pub name_is : Action event.action ≡ n
  pub value_is : event.value ≡ v

-- no two events of one action are at one tag
ordered : (events : List Event) → InOrder events → (j k : ℕ) (x y : Event) → j < k → slice_get events j ≡ Some x → slice_get events k ≡ Some y → x.tag ≡ y.tag → x.action ≡ y.action → ⊥
ordered events o j k x y l e f t a = go (subst (λ (z : Event). Before z.tag y.tag ⊎ ((z.tag ≡ y.tag) × (z.action < y.action))) (at j x x e) (subst (λ (z : Event). Before (slice_index_or events j x).tag z.tag ⊎ (((slice_index_or events j x).tag ≡ z.tag) × ((slice_index_or events j x).action < z.action))) (at k y x f) (o j k x l (slice_get_within events k y f))))
  where
    at : (i : ℕ) (z d : Event) → slice_get events i ≡ Some z → slice_index_or events i d ≡ z
    at i z d q = (get_or_get events i z d q).1

    go : Before x.tag y.tag ⊎ ((x.tag ≡ y.tag) × (x.action < y.action)) → ⊥
    go (inl b) = Before-irrefl y.tag (subst (λ (g : Tag). Before g y.tag) t b)
    go (inr p) = let z : x.action < y.action = p.1 in omega (arith, a)

module _ (events : List Event) (i : ℕ) (event : Event) (is_event : slice_get events i ≡ Some event) (stop : Tag) where
  -- an event after the stop
  pub given_late : (q : List Pending) → Before stop event.tag → ((h : Tag) (n : Name) (v : Value) → UpTo h stop → (value_of h n q ≡ Some v) ↔ IsGiven events i h n v) → (h : Tag) (n : Name) (v : Value) → UpTo h stop → (value_of h n q ≡ Some v) ↔ IsGiven events (i + 1) h n v
  given_late q late is h n v u = (λ e. more ((is h n v u).0 e), λ k. (is h n v u).1 (fewer k (dec_lt k.place i)))
    where
      more : IsGiven events i h n v → IsGiven events (i + 1) h n v
      more k = record { place = k.place; event = k.event; before = let z = k.before in omega arith; is_event = k.is_event; tag_is = k.tag_is; name_is = k.name_is; value_is = k.value_is }

      fewer : (k : IsGiven events (i + 1) h n v) → Dec (k.place < i) → IsGiven events i h n v
      fewer k (yes l) = record { place = k.place; event = k.event; before = l; is_event = k.is_event; tag_is = k.tag_is; name_is = k.name_is; value_is = k.value_is }
      fewer k (no m) =
          let q : k.place ≡ i = (let z = k.before in omega arith) in
          let s : Some event ≡ Some k.event = sym is_event ∙ ap (λ (j : ℕ). slice_get events j) (sym q) ∙ k.is_event in
          let y : event ≡ k.event = cc in
          absurd (UpTo-not h stop u (subst (λ (g : Tag). Before stop g) (ap (λ (z : Event). z.tag) y ∙ k.tag_is) late))

  -- one up to it is put in
  pub given_put : (q new : List Pending) → Becomes q new event.tag (Action event.action) (Some event.value) → value_of event.tag (Action event.action) q ≡ None → ((h : Tag) (n : Name) (v : Value) → UpTo h stop → (value_of h n q ≡ Some v) ↔ IsGiven events i h n v) → (h : Tag) (n : Name) (v : Value) → UpTo h stop → (value_of h n new ≡ Some v) ↔ IsGiven events (i + 1) h n v
  given_put q new becomes none is h n v u = go (same_key event.tag (Action event.action) h n) refl
    where
      more : IsGiven events i h n v → IsGiven events (i + 1) h n v
      more k = record { place = k.place; event = k.event; before = let z = k.before in omega arith; is_event = k.is_event; tag_is = k.tag_is; name_is = k.name_is; value_is = k.value_is }

      its : event.tag ≡ h → Action event.action ≡ n → event.value ≡ v → IsGiven events (i + 1) h n v
      its a b c = record { place = i; event = event; before = omega arith; is_event = is_event; tag_is = a; name_is = b; value_is = c }

      cases : (k : IsGiven events (i + 1) h n v) → Dec (k.place < i) → IsGiven events i h n v ⊎ ((event.tag ≡ h) × (Action event.action ≡ n) × (event.value ≡ v))
      cases k (yes l) = inl (record { place = k.place; event = k.event; before = l; is_event = k.is_event; tag_is = k.tag_is; name_is = k.name_is; value_is = k.value_is })
      cases k (no m) =
          let p : k.place ≡ i = (let z = k.before in omega arith) in
          let s : Some event ≡ Some k.event = sym is_event ∙ ap (λ (j : ℕ). slice_get events j) (sym p) ∙ k.is_event in
          let y : event ≡ k.event = cc in
          inr (ap (λ (z : Event). z.tag) y ∙ k.tag_is, ap (λ (z : Event). Action z.action) y ∙ k.name_is, ap (λ (z : Event). z.value) y ∙ k.value_is)

      go : (b : Bool) → same_key event.tag (Action event.action) h n ≡ b → (value_of h n new ≡ Some v) ↔ IsGiven events (i + 1) h n v
      go true e =
          let z = both_true (same_tag event.tag h) (same_name (Action event.action) n) e in
          let a : event.tag ≡ h = same_tag_true event.tag h z.0 in
          let b : Action event.action ≡ n = name_same (Action event.action) n z.1 in
          let now : value_of h n new ≡ Some event.value = becomes h n ∙ ap (λ (x : Bool). cond x (Some event.value) (value_of h n q)) e in
          let old : value_of h n q ≡ None = subst (λ (g : Tag). value_of g n q ≡ None) a (subst (λ (m : Name). value_of event.tag m q ≡ None) b none) in
          (λ f. its a b (let s : Some event.value ≡ Some v = sym now ∙ f in let y : event.value ≡ v = cc in y), λ k. found now old (cases k (dec_lt k.place i)))
        where
          found : value_of h n new ≡ Some event.value → value_of h n q ≡ None → IsGiven events i h n v ⊎ ((event.tag ≡ h) × (Action event.action ≡ n) × (event.value ≡ v)) → value_of h n new ≡ Some v
          found now old (inl k) = absurd (none_there (value_of h n q) v old ((is h n v u).1 k))
          found now old (inr p) = now ∙ ap Some p.2
      go false e =
          let now : value_of h n new ≡ value_of h n q = becomes h n ∙ ap (λ (x : Bool). cond x (Some event.value) (value_of h n q)) e in
          (λ f. more ((is h n v u).0 (sym now ∙ f)), λ k. now ∙ (is h n v u).1 (old (cases k (dec_lt k.place i))))
        where
          old : IsGiven events i h n v ⊎ ((event.tag ≡ h) × (Action event.action ≡ n) × (event.value ≡ v)) → IsGiven events i h n v
          old (inl k) = k
          old (inr p) = let a : same_tag event.tag h ≡ true = same_tag_refl event.tag h p.0 in let b : same_name (Action event.action) n ≡ true = subst (λ (m : Name). same_name (Action event.action) m ≡ true) p.1 (name_self (Action event.action)) in let s : same_key event.tag (Action event.action) h n ≡ true = rw (a, b) refl in absurd (false≢true (sym e ∙ s))

  -- none is there already
  pub none_given : InOrder events → (q : List Pending) → UpTo event.tag stop → ((h : Tag) (n : Name) (v : Value) → UpTo h stop → (value_of h n q ≡ Some v) ↔ IsGiven events i h n v) → ¬ IsSome (value_of event.tag (Action event.action) q)
  none_given order q u is s =
      let f = some_there (value_of event.tag (Action event.action) q) s in
      let k = (is event.tag (Action event.action) f.0 u).0 f.1 in
      let a : Action k.event.action ≡ Action event.action = k.name_is in
      let b : k.event.action ≡ event.action = cc in
      ordered events order k.place i k.event event k.before k.is_event is_event k.tag_is b

-- after all of them they are the events of no rows
pub all_given : (plan : PlanParts) (good : IsSoundPlan plan) (i : ℕ) (q : List Pending) → length plan.externals.events ≤ i → ((h : Tag) (n : Name) (v : Value) → UpTo h plan.externals.stop → (value_of h n q ≡ Some v) ↔ IsGiven plan.externals.events i h n v) → HasEvents plan [] (record { time = 0; micro = 0 }) plan.externals.stop None q
all_given plan good i q enough is = record { values = λ h n v w a b e. values h n v b; clean = λ h n b e c. (empty_so_far plan good).no_clash h b (n, c); found = λ c e. absurd (cc) }
  where
    values : (h : Tag) (n : Name) (v : Value) → UpTo h plan.externals.stop → (value_of h n q ≡ Some v) ↔ At plan [] h n v
    values h (Port p) v b = (λ e. (let k = (is h (Port p) v b).0 e in let z : Action k.event.action ≡ Port p = k.name_is in absurd (cc)), λ a. (let l : None ≡ Some v = a.1.is_last in absurd (cc)))
    values h (Action a) v b = (to, from)
      where
        to : value_of h (Action a) q ≡ Some v → At plan [] h (Action a) v
        to e =
            let k = (is h (Action a) v b).0 e in
            let z : Action k.event.action ≡ Action a = k.name_is in
            let y : k.event.action ≡ a = cc in
            let s : same_tag h k.event.tag ≡ true = same_tag_refl h k.event.tag (sym k.tag_is) in
            let r : (a == k.event.action) ≡ true = eq-eqb a k.event.action (sym y) in
            let g : given h a k.event ≡ Some v = rw (s, r) (ap Some k.value_is) in
            mem_contains v (filter_map (given h a) plan.externals.events) (mem_filter (given h a) k.event v plan.externals.events (mem_get plan.externals.events k.place k.event k.is_event) g)

        from : At plan [] h (Action a) v → value_of h (Action a) q ≡ Some v
        from c =
            let m = mem_from_filter (given h a) plan.externals.events v (contains_mem v (filter_map (given h a) plan.externals.events) c) in
            let f = cond_some (same_tag h m.0.tag && (a == m.0.action)) m.0.value v m.2 in
            let t = both_true (same_tag h m.0.tag) (a == m.0.action) f.0 in
            let p = get_mem m.0 plan.externals.events m.1 in
            (is h (Action a) v b).1 (record { place = p.0; event = m.0; before = (let l : p.0 < length plan.externals.events = slice_get_within plan.externals.events p.0 m.0 p.1 in omega arith); is_event = p.1; tag_is = sym (same_tag_true h m.0.tag t.0); name_is = ap Action (sym (eqb-true a m.0.action t.1)); value_is = f.1 })

-- what a reaction reads is watched
pub input_watched : (program : Parts) (r : ℕ) (x : Reaction) → slice_get program.reactions r ≡ Some x → (n : Name) → Contains (inputs x) n → IsWatchedName program n
input_watched program r x e (Port p) c = inl (r, (x, e, c))
input_watched program r x e (Action a) c = tt

-- so is what it listens to
pub listened_watched : (program : Parts) (n : Name) (r : ℕ) → IsListener program (On n) r → IsWatchedName program n
listened_watched program n r l = input_watched program r l.0 l.1 n (input_of_trigger l.0 n l.2)

-- what the queue has at a tag for the inputs of a reaction is what it reads there
pub inputs_read : (plan : PlanParts) (t : List Row) (from last : Tag) (q : List Pending) → HasEvents plan t from last None q → (g : Tag) → UpTo from g → UpTo g last → (r : ℕ) (x : Reaction) → slice_get plan.program.reactions r ≡ Some x → Inputs plan t g r (map (λ n. value_of g n q) (inputs x))
inputs_read plan t from last q is g a b r x e = record { reaction = x; is_reaction = e; each = all (inputs x) (λ n m. input_watched plan.program r x e n (mem_contains n (inputs x) m)) }
  where
    shown : (n : Name) (o : Option Value) → IsWatchedName plan.program n → value_of g n q ≡ o → Shows plan t g n o
    shown n None w z = λ p. none_there (value_of g n q) p.0 z ((is.values g n p.0 w a b tt).1 p.1)
    shown n (Some v) w z = (is.values g n v w a b tt).0 z

    all : (ns : List Name) → ((n : Name) → Mem n ns → IsWatchedName plan.program n) → AllZip (Shows plan t g) ns (map (λ n. value_of g n q) ns)
    all [] w = tt
    all (n ∷ ns) w = (shown n (value_of g n q) (w n (inl refl)) refl, all ns (λ m k. w m (inr k)))

-- nothing is given by no events
pub none_begun : (events : List Event) (q : List Pending) → q ≡ [] → (h : Tag) (n : Name) (v : Value) → (value_of h n q ≡ Some v) ↔ IsGiven events 0 h n v
none_begun events q e h n v = (λ f. absurd (none_there (value_of h n q) v (ap (λ (p : List Pending). value_of h n p) e) f), λ k. absurd (let l : k.place < 0 = k.before in omega arith))

pub up_to : (g h : Tag) → ¬ Before h g → UpTo g h
up_to g h n = go (order_cases h g)
  where
    go : Before h g ⊎ UpTo g h → UpTo g h
    go (inl b) = absurd (n b)
    go (inr u) = u
