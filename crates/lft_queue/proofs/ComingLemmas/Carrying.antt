-- What the last writes of a tag carry to ports behind delays.
use Rattle.std.proofs.Common.{◌≡◌, ◌≢◌, ℕ, ◌+◌, ◌<◌, ◌⊎◌, inl, inr, ◌==◌, ◌&&◌, eqb-true, eq-eqb, not, Bool, true, false, cond, List, [], ◌∷◌, ◌++◌, length, length-append, refl, sym, ap, ◌∙◌, subst, arith, Option, Some, None, slice_get, slice_set, filter_map, option_map, unwrap_or, option_to_list, Contains}
use Rattle.std.{specs.List.cons_option, proofs.{NetLemmas.Options.cond_some, lemmas.{Bool.{cases_eq, false≢true}, Option.none-some, List.append-nil}}}
use Rattle.lft_tag.specs.{declared.Tag.Tag, Tags.{Before, UpTo, after_all, same_tag}, Shifts.shifted}
use Rattle.lft_tag.proofs.{Chains.shifted_chain, Order.{Before-irrefl, after_some_past, same_tag_refl, same_tag_true}}
use Rattle.lft_lists.proofs.Members.{Mem, mem_get, get_mem, mem_filter, mem_from_filter, contains_mem, nil_of_none, last_mem, last_of_mem}
use Rattle.lft_lists.proofs.Places.{same_at, get_written, get_unwritten, get_write_cases, length_written}
use Rattle.lft_ir.specs.{Origins.Origin, Parts.Parts, Sound.IsSound}
use Rattle.lft_ir.specs.declared.parts.{Name.{Name, TheVariants.{Port, Action}}, Port.Port as PortOf, Value.Value}
use Rattle.lft_ir.specs.declared.steps.{externals.Event.Event, row.{Row.Row, Step.{Step, TheVariants.Write}}}
use Rattle.lft_ir.specs.Naming.{same_name}
use Rattle.lft_ir.proofs.{Origins.{origin_unique, port_of}, Naming.name_same}
use Rattle.lft_model.specs.Presence.{value_written, written}
use Rattle.lft_model.proofs.{Ended.{written_by, by_written}, Places.slice_get_within, Steps.{both_true, written_some, some_written}}
use Rattle.lft_queue.specs.Pending.{value_of}
use Rattle.lft_queue.specs.inner.Coming.AtOnce.{is_undelayed, origin_of, Passes}
use Rattle.lft_queue.specs.inner.Coming.Channels.{is_behind, arrives_at, value_at_arrival, AreChannelsTo, carried_to, carried_by, IsCarried, IsUncarried, AreCarried}
use Rattle.lft_queue.specs.inner.Coming.{Coming.to_come, Lanes.{held, carried}, Shown.last_write, Writes.value_at_tag}
use Rattle.lft_queue.specs.declared.coming.{coming.Coming.Coming, writes.Written.Written}
use Rattle.lft_queue.proofs.ComingLemmas.{AtOnce.{test_of, origin_is, port_behind, delayed_way}, ToCome.few_of}

-- a write arrives at a port where the port's delays lead, and at once where there is none
pub arrives_way : (program : Parts) → IsSound program → (g : Tag) (p o : ℕ) (ds : List ℕ) → Origin program p o ds → arrives_at program g p ≡ after_all g ds
arrives_way program sound g p o ds way =
    let x = port_of way in
    let kept = sound.origins p x.0 x.1 in
    ap (λ (e : Option PortOf). unwrap_or (option_map (λ (y : PortOf). shifted g (y.shift.time, y.shift.steps)) e) g) x.1 ∙ ap (λ (s : ℕ × ℕ). shifted g s) (sym kept.2) ∙ shifted_chain g kept.0 ∙ ap (λ (es : List ℕ). after_all g es) (sym (origin_unique way kept.1).1)

arrives_now : (program : Parts) (g : Tag) (p : ℕ) → is_undelayed program p ≡ true → arrives_at program g p ≡ g
arrives_now program g p h = go (slice_get program.ports p) refl
  where
    there : Option PortOf → Tag
    there e = unwrap_or (option_map (λ (y : PortOf). shifted g (y.shift.time, y.shift.steps)) e) g

    go : (e : Option PortOf) → slice_get program.ports p ≡ e → arrives_at program g p ≡ g
    go None q = ap there q
    go (Some x) q =
        let both = both_true (x.shift.time == 0) (x.shift.steps == 0) (sym (test_of program p x q) ∙ h) in
        ap there q ∙ ap (λ (n : ℕ). shifted g (n, x.shift.steps)) (eqb-true x.shift.time 0 both.0) ∙ ap (λ (n : ℕ). shifted g (0, n)) (eqb-true x.shift.steps 0 both.1) ∙ shifted_chain g []

-- the event that rows make of a port is that of its chain of delays
pub carried_is : (program : Parts) → IsSound program → (u : List Row) (g : Tag) (p o : ℕ) (ds : List ℕ) → Origin program p o ds → carried_to program u g p ≡ carried u g o ds
carried_is program sound u g p o ds way = ap (λ (h : Tag). option_to_list (option_map (λ v. (h, v)) (last_write u g (origin_of program p)))) (arrives_way program sound g p o ds way) ∙ ap (λ (k : ℕ). option_to_list (option_map (λ v. (after_all g ds, v)) (last_write u g k))) (origin_is program sound p o ds way)

-- one event at a tag, if there is one
pub one_held : (g h : Tag) (o : Option Value) → length (held (option_to_list (option_map (λ v. (g, v)) o)) h) < 2
one_held g h None = omega arith
one_held g h (Some v) = go (same_tag h g)
  where
    go : (b : Bool) → length (cons_option (cond b (Some v) None) []) < 2
    go true = omega arith
    go false = omega arith

pub held_one : (g h : Tag) (o : Option Value) (v : Value) → Contains (held (option_to_list (option_map (λ w. (g, w)) o)) h) v → o ≡ Some v
held_one g h None v c = absurd (contains_mem v [] c)
held_one g h (Some w) v c = go (same_tag h g) c
  where
    go : (b : Bool) → Contains (cons_option (cond b (Some w) None) []) v → Some w ≡ Some v
    go true k = one (contains_mem v (w ∷ []) k)
      where
        one : Mem v (w ∷ []) → Some w ≡ Some v
        one (inl e) = ap Some e
        one (inr m) = absurd m
    go false k = absurd (contains_mem v [] k)

none_held : (g h : Tag) → ¬ (h ≡ g) → (o : Option Value) → held (option_to_list (option_map (λ v. (g, v)) o)) h ≡ []
none_held g h n None = refl
none_held g h n (Some v) = go (same_tag h g) refl
  where
    go : (z : Bool) → same_tag h g ≡ z → cons_option (cond z (Some v) None) [] ≡ []
    go true e = absurd (n (same_tag_true h g e))
    go false e = refl

-- a port behind no delay has none later, and one behind a delay has none at once
pub none_after : (program : Parts) (u : List Row) (g h : Tag) (p : ℕ) → is_undelayed program p ≡ true → Before g h → held (carried_to program u g p) h ≡ []
none_after program u g h p e b = none_held (arrives_at program g p) h (λ q. Before-irrefl g (subst (λ (k : Tag). Before g k) (q ∙ arrives_now program g p e) b)) (last_write u g (origin_of program p))

pub none_now : (program : Parts) → IsSound program → (u : List Row) (g : Tag) (p : ℕ) → is_undelayed program p ≡ false → held (carried_to program u g p) g ≡ []
none_now program sound u g p e =
    let way = delayed_way program sound p e in
    none_held (arrives_at program g p) g (λ q. Before-irrefl g (subst (λ (k : Tag). Before g k) (sym (q ∙ arrives_way program sound g p way.0 (way.1 ∷ way.2) way.3)) (after_some_past g way.1 way.2))) (last_write u g (origin_of program p))

pub at_once_held : (program : Parts) (u : List Row) (g : Tag) (p : ℕ) → is_undelayed program p ≡ true → held (carried_to program u g p) g ≡ held (option_to_list (option_map (λ v. (g, v)) (last_write u g (origin_of program p)))) g
at_once_held program u g p e = ap (λ (k : Tag). held (option_to_list (option_map (λ v. (k, v)) (last_write u g (origin_of program p)))) g) (arrives_now program g p e)

-- which ports lie behind a delay of an origin
test_behind : (program : Parts) (o p : ℕ) (x : PortOf) → slice_get program.ports p ≡ Some x → is_behind program o p ≡ ((x.origin == o) && not (is_undelayed program p))
test_behind program o p x e = ap (λ (z : Option PortOf). unwrap_or (option_map (λ (y : PortOf). (y.origin == o) && not (is_undelayed program p)) z) false) e

origin_at : (program : Parts) (p : ℕ) (x : PortOf) → slice_get program.ports p ≡ Some x → origin_of program p ≡ x.origin
origin_at program p x e = ap (λ (z : Option PortOf). unwrap_or (option_map (λ (y : PortOf). y.origin) z) 0) e

behind_of : (program : Parts) (o p : ℕ) → is_undelayed program p ≡ false → origin_of program p ≡ o → is_behind program o p ≡ true
behind_of program o p e q =
    let x = port_behind program p e in
    let own : (x.0.origin == o) ≡ true = eq-eqb x.0.origin o (sym (origin_at program p x.0 x.1) ∙ q) in
    test_behind program o p x.0 x.1 ∙ rw (own, e) refl

of_behind : (program : Parts) (o p : ℕ) → is_behind program o p ≡ true → (origin_of program p ≡ o) × (is_undelayed program p ≡ false)
of_behind program o p e = go (slice_get program.ports p) refl
  where
    no : (b : Bool) → not b ≡ true → b ≡ false
    no true q = absurd (false≢true q)
    no false q = refl

    go : (z : Option PortOf) → slice_get program.ports p ≡ z → (origin_of program p ≡ o) × (is_undelayed program p ≡ false)
    go None q = absurd (false≢true (sym (ap (λ (z : Option PortOf). unwrap_or (option_map (λ (y : PortOf). (y.origin == o) && not (is_undelayed program p)) z) false) q) ∙ e))
    go (Some x) q =
        let both = both_true (x.origin == o) (not (is_undelayed program p)) (sym (test_behind program o p x q) ∙ e) in
        (origin_at program p x q ∙ eqb-true x.origin o both.0, no (is_undelayed program p) both.1)

-- a list of few items, all one, that has the one
only_one : {X : Type 0} (v : X) (xs : List X) → Mem v xs → ((w : X) → Mem w xs → w ≡ v) → length xs < 2 → xs ≡ v ∷ []
only_one v [] m same l = absurd m
only_one v (x ∷ []) m same l = ap (λ y. y ∷ []) (same x (inl refl))
only_one v (x ∷ y ∷ ys) m same l = absurd (omega arith)

-- what a write of origin o carries to a name
module _ (program : Parts) (o : ℕ) (g : Tag) (v : Value) (targets : List ℕ) (h : Tag) where
  abbrev arrived : Name → List Value
  arrived n = filter_map (value_at_arrival program o g v h n) targets

  arrival_of : (n : Name) (p : ℕ) (w : Value) → value_at_arrival program o g v h n p ≡ Some w → (w ≡ v) × (Port p ≡ n) × (is_behind program o p ≡ true) × (arrives_at program g p ≡ h)
  arrival_of n p w e =
      let c = cond_some (is_behind program o p && (same_tag (arrives_at program g p) h && same_name (Port p) n)) v w e in
      let b = both_true (is_behind program o p) (same_tag (arrives_at program g p) h && same_name (Port p) n) c.0 in
      let k = both_true (same_tag (arrives_at program g p) h) (same_name (Port p) n) b.1 in
      (sym c.1, name_same (Port p) n k.1, b.0, same_tag_true (arrives_at program g p) h k.0)

  none_arrived : (n : Name) → ((p : ℕ) → Port p ≡ n → is_behind program o p ≡ true → arrives_at program g p ≡ h → ⊥) → arrived n ≡ []
  none_arrived n never = nil_of_none (arrived n) (λ w m. let x = mem_from_filter (value_at_arrival program o g v h n) targets w m in let y = arrival_of n x.0 w x.2 in never x.0 y.1 y.2 y.3)

  pub no_action : (a : ℕ) → arrived (Action a) ≡ []
  no_action a = none_arrived (Action a) (λ p e b t. absurd (cc))

  pub no_other : (p : ℕ) → origin_of program p ≢ o → arrived (Port p) ≡ []
  no_other p n = none_arrived (Port p) (λ q e b t. let same : q ≡ p = cc in n (subst (λ (k : ℕ). origin_of program k ≡ o) same (of_behind program o q b).0))

  -- and to a port of the origin's: the one event that the last write makes
  pub own_event : (u : List Row) (p : ℕ) → origin_of program p ≡ o → last_write u g (origin_of program p) ≡ Some v → Before g h → Contains targets p ⊎ (is_undelayed program p ≡ true) → length (arrived (Port p)) < 2 → arrived (Port p) ≡ held (carried_to program u g p) h
  own_event u p own last b there few = go (is_undelayed program p) refl ∙ sym (ap (λ (z : Option Value). held (option_to_list (option_map (λ w. (arrives_at program g p, w)) z)) h) last)
    where
      same_port : (q : ℕ) → Port q ≡ Port p → q ≡ p
      same_port q e = cc

      here : is_behind program o p ≡ true → Contains targets p → (z : Bool) → same_tag h (arrives_at program g p) ≡ z → arrived (Port p) ≡ cons_option (cond z (Some v) None) []
      here behind c false e = none_arrived (Port p) (λ q s k t. false≢true (sym e ∙ same_tag_refl h (arrives_at program g p) (sym t ∙ ap (λ (j : ℕ). arrives_at program g j) (same_port q s))))
      here behind c true e = only_one v (arrived (Port p)) (mem_filter (value_at_arrival program o g v h (Port p)) p v targets (contains_mem p targets c) gives) (λ w m. let x = mem_from_filter (value_at_arrival program o g v h (Port p)) targets w m in (arrival_of (Port p) x.0 w x.2).0) few
        where
          gives : value_at_arrival program o g v h (Port p) p ≡ Some v
          gives =
              let t : same_tag (arrives_at program g p) h ≡ true = same_tag_refl (arrives_at program g p) h (sym (same_tag_true h (arrives_at program g p) e)) in
              let s : (p == p) ≡ true = eq-eqb p p refl in
              rw (behind, t, s) refl

      listed : is_undelayed program p ≡ false → Contains targets p ⊎ (is_undelayed program p ≡ true) → Contains targets p
      listed e (inl c) = c
      listed e (inr q) = absurd (false≢true (sym e ∙ q))

      go : (z : Bool) → is_undelayed program p ≡ z → arrived (Port p) ≡ held ((arrives_at program g p, v) ∷ []) h
      go false e = here (behind_of program o p e own) (listed e there) (same_tag h (arrives_at program g p)) refl
      go true e = none_arrived (Port p) (λ q s k t. false≢true (sym (of_behind program o q k).1 ∙ ap (λ (j : ℕ). is_undelayed program j) (same_port q s) ∙ e)) ∙ sym (none_held (arrives_at program g p) h (λ q. Before-irrefl g (subst (λ (k : Tag). Before g k) (q ∙ arrives_now program g p e) b)) (Some v))

module _ (program : Parts) (test : ℕ → Bool) (u : List Row) (count : ℕ) (row : Row) (is_row : slice_get u count ≡ Some row) (start old : Coming) (writes : List (Option Written)) (last : Tag) (are : AreCarried program test u row.tag last count start old writes) where
  -- a row that doesn't write a port's origin leaves it to be carried
  still_unwritten : (p : ℕ) → ((v : Value) → row.step ≢ Write (Port (origin_of program p)) v) → ((i : ℕ) (x : Row) (v : Value) → i < count → slice_get u i ≡ Some x → x.step ≢ Write (Port (origin_of program p)) v) → (i : ℕ) (x : Row) (v : Value) → i < count + 1 → slice_get u i ≡ Some x → x.step ≢ Write (Port (origin_of program p)) v
  still_unwritten p other none i x v l e s = go (cases_eq i count)
    where
      go : (i ≡ count) ⊎ (i ≡ count → ⊥) → ⊥
      go (inl q) = other v (ap (λ (y : Row). y.step) (same_at u count i row x is_row e (sym q)) ∙ s)
      go (inr d) = none i x v (omega (arith, l, d)) e s

  pub carried_stays : ((p : ℕ) → value_written p row.step ≡ None) → AreCarried program test u row.tag last (count + 1) start old writes
  carried_stays none = record { as_long = are.as_long; up_to = are.up_to; actions = are.actions; ports = λ p k. go p (are.ports p k) }
    where
      go : (p : ℕ) → IsCarried program u row.tag last p start old writes ⊎ IsUncarried program u row.tag last count p start old writes → IsCarried program u row.tag last p start old writes ⊎ IsUncarried program u row.tag last (count + 1) p start old writes
      go p (inl c) = inl c
      go p (inr r) = inr (record { same = r.same; kept = r.kept; unwritten = still_unwritten p (λ v s. none-some v (sym (none (origin_of program p)) ∙ ap (λ (z : Step). value_written (origin_of program p) z) s ∙ some_written (origin_of program p) v)) r.unwritten })

  module _ (o : ℕ) (v : Value) (step : row.step ≡ Write (Port o) v) (within : o < length writes) (w : Option Written) (is : slice_get writes o ≡ Some w) where
    abbrev rest : List (Option Written)
    rest = slice_set writes o None

    -- the row is the origin's write, so that there is a last one
    some_last : ¬ (last_write u row.tag o ≡ None)
    some_last e =
        let m : Mem v (filter_map (written row.tag o) u) = mem_filter (written row.tag o) row v u (mem_get u count row is_row) (by_written row.tag o row v refl (ap (λ (z : Step). value_written o z) step ∙ some_written o v)) in
        let l = last_of_mem v (filter_map (written row.tag o) u) m in
        none-some l.0 (sym e ∙ l.1)

    gone : (p : ℕ) → origin_of program p ≡ o → (x : Option Written) → slice_get rest (origin_of program p) ≡ Some x → value_at_tag row.tag x ≡ None
    gone p q x e =
        let same : Some None ≡ Some x = sym (get_written writes o None within) ∙ ap (λ (k : ℕ). slice_get rest k) (sym q) ∙ e in
        let y : None ≡ x = cc in
        ap (value_at_tag row.tag) (sym y)

    here : (p : ℕ) → origin_of program p ≡ o → slice_get writes (origin_of program p) ≡ Some w
    here p q = ap (λ (k : ℕ). slice_get writes k) q ∙ is

    -- one step: another origin's port is as it was, and each of this origin's has its event
    module _ (new : Coming) (actions : (events : List Event) (h : Tag) (a : ℕ) → UpTo h last → to_come events new h (Action a) ≡ to_come events old h (Action a)) (others : (p : ℕ) → origin_of program p ≢ o → (events : List Event) (h : Tag) → UpTo h last → to_come events new h (Port p) ≡ to_come events old h (Port p)) (own : (p : ℕ) → test p ≡ true → origin_of program p ≡ o → IsCarried program u row.tag last p start old writes ⊎ IsUncarried program u row.tag last count p start old writes → (events : List Event) (h : Tag) → Before row.tag h → UpTo h last → to_come events new h (Port p) ≡ to_come events start h (Port p) ++ held (carried_to program u row.tag p) h) where
      other : (p : ℕ) → origin_of program p ≢ o → IsCarried program u row.tag last p start old writes ⊎ IsUncarried program u row.tag last count p start old writes → IsCarried program u row.tag last p start new rest ⊎ IsUncarried program u row.tag last (count + 1) p start new rest
      other p n (inl c) = inl (record { put = λ events h b up. others p n events h up ∙ c.put events h b up; gone = λ x e. c.gone x (sym (get_unwritten writes o (origin_of program p) None n) ∙ e) })
      other p n (inr r) = inr (record { same = λ events h up. others p n events h up ∙ r.same events h up; kept = λ x e. r.kept x (sym (get_unwritten writes o (origin_of program p) None n) ∙ e); unwritten = still_unwritten p (λ z s. let both : Write (Port o) v ≡ Write (Port (origin_of program p)) z = sym step ∙ s in let q : o ≡ origin_of program p = cc in n (sym q)) r.unwritten })

      port : (p : ℕ) → test p ≡ true → IsCarried program u row.tag last p start new rest ⊎ IsUncarried program u row.tag last (count + 1) p start new rest
      port p k = go (cases_eq (origin_of program p) o)
        where
          go : (origin_of program p ≡ o) ⊎ (origin_of program p ≡ o → ⊥) → IsCarried program u row.tag last p start new rest ⊎ IsUncarried program u row.tag last (count + 1) p start new rest
          go (inl q) = inl (record { put = λ events h b up. own p k q (are.ports p k) events h b up; gone = gone p q })
          go (inr n) = other p n (are.ports p k)

      still_up_to : (p : ℕ) (x : Written) → slice_get rest p ≡ Some (Some x) → UpTo x.tag row.tag
      still_up_to p x e = go (get_write_cases writes o p None (Some x) within e)
        where
          go : ((p ≡ o) × (None ≡ Some x)) ⊎ ((p ≢ o) × (slice_get writes p ≡ Some (Some x))) → UpTo x.tag row.tag
          go (inl (s, f)) = absurd (cc)
          go (inr (n, f)) = are.up_to p x f

      stepped : AreCarried program test u row.tag last (count + 1) start new rest
      stepped = record { as_long = length_written writes o None ∙ are.as_long; up_to = still_up_to; actions = λ events h a up. actions events h a up ∙ are.actions events h a up; ports = port }

    -- a write that is kept no more is carried already
    pub carried_again : value_at_tag row.tag w ≡ None → AreCarried program test u row.tag last (count + 1) start old rest
    carried_again none = stepped old (λ events h a up. refl) (λ p n events h up. refl) (λ p k q. own p q)
      where
        own : (p : ℕ) → origin_of program p ≡ o → IsCarried program u row.tag last p start old writes ⊎ IsUncarried program u row.tag last count p start old writes → (events : List Event) (h : Tag) → Before row.tag h → UpTo h last → to_come events old h (Port p) ≡ to_come events start h (Port p) ++ held (carried_to program u row.tag p) h
        own p q (inl c) events h b up = c.put events h b up
        own p q (inr r) events h b up = absurd (some_last (ap (λ (k : ℕ). last_write u row.tag k) (sym q) ∙ sym (r.kept w (here p q)) ∙ none))

    -- and one that is kept is carried now
    pub carried_now : (lists : List (List ℕ)) → AreChannelsTo program test false lists → (targets : List ℕ) → slice_get lists o ≡ Some targets → (value : Value) → value_at_tag row.tag w ≡ Some value → (new : Coming) → ((events : List Event) (h : Tag) (n : Name) → UpTo h last → to_come events new h n ≡ to_come events old h n ++ filter_map (value_at_arrival program o row.tag value h n) targets) → AreCarried program test u row.tag last (count + 1) start new rest
    carried_now lists channels targets list value some new put = stepped new (λ events h a up. put events h (Action a) up ∙ ap (λ (vs : List Value). to_come events old h (Action a) ++ vs) (no_action program o row.tag value targets h a) ∙ append-nil (to_come events old h (Action a))) (λ p n events h up. put events h (Port p) up ∙ ap (λ (vs : List Value). to_come events old h (Port p) ++ vs) (no_other program o row.tag value targets h p n) ∙ append-nil (to_come events old h (Port p))) (λ p k q. own p k q)
      where
        listed : (p : ℕ) → test p ≡ true → origin_of program p ≡ o → (z : Bool) → is_undelayed program p ≡ z → Contains targets p ⊎ (is_undelayed program p ≡ true)
        listed p k q true e = inr e
        listed p k q false e = let x = port_behind program p e in inl (channels.each p x.0 targets k x.1 e (ap (λ (i : ℕ). slice_get lists i) (sym (origin_at program p x.0 x.1) ∙ q) ∙ list))

        own : (p : ℕ) → test p ≡ true → origin_of program p ≡ o → IsCarried program u row.tag last p start old writes ⊎ IsUncarried program u row.tag last count p start old writes → (events : List Event) (h : Tag) → Before row.tag h → UpTo h last → to_come events new h (Port p) ≡ to_come events start h (Port p) ++ held (carried_to program u row.tag p) h
        own p k q (inl c) events h b up = absurd (none-some value (sym (c.gone w (here p q)) ∙ some))
        own p k q (inr r) events h b up = put events h (Port p) up ∙ ap (λ (vs : List Value). vs ++ filter_map (value_at_arrival program o row.tag value h (Port p)) targets) (r.same events h up) ∙ ap (λ (vs : List Value). to_come events start h (Port p) ++ vs) (own_event program o row.tag value targets h u p q (sym (r.kept w (here p q)) ∙ some) b (listed p k q (is_undelayed program p) refl) few)
          where
            few : length (filter_map (value_at_arrival program o row.tag value h (Port p)) targets) < 2
            few =
                let a : length (to_come events new h (Port p)) < 2 = few_of (value_of h (Port p) new.queue) in
                let c : length (to_come events new h (Port p)) ≡ length (to_come events old h (Port p)) + length (filter_map (value_at_arrival program o row.tag value h (Port p)) targets) = ap (λ (vs : List Value). length vs) (put events h (Port p) up) ∙ length-append (to_come events old h (Port p)) (filter_map (value_at_arrival program o row.tag value h (Port p)) targets) in
                omega arith

-- once all rows of a tag have carried what they write
module _ (program : Parts) (test : ℕ → Bool) (u : List Row) (g : Tag) (count : ℕ) (all : length u < count + 1) (start new : Coming) (writes : List (Option Written)) (last : Tag) (are : AreCarried program test u g last count start new writes) where
  pub all_carried : (events : List Event) (h : Tag) (n : Name) → Passes test n → Before g h → UpTo h last → to_come events new h n ≡ to_come events start h n ++ held (carried_by program u g n) h
  all_carried events h (Action a) k b up = are.actions events h a up ∙ sym (append-nil (to_come events start h (Action a)))
  all_carried events h (Port p) k b up = go (are.ports p k)
    where
      none : IsUncarried program u g last count p start new writes → last_write u g (origin_of program p) ≡ None
      none r = by (last_write u g (origin_of program p)) refl
        where
          by : (z : Option Value) → last_write u g (origin_of program p) ≡ z → last_write u g (origin_of program p) ≡ None
          by None e = e
          by (Some v) e =
              let x = mem_from_filter (written g (origin_of program p)) u v (last_mem (filter_map (written g (origin_of program p)) u) v e) in
              let i = get_mem x.0 u x.1 in
              let l = slice_get_within u i.0 x.0 i.1 in
              absurd (r.unwritten i.0 x.0 v (omega (arith, l, all)) i.1 (written_some (origin_of program p) x.0.step v (written_by g (origin_of program p) x.0 v x.2).1))

      go : IsCarried program u g last p start new writes ⊎ IsUncarried program u g last count p start new writes → to_come events new h (Port p) ≡ to_come events start h (Port p) ++ held (carried_to program u g p) h
      go (inl c) = c.put events h b up
      go (inr r) = r.same events h up ∙ sym (append-nil (to_come events start h (Port p))) ∙ ap (λ (z : Option Value). to_come events start h (Port p) ++ held (option_to_list (option_map (λ v. (arrives_at program g p, v)) z)) h) (sym (none r))
