-- One reaction more in a list.
use Rattle.std.proofs.Common.{◌≡◌, ◌≢◌, ◌↔◌, ◌⊎◌, inl, inr, ◌<◌, ℕ, List, [], ◌∷◌, ◌++◌, length, refl, sym, ap, ◌∙◌, subst, Option, slice_set, Contains, unwrap_or}
use Rattle.std.proofs.lemmas.Bool.{cases_eq}
use Rattle.lft_ir.specs.declared.parts.{Name.TheVariants.{Port, Action}, Trigger.{Trigger, TheVariants.{Startup, Shutdown, Timer, On}}}
use Rattle.lft_lists.proofs.Places.{get_written, get_unwritten, length_written}
use Rattle.lft_queue.{proofs.Marking.contains_pushed, specs.inner.Coming.NumberLists.list_at}
use Rattle.lft_scheduler.specs.inner.Lists.{TriggerLists, list_of_trigger, HasList, IsPushed}

pub at_written : (lists : List (List ℕ)) (n : ℕ) (list : List ℕ) → n < length lists → list_at (slice_set lists n list) n ≡ list
at_written lists n list l = ap (λ (o : Option (List ℕ)). unwrap_or o []) (get_written lists n list l)

pub at_unwritten : (lists : List (List ℕ)) (n m : ℕ) (list : List ℕ) → m ≢ n → list_at (slice_set lists n list) m ≡ list_at lists m
at_unwritten lists n m list d = ap (λ (o : Option (List ℕ)). unwrap_or o []) (get_unwritten lists n m list d)

-- one number more in one of several lists
module _ (lists : List (List ℕ)) (n k : ℕ) (within : n < length lists) where
  pub same_pushed : (m : ℕ) → m ≡ n → list_at (slice_set lists n (list_at lists n ++ k ∷ [])) m ≡ list_at lists m ++ k ∷ []
  same_pushed m e = ap (λ (j : ℕ). list_at (slice_set lists n (list_at lists n ++ k ∷ [])) j) e ∙ at_written lists n (list_at lists n ++ k ∷ []) within ∙ ap (λ (j : ℕ). list_at lists j ++ k ∷ []) (sym e)

  pub list_pushed : (m x : ℕ) → Contains (list_at (slice_set lists n (list_at lists n ++ k ∷ [])) m) x ↔ (Contains (list_at lists m) x ⊎ ((m ≡ n) × (x ≡ k)))
  list_pushed m x = go (cases_eq m n)
    where
      go : (m ≡ n) ⊎ (m ≡ n → ⊥) → Contains (list_at (slice_set lists n (list_at lists n ++ k ∷ [])) m) x ↔ (Contains (list_at lists m) x ⊎ ((m ≡ n) × (x ≡ k)))
      go (inl e) = (λ c. to ((contains_pushed (list_at lists m) k x).0 (subst (λ (ys : List ℕ). Contains ys x) (same_pushed m e) c)), λ c. subst (λ (ys : List ℕ). Contains ys x) (sym (same_pushed m e)) ((contains_pushed (list_at lists m) k x).1 (from c)))
        where
          to : Contains (list_at lists m) x ⊎ (x ≡ k) → Contains (list_at lists m) x ⊎ ((m ≡ n) × (x ≡ k))
          to (inl c) = inl c
          to (inr f) = inr (e, f)

          from : Contains (list_at lists m) x ⊎ ((m ≡ n) × (x ≡ k)) → Contains (list_at lists m) x ⊎ (x ≡ k)
          from (inl c) = inl c
          from (inr p) = inr p.1
      go (inr d) = (λ c. inl (subst (λ (ys : List ℕ). Contains ys x) (at_unwritten lists n m (list_at lists n ++ k ∷ []) d) c), back)
        where
          back : Contains (list_at lists m) x ⊎ ((m ≡ n) × (x ≡ k)) → Contains (list_at (slice_set lists n (list_at lists n ++ k ∷ [])) m) x
          back (inl c) = subst (λ (ys : List ℕ). Contains ys x) (sym (at_unwritten lists n m (list_at lists n ++ k ∷ []) d)) c
          back (inr p) = absurd (d p.0)

-- a trigger that has what it had
kept : {A B : Type 0} → ¬ B → A ↔ (A ⊎ B)
kept {A} {B} none = (λ a. inl a, back)
  where
    back : A ⊎ B → A
    back (inl a) = a
    back (inr b) = absurd (none b)

-- the same fact in other words
said : {A B C D E : Type 0} → (C → D) → (D → C) → A ↔ (B ⊎ (C × E)) → A ↔ (B ⊎ (D × E))
said {A} {B} {C} {D} {E} f g w = (λ a. to (w.0 a), λ b. w.1 (from b))
  where
    to : B ⊎ (C × E) → B ⊎ (D × E)
    to (inl b) = inl b
    to (inr p) = inr (f p.0, p.1)

    from : B ⊎ (D × E) → B ⊎ (C × E)
    from (inl b) = inl b
    from (inr p) = inr (g p.0, p.1)

with_same : {A B C : Type 0} (t : Trigger) → A ↔ (B ⊎ C) → A ↔ (B ⊎ ((t ≡ t) × C))
with_same {A} {B} {C} t w = (λ a. to (w.0 a), λ b. w.1 (from b))
  where
    to : B ⊎ C → B ⊎ ((t ≡ t) × C)
    to (inl b) = inl b
    to (inr c) = inr (refl, c)

    from : B ⊎ ((t ≡ t) × C) → B ⊎ C
    from (inl b) = inl b
    from (inr p) = inr p.1

-- one reaction more for one trigger
module _ (old : TriggerLists) (k : ℕ) where
  pub startup_pushed : IsPushed Startup k old (record old { startup = old.startup ++ k ∷ [] })
  startup_pushed = record { room = room; each = each }
    where
      room : (t : Trigger) → HasList old t → HasList (record old { startup = old.startup ++ k ∷ [] }) t
      room Startup h = h
      room Shutdown h = h
      room (Timer m) h = h
      room (On (Port m)) h = h
      room (On (Action m)) h = h

      each : (t : Trigger) (r : ℕ) → Contains (list_of_trigger (record old { startup = old.startup ++ k ∷ [] }) t) r ↔ (Contains (list_of_trigger old t) r ⊎ ((t ≡ Startup) × (r ≡ k)))
      each Startup r = with_same Startup (contains_pushed old.startup k r)
      each Shutdown r = kept (λ p. (let z : Shutdown ≡ Startup = p.0 in cc))
      each (Timer m) r = kept (λ p. (let z : Timer m ≡ Startup = p.0 in cc))
      each (On (Port m)) r = kept (λ p. (let z : On (Port m) ≡ Startup = p.0 in cc))
      each (On (Action m)) r = kept (λ p. (let z : On (Action m) ≡ Startup = p.0 in cc))

  pub shutdown_pushed : IsPushed Shutdown k old (record old { shutdown = old.shutdown ++ k ∷ [] })
  shutdown_pushed = record { room = room; each = each }
    where
      room : (t : Trigger) → HasList old t → HasList (record old { shutdown = old.shutdown ++ k ∷ [] }) t
      room Startup h = h
      room Shutdown h = h
      room (Timer m) h = h
      room (On (Port m)) h = h
      room (On (Action m)) h = h

      each : (t : Trigger) (r : ℕ) → Contains (list_of_trigger (record old { shutdown = old.shutdown ++ k ∷ [] }) t) r ↔ (Contains (list_of_trigger old t) r ⊎ ((t ≡ Shutdown) × (r ≡ k)))
      each Startup r = kept (λ p. (let z : Startup ≡ Shutdown = p.0 in cc))
      each Shutdown r = with_same Shutdown (contains_pushed old.shutdown k r)
      each (Timer m) r = kept (λ p. (let z : Timer m ≡ Shutdown = p.0 in cc))
      each (On (Port m)) r = kept (λ p. (let z : On (Port m) ≡ Shutdown = p.0 in cc))
      each (On (Action m)) r = kept (λ p. (let z : On (Action m) ≡ Shutdown = p.0 in cc))

  pub timer_pushed : (n : ℕ) → n < length old.timers → IsPushed (Timer n) k old (record old { timers = slice_set old.timers n (list_at old.timers n ++ k ∷ []) })
  timer_pushed n within = record { room = room; each = each }
    where
      room : (t : Trigger) → HasList old t → HasList (record old { timers = slice_set old.timers n (list_at old.timers n ++ k ∷ []) }) t
      room Startup h = h
      room Shutdown h = h
      room (Timer m) h = subst (λ (l : ℕ). m < l) (sym (length_written old.timers n (list_at old.timers n ++ k ∷ []))) h
      room (On (Port m)) h = h
      room (On (Action m)) h = h

      each : (t : Trigger) (r : ℕ) → Contains (list_of_trigger (record old { timers = slice_set old.timers n (list_at old.timers n ++ k ∷ []) }) t) r ↔ (Contains (list_of_trigger old t) r ⊎ ((t ≡ Timer n) × (r ≡ k)))
      each Startup r = kept (λ p. (let z : Startup ≡ Timer n = p.0 in cc))
      each Shutdown r = kept (λ p. (let z : Shutdown ≡ Timer n = p.0 in cc))
      each (Timer m) r = said (λ e. ap Timer e) (λ e. (let z : Timer m ≡ Timer n = e in cc)) (list_pushed old.timers n k within m r)
      each (On (Port m)) r = kept (λ p. (let z : On (Port m) ≡ Timer n = p.0 in cc))
      each (On (Action m)) r = kept (λ p. (let z : On (Action m) ≡ Timer n = p.0 in cc))

  pub port_pushed : (n : ℕ) → n < length old.ports → IsPushed (On (Port n)) k old (record old { ports = slice_set old.ports n (list_at old.ports n ++ k ∷ []) })
  port_pushed n within = record { room = room; each = each }
    where
      room : (t : Trigger) → HasList old t → HasList (record old { ports = slice_set old.ports n (list_at old.ports n ++ k ∷ []) }) t
      room Startup h = h
      room Shutdown h = h
      room (Timer m) h = h
      room (On (Port m)) h = subst (λ (l : ℕ). m < l) (sym (length_written old.ports n (list_at old.ports n ++ k ∷ []))) h
      room (On (Action m)) h = h

      each : (t : Trigger) (r : ℕ) → Contains (list_of_trigger (record old { ports = slice_set old.ports n (list_at old.ports n ++ k ∷ []) }) t) r ↔ (Contains (list_of_trigger old t) r ⊎ ((t ≡ On (Port n)) × (r ≡ k)))
      each Startup r = kept (λ p. (let z : Startup ≡ On (Port n) = p.0 in cc))
      each Shutdown r = kept (λ p. (let z : Shutdown ≡ On (Port n) = p.0 in cc))
      each (Timer m) r = kept (λ p. (let z : Timer m ≡ On (Port n) = p.0 in cc))
      each (On (Port m)) r = said (λ e. ap (λ (i : ℕ). On (Port i)) e) (λ e. (let z : On (Port m) ≡ On (Port n) = e in cc)) (list_pushed old.ports n k within m r)
      each (On (Action m)) r = kept (λ p. (let z : On (Action m) ≡ On (Port n) = p.0 in cc))

  pub action_pushed : (n : ℕ) → n < length old.actions → IsPushed (On (Action n)) k old (record old { actions = slice_set old.actions n (list_at old.actions n ++ k ∷ []) })
  action_pushed n within = record { room = room; each = each }
    where
      room : (t : Trigger) → HasList old t → HasList (record old { actions = slice_set old.actions n (list_at old.actions n ++ k ∷ []) }) t
      room Startup h = h
      room Shutdown h = h
      room (Timer m) h = h
      room (On (Port m)) h = h
      room (On (Action m)) h = subst (λ (l : ℕ). m < l) (sym (length_written old.actions n (list_at old.actions n ++ k ∷ []))) h

      each : (t : Trigger) (r : ℕ) → Contains (list_of_trigger (record old { actions = slice_set old.actions n (list_at old.actions n ++ k ∷ []) }) t) r ↔ (Contains (list_of_trigger old t) r ⊎ ((t ≡ On (Action n)) × (r ≡ k)))
      each Startup r = kept (λ p. (let z : Startup ≡ On (Action n) = p.0 in cc))
      each Shutdown r = kept (λ p. (let z : Shutdown ≡ On (Action n) = p.0 in cc))
      each (Timer m) r = kept (λ p. (let z : Timer m ≡ On (Action n) = p.0 in cc))
      each (On (Port m)) r = kept (λ p. (let z : On (Port m) ≡ On (Action n) = p.0 in cc))
      each (On (Action m)) r = said (λ e. ap (λ (i : ℕ). On (Action i)) e) (λ e. (let z : On (Action m) ≡ On (Action n) = e in cc)) (list_pushed old.actions n k within m r)
