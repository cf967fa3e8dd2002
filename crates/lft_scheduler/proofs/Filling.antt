-- Lists by trigger on the way to those of a program.
use Rattle.std.proofs.Common.{◌≡◌, ◌↔◌, ◌⊎◌, inl, inr, ◌<◌, ◌+◌, ℕ, List, [], ◌∷◌, ◌++◌, length, take, sym, subst, arith, Some, slice_get, Contains}
use Rattle.std.proofs.lemmas.{Bool.cases_eq, Option.{slice_get_within, get_or_from_slice_get}}
use Rattle.lft_ir.specs.{Parts.Parts, Sound.IsTriggerOf, declared.parts.{Reaction.Reaction, Trigger.Trigger}}
use Rattle.lft_lists.proofs.{Picked.take_one_more, Places.same_at}
use Rattle.lft_queue.proofs.Marking.{contains_pushed, none_contained}
use Rattle.lft_scheduler.specs.inner.Listeners.{IsListener, IsLive, ListenerParts, AreListeners}
use Rattle.lft_scheduler.specs.inner.{Lists.{TriggerLists, list_of_trigger, HasList, IsPushed, ArePushed}, Filling.AreListed}

pub empty_contained : {X : Type 0} (xs : List X) (x : X) → xs ≡ [] → Contains xs x → ⊥
empty_contained {X} xs x e c = none_contained x (subst (λ (ys : List X). Contains ys x) e c)

-- one trigger more
pub pushed_more : (triggers : List Trigger) (place reaction : ℕ) (trigger : Trigger) (old mid new : TriggerLists) → slice_get triggers place ≡ Some trigger → ArePushed (take place triggers) reaction old mid → IsPushed trigger reaction mid new → ArePushed (take (place + 1) triggers) reaction old new
pushed_more triggers place reaction trigger old mid new here before one = record { room = λ t h. one.room t (before.room t h); each = λ t r. (λ c. to t r ((one.each t r).0 c), from t r) }
  where
    longer : take (place + 1) triggers ≡ take place triggers ++ trigger ∷ []
    longer = take_one_more triggers place trigger (slice_get_within triggers place trigger here) (get_or_from_slice_get triggers place trigger trigger here)

    grown : (t : Trigger) → Contains (take place triggers) t ⊎ (t ≡ trigger) → Contains (take (place + 1) triggers) t
    grown t c = subst (λ (ts : List Trigger). Contains ts t) (sym longer) ((contains_pushed (take place triggers) trigger t).1 c)

    shrunk : (t : Trigger) → Contains (take (place + 1) triggers) t → Contains (take place triggers) t ⊎ (t ≡ trigger)
    shrunk t c = (contains_pushed (take place triggers) trigger t).0 (subst (λ (ts : List Trigger). Contains ts t) longer c)

    to : (t : Trigger) (r : ℕ) → Contains (list_of_trigger mid t) r ⊎ ((t ≡ trigger) × (r ≡ reaction)) → Contains (list_of_trigger old t) r ⊎ (Contains (take (place + 1) triggers) t × (r ≡ reaction))
    to t r (inl c) = earlier ((before.each t r).0 c)
      where
        earlier : Contains (list_of_trigger old t) r ⊎ (Contains (take place triggers) t × (r ≡ reaction)) → Contains (list_of_trigger old t) r ⊎ (Contains (take (place + 1) triggers) t × (r ≡ reaction))
        earlier (inl o) = inl o
        earlier (inr p) = inr (grown t (inl p.0), p.1)
    to t r (inr p) = inr (grown t (inr p.0), p.1)

    from : (t : Trigger) (r : ℕ) → Contains (list_of_trigger old t) r ⊎ (Contains (take (place + 1) triggers) t × (r ≡ reaction)) → Contains (list_of_trigger new t) r
    from t r (inl o) = (one.each t r).1 (inl ((before.each t r).1 (inl o)))
    from t r (inr p) = last (shrunk t p.0)
      where
        last : Contains (take place triggers) t ⊎ (t ≡ trigger) → Contains (list_of_trigger new t) r
        last (inl c) = (one.each t r).1 (inl ((before.each t r).1 (inr (c, p.1))))
        last (inr e) = (one.each t r).1 (inr (e, p.1))

-- no reaction yet
pub listed_start : (program : Parts) (lists : TriggerLists) → ((t : Trigger) → IsTriggerOf program t → HasList lists t) → ((t : Trigger) → list_of_trigger lists t ≡ []) → AreListed program 0 lists
listed_start program lists room empty = record { room = room; each = λ t r. (λ c. absurd (empty_contained (list_of_trigger lists t) r (empty t) c), λ p. (let l : r < 0 = p.0 in absurd (omega arith))) }

-- one reaction more
pub listed_more : (program : Parts) (n : ℕ) (x : Reaction) (old new : TriggerLists) → slice_get program.reactions n ≡ Some x → AreListed program n old → ArePushed x.triggers n old new → AreListed program (n + 1) new
listed_more program n x old new here before pushed = record { room = λ t i. pushed.room t (before.room t i); each = λ t r. (λ c. to t r ((pushed.each t r).0 c), λ p. from t r p (cases_eq r n)) }
  where
    to : (t : Trigger) (r : ℕ) → Contains (list_of_trigger old t) r ⊎ (Contains x.triggers t × (r ≡ n)) → (r < n + 1) × IsListener program t r
    to t r (inl c) = let p = (before.each t r).0 c in let l : r < n = p.0 in (omega arith, p.1)
    to t r (inr p) = let e : r ≡ n = p.1 in (omega arith, (x, subst (λ (i : ℕ). slice_get program.reactions i ≡ Some x) (sym p.1) here, p.0))

    from : (t : Trigger) (r : ℕ) → (r < n + 1) × IsListener program t r → (r ≡ n) ⊎ (r ≡ n → ⊥) → Contains (list_of_trigger new t) r
    from t r p (inl e) = (pushed.each t r).1 (inr (subst (λ (y : Reaction). Contains y.triggers t) (same_at program.reactions r n p.1.0 x p.1.1 here e) p.1.2, e))
    from t r p (inr d) = (pushed.each t r).1 (inl ((before.each t r).1 ((let l : r < n + 1 = p.0 in omega arith), p.1)))

-- all reactions, and the timers that lead
pub all_listed : (program : Parts) (listeners : ListenerParts) → AreListed program (length program.reactions) listeners.by_trigger → ((n : ℕ) → Contains listeners.live_timers n ↔ IsLive program n) → AreListeners program listeners
all_listed program listeners listed live = record { each = each; live = live }
  where
    each : (t : Trigger) (r : ℕ) → Contains (list_of_trigger listeners.by_trigger t) r ↔ IsListener program t r
    each t r = (λ c. ((listed.each t r).0 c).1, λ p. (listed.each t r).1 (slice_get_within program.reactions r p.0 p.1, p))
