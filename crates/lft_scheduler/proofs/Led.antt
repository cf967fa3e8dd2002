-- A timer among some triggers has a leader.
use Rattle.std.proofs.Common.{◌≡◌, ◌⊎◌, inl, inr, ◌<◌, ◌≤◌, ℕ, List, [], ◌∷◌, refl, sym, ap, ◌∙◌, subst, arith, Option, Some, None, slice_get, Contains}
use Rattle.lft_ir.specs.{Parts.Parts, declared.parts.{Timer.Timer as TimerOf, Trigger.{Trigger, TheVariants.{Startup, Shutdown, Timer, On}}}}
use Rattle.lft_lists.proofs.{Members.{Mem, mem_contains, contains_mem}, Places.same_some}
use Rattle.lft_scheduler.{specs.inner.Listeners.{beat, IsLeader}, proofs.Leaders.{cases_beat, starts_cases, starts_through}}
use Rattle.lft_queue.proofs.Marking.{none_contained}

-- each timer among the triggers is led by one that beats like it and doesn't start later
module _ (program : Parts) (timer : TimerOf) where
  abbrev Found : List Trigger → Type 0
  Found triggers = (m : ℕ) × (leader : IsLeader program triggers m) × (beat leader.timer ≡ beat timer)

  abbrev NoneThere : List Trigger → Type 0
  NoneThere triggers = (m : ℕ) (other : TimerOf) → Contains triggers (Timer m) → slice_get program.timers m ≡ Some other → ¬ (beat other ≡ beat timer)

  contains_cases : (x : Trigger) (triggers : List Trigger) (t : Trigger) → Contains (x ∷ triggers) t → (t ≡ x) ⊎ Contains triggers t
  contains_cases x triggers t c = go (contains_mem t (x ∷ triggers) c)
    where
      go : Mem t (x ∷ triggers) → (t ≡ x) ⊎ Contains triggers t
      go (inl e) = inl (sym e)
      go (inr m) = inr (mem_contains t triggers m)

  there_first : (x : Trigger) (triggers : List Trigger) → Contains (x ∷ triggers) x
  there_first x triggers = mem_contains x (x ∷ triggers) (inl refl)

  there_behind : (x : Trigger) (triggers : List Trigger) (t : Trigger) → Contains triggers t → Contains (x ∷ triggers) t
  there_behind x triggers t c = mem_contains t (x ∷ triggers) (inr (contains_mem t triggers c))

  -- one more trigger, which isn't a timer with the beat
  found_before : (x : Trigger) (triggers : List Trigger) → ((m : ℕ) (other : TimerOf) → Timer m ≡ x → slice_get program.timers m ≡ Some other → ¬ (beat other ≡ beat timer)) → Found triggers ⊎ NoneThere triggers → Found (x ∷ triggers) ⊎ NoneThere (x ∷ triggers)
  found_before x triggers not (inl f) = inl (f.0, record { timer = f.1.timer; is_timer = f.1.is_timer; there = there_behind x triggers (Timer f.0) f.1.there; first = λ m other c e b. first m other (contains_cases x triggers (Timer m) c) e b }, f.2)
    where
      first : (m : ℕ) (other : TimerOf) → (Timer m ≡ x) ⊎ Contains triggers (Timer m) → slice_get program.timers m ≡ Some other → beat other ≡ beat f.1.timer → (f.1.timer.offset < other.offset) ⊎ ((f.1.timer.offset ≡ other.offset) × (f.0 ≤ m))
      first m other (inl z) e b = absurd (not m other z e (b ∙ f.2))
      first m other (inr c) e b = f.1.first m other c e b
  found_before x triggers not (inr none) = inr (λ m other c e. by m other (contains_cases x triggers (Timer m) c) e)
    where
      by : (m : ℕ) (other : TimerOf) → (Timer m ≡ x) ⊎ Contains triggers (Timer m) → slice_get program.timers m ≡ Some other → ¬ (beat other ≡ beat timer)
      by m other (inl z) e = not m other z e
      by m other (inr c) e = none m other c e

  -- one more timer with the beat
  module _ (n : ℕ) (its : TimerOf) (triggers : List Trigger) (is : slice_get program.timers n ≡ Some its) (alike : beat its ≡ beat timer) where
    new_one : ((m : ℕ) (other : TimerOf) → Contains triggers (Timer m) → slice_get program.timers m ≡ Some other → beat other ≡ beat timer → (its.offset < other.offset) ⊎ ((its.offset ≡ other.offset) × (n ≤ m))) → Found (Timer n ∷ triggers)
    new_one before = (n, record { timer = its; is_timer = is; there = there_first (Timer n) triggers; first = λ m other c e b. first m other (contains_cases (Timer n) triggers (Timer m) c) e b }, alike)
      where
        first : (m : ℕ) (other : TimerOf) → (Timer m ≡ Timer n) ⊎ Contains triggers (Timer m) → slice_get program.timers m ≡ Some other → beat other ≡ beat its → (its.offset < other.offset) ⊎ ((its.offset ≡ other.offset) × (n ≤ m))
        first m other (inl z) e b =
            let i : m ≡ n = cc in
            let t : its ≡ other = same_some (slice_get program.timers n) its other is (subst (λ (k : ℕ). slice_get program.timers k ≡ Some other) i e) in
            inr (ap (λ (y : TimerOf). y.offset) t, omega (arith, i))
        first m other (inr c) e b = before m other c e (b ∙ alike)

    old_one : (f : Found triggers) → (f.1.timer.offset < its.offset) ⊎ ((f.1.timer.offset ≡ its.offset) × (f.0 ≤ n)) → Found (Timer n ∷ triggers)
    old_one f after = (f.0, record { timer = f.1.timer; is_timer = f.1.is_timer; there = there_behind (Timer n) triggers (Timer f.0) f.1.there; first = λ m other c e b. first m other (contains_cases (Timer n) triggers (Timer m) c) e b }, f.2)
      where
        first : (m : ℕ) (other : TimerOf) → (Timer m ≡ Timer n) ⊎ Contains triggers (Timer m) → slice_get program.timers m ≡ Some other → beat other ≡ beat f.1.timer → (f.1.timer.offset < other.offset) ⊎ ((f.1.timer.offset ≡ other.offset) × (f.0 ≤ m))
        first m other (inl z) e b =
            let i : n ≡ m = cc in
            let t : its ≡ other = same_some (slice_get program.timers n) its other is (subst (λ (k : ℕ). slice_get program.timers k ≡ Some other) (sym i) e) in
            subst (λ (y : TimerOf). (f.1.timer.offset < y.offset) ⊎ ((f.1.timer.offset ≡ y.offset) × (f.0 ≤ m))) t (subst (λ (k : ℕ). (f.1.timer.offset < its.offset) ⊎ ((f.1.timer.offset ≡ its.offset) × (f.0 ≤ k))) i after)
        first m other (inr c) e b = f.1.first m other c e b

    found_more : Found triggers ⊎ NoneThere triggers → Found (Timer n ∷ triggers)
    found_more (inr none) = new_one (λ m other c e b. absurd (none m other c e b))
    found_more (inl f) = go (starts_cases its f.1.timer n f.0)
      where
        go : ((its.offset < f.1.timer.offset) ⊎ ((its.offset ≡ f.1.timer.offset) × (n < f.0))) ⊎ ((f.1.timer.offset < its.offset) ⊎ ((f.1.timer.offset ≡ its.offset) × (f.0 ≤ n))) → Found (Timer n ∷ triggers)
        go (inl s) = new_one (λ m other c e b. starts_through its f.1.timer other n f.0 m s (f.1.first m other c e (b ∙ sym f.2)))
        go (inr l) = old_one f l

  look : (triggers : List Trigger) → Found triggers ⊎ NoneThere triggers
  look [] = inr (λ m other c e. absurd (none_contained (Timer m) c))
  look (x ∷ triggers) = one x (look triggers)
    where
      at : (n : ℕ) (o : Option TimerOf) → slice_get program.timers n ≡ o → Found triggers ⊎ NoneThere triggers → Found (Timer n ∷ triggers) ⊎ NoneThere (Timer n ∷ triggers)
      at n None e so_far = found_before (Timer n) triggers (λ m other z f. (let i : m ≡ n = cc in let q : None ≡ Some other = sym e ∙ subst (λ (k : ℕ). slice_get program.timers k ≡ Some other) i f in absurd (cc))) so_far
      at n (Some its) e so_far = go (cases_beat (beat timer) (beat its))
        where
          go : (beat its ≡ beat timer) ⊎ (beat its ≡ beat timer → ⊥) → Found (Timer n ∷ triggers) ⊎ NoneThere (Timer n ∷ triggers)
          go (inl alike) = inl (found_more n its triggers e alike so_far)
          go (inr d) = found_before (Timer n) triggers (λ m other z f b. (let i : m ≡ n = cc in d (subst (λ (y : TimerOf). beat y ≡ beat timer) (same_some (slice_get program.timers n) other its (subst (λ (k : ℕ). slice_get program.timers k ≡ Some other) i f) e) b))) so_far

      one : (x : Trigger) → Found triggers ⊎ NoneThere triggers → Found (x ∷ triggers) ⊎ NoneThere (x ∷ triggers)
      one (Timer n) so_far = at n (slice_get program.timers n) refl so_far
      one Startup so_far = found_before Startup triggers (λ m other z f. absurd (cc)) so_far
      one Shutdown so_far = found_before Shutdown triggers (λ m other z f. absurd (cc)) so_far
      one (On name) so_far = found_before (On name) triggers (λ m other z f. absurd (cc)) so_far

  pub led : (triggers : List Trigger) (n : ℕ) → Contains triggers (Timer n) → slice_get program.timers n ≡ Some timer → (m : ℕ) × (leader : IsLeader program triggers m) × (beat leader.timer ≡ beat timer) × (leader.timer.offset ≤ timer.offset)
  led triggers n c e = go (look triggers)
    where
      go : Found triggers ⊎ NoneThere triggers → (m : ℕ) × (leader : IsLeader program triggers m) × (beat leader.timer ≡ beat timer) × (leader.timer.offset ≤ timer.offset)
      go (inr none) = absurd (none n timer c e refl)
      go (inl f) = (f.0, f.1, f.2, up (f.1.first n timer c e (sym f.2)))
        where
          up : (f.1.timer.offset < timer.offset) ⊎ ((f.1.timer.offset ≡ timer.offset) × (f.0 ≤ n)) → f.1.timer.offset ≤ timer.offset
          up (inl l) = omega (arith, l)
          up (inr l) = (let q = l.0 in omega (arith, q))
