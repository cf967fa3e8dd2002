-- When a timer fires just before and just after a tag.
use Rattle.std.proofs.Common.{◌≡◌, ℕ, ◌+◌, ◌-◌, ◌*◌, ◌<◌, ◌≤◌, ◌⊎◌, inl, inr, List, refl, sym, ap, ◌∙◌, subst, arith, Option, Some, None, IfSome, slice_get}
use Rattle.std.proofs.lemmas.{Bool.cases_lt, Nat.mul-le}
use native.Mathlib.Decide.{ℕ_discrete}
use Rattle.lft_lists.proofs.Places.{same_at}
use Rattle.lft_tag.{specs.{declared.Tag.Tag, Tags.Before}, proofs.{Order.{Before-irrefl, Before-trans}, Chains.tag_of}}
use Rattle.lft_ir.specs.{Parts.Parts, declared.{parts.{Timer.Timer as TimerOf, Trigger.TheVariants.Timer}, steps.row.Row.Row}}
use Rattle.lft_model.specs.{Plans.PlanParts, Presence.{Fires, Occurs}}
use Rattle.lft_facts.specs.{Reasons.IsNearest, inner.Neighbours.{IsFiringBefore, IsFiringAfter}}

-- which time is the earlier, of tags of the microstep 0
earlier_time : (s u : ℕ) → Before (record { time = s; micro = 0 }) (record { time = u; micro = 0 }) → s < u
earlier_time s u (inl l) = l
earlier_time s u (inr e) = let x : 0 < 0 = e.1 in absurd (omega arith)

-- the first tag at which a timer fires
abbrev pub first_firing : TimerOf → Tag
first_firing timer = record { time = timer.offset; micro = 0 }

module _ (timer : TimerOf) (g : Tag) where
  -- each firing is at the first or behind it
  none_earlier : (k : Tag) → Before k (first_firing timer) → ¬ Fires timer k
  none_earlier k b f = let x = earlier_time (timer.offset + f.0 * timer.period) timer.offset (subst (λ (z : Tag). Before z (first_firing timer)) f.1 b) in omega arith

  pub first_after : (h : Tag) → h ≡ first_firing timer → Before g h → IsFiringAfter timer g h
  first_after h e b = record { fires = (0, e ∙ tag_of (omega arith) refl, λ p. refl); after = b; none_between = λ k a l f. none_earlier k (subst (λ (z : Tag). Before k z) e l) f }

  -- a timer without a period fires once
  only_first : timer.period ≡ 0 → (k : Tag) → Fires timer k → k ≡ first_firing timer
  only_first p k f = f.1 ∙ ap (λ n. record { time = timer.offset + n * timer.period; micro = 0 }) (f.2 p) ∙ tag_of (omega arith) refl

  pub first_before : timer.period ≡ 0 → (h : Tag) → h ≡ first_firing timer → Before h g → IsFiringBefore timer g h
  first_before p h e b = record { fires = (0, e ∙ tag_of (omega arith) refl, λ q. refl); before = b; none_between = λ k a l f. Before-irrefl h (subst (λ (z : Tag). Before h z) (only_first p k f ∙ sym e) a) }

  -- with so many periods up to the time, and what is left
  module _ (q r : ℕ) (split : q * timer.period + r ≡ g.time - timer.offset) (less : r < timer.period) (from : timer.offset ≤ g.time) where
    -- a firing that isn't past the tag comes of no more periods
    no_more : (c : ℕ) → timer.offset + c * timer.period ≤ g.time → c ≤ q
    no_more c l = go (cases_lt q c)
      where
        go : (q < c) ⊎ (c ≤ q) → c ≤ q
        go (inl m) = let x : (q + 1) * timer.period ≤ c * timer.period = mul-le (q + 1) timer.period c timer.period (omega arith) (omega arith) in let y : (q + 1) * timer.period ≡ q * timer.period + timer.period = omega arith in absurd (omega arith)
        go (inr m) = m

    up_to : (c : ℕ) → c ≤ q → c * timer.period ≤ q * timer.period
    up_to c l = mul-le c timer.period q timer.period l (omega arith)

    pub last_before : ¬ Fires timer g → (h : Tag) → h ≡ record { time = g.time - r; micro = 0 } → IsFiringBefore timer g h
    last_before none h e = record { fires = fires; before = subst (λ (z : Tag). Before z g) (sym e) (before (ℕ_discrete r 0) (ℕ_discrete g.micro 0)); none_between = between }
      where
        fires : Fires timer h
        fires = (q, e ∙ tag_of (omega arith) refl, λ p. absurd (omega arith))

        before : Dec (r ≡ 0) → Dec (g.micro ≡ 0) → Before (record { time = g.time - r; micro = 0 }) g
        before (no n) d = inl (omega arith)
        before (yes z) (no n) = inr (omega arith, omega arith)
        before (yes z) (yes m) = absurd (none (q, tag_of (omega arith) m, λ p. absurd (omega arith)))

        between : (k : Tag) → Before h k → Before k g → ¬ Fires timer k
        between k a b f =
            let x = earlier_time (g.time - r) (timer.offset + f.0 * timer.period) (subst (λ (z : Tag). Before z (record { time = timer.offset + f.0 * timer.period; micro = 0 })) e (subst (λ (z : Tag). Before h z) f.1 a)) in
            let y = up_to f.0 (no_more f.0 (not_past (subst (λ (z : Tag). Before z g) f.1 b))) in
            omega arith
          where
            not_past : Before (record { time = timer.offset + f.0 * timer.period; micro = 0 }) g → timer.offset + f.0 * timer.period ≤ g.time
            not_past (inl l) = let m : timer.offset + f.0 * timer.period < g.time = l in omega arith
            not_past (inr s) = let m : timer.offset + f.0 * timer.period ≡ g.time = s.0 in omega arith

    pub next_after : (h : Tag) → h ≡ record { time = g.time - r + timer.period; micro = 0 } → IsFiringAfter timer g h
    next_after h e = record { fires = (q + 1, e ∙ tag_of (let y : (q + 1) * timer.period ≡ q * timer.period + timer.period = omega arith in omega arith) refl, λ p. absurd (omega arith)); after = subst (λ (z : Tag). Before g z) (sym e) (inl (omega arith)); none_between = between }
      where
        between : (k : Tag) → Before g k → Before k h → ¬ Fires timer k
        between k a b f =
            let x = earlier_time (timer.offset + f.0 * timer.period) (g.time - r + timer.period) (subst (λ (z : Tag). Before (record { time = timer.offset + f.0 * timer.period; micro = 0 }) z) e (subst (λ (z : Tag). Before z h) f.1 b)) in
            by (past (subst (λ (z : Tag). Before g z) f.1 a)) x (cases_lt q f.0)
          where
            past : Before g (record { time = timer.offset + f.0 * timer.period; micro = 0 }) → g.time < timer.offset + f.0 * timer.period
            past (inl l) = l
            past (inr s) = let m : g.micro < 0 = s.1 in absurd (omega arith)

            by : g.time < timer.offset + f.0 * timer.period → timer.offset + f.0 * timer.period < g.time - r + timer.period → (q < f.0) ⊎ (f.0 ≤ q) → ⊥
            by l m (inl c) = let x : (q + 1) * timer.period ≤ f.0 * timer.period = mul-le (q + 1) timer.period f.0 timer.period (omega arith) (omega arith) in let y : (q + 1) * timer.period ≡ q * timer.period + timer.period = omega arith in omega arith
            by l m (inr c) = let x = up_to f.0 c in omega arith

-- what isn't before the first firing is at its time or later
pub from_first : (timer : TimerOf) (g : Tag) → Before (first_firing timer) g → timer.offset ≤ g.time
from_first timer g (inl l) = let m : timer.offset < g.time = l in omega arith
from_first timer g (inr e) = let m : timer.offset ≡ g.time = e.0 in omega arith

pub from_not : (timer : TimerOf) (g : Tag) → ¬ Before g (first_firing timer) → timer.offset ≤ g.time
from_not timer g n = go (cases_lt g.time timer.offset)
  where
    go : (g.time < timer.offset) ⊎ (timer.offset ≤ g.time) → timer.offset ≤ g.time
    go (inl l) = absurd (n (inl l))
    go (inr l) = l

-- the nearest firings are the nearest tags at which the timer is present
module _ (plan : PlanParts) (t : List Row) (g : Tag) (n : ℕ) (timer : TimerOf) (is : slice_get plan.program.timers n ≡ Some timer) where
  of_it : (k : Tag) → Occurs plan t k (Timer n) → Fires timer k
  of_it k o = subst (λ (z : TimerOf). Fires z k) (same_at plan.program.timers n n o.0 timer o.1 is refl) o.2

  pub near_before : (o : Option Tag) → IfSome o (IsFiringBefore timer g) → IfSome o (IsNearest plan t g (Timer n))
  near_before None f = tt
  near_before (Some h) f = record { present = (timer, is, f.fires); apart = λ e. Before-irrefl g (subst (λ (z : Tag). Before z g) e f.before); none_before = λ k a b o. f.none_between k a b (of_it k o); none_after = λ k a b o. Before-irrefl g (Before-trans g k g a (Before-trans k h g b f.before)) }

  pub near_after : (o : Option Tag) → IfSome o (IsFiringAfter timer g) → IfSome o (IsNearest plan t g (Timer n))
  near_after None f = tt
  near_after (Some h) f = record { present = (timer, is, f.fires); apart = λ e. Before-irrefl g (subst (λ (z : Tag). Before g z) e f.after); none_before = λ k a b o. Before-irrefl g (Before-trans g h g f.after (Before-trans h k g a b)); none_after = λ k a b o. f.none_between k a b (of_it k o) }

  pub not_now : ¬ Occurs plan t g (Timer n) → ¬ Fires timer g
  not_now none f = none (timer, is, f)

pub timer_there : (plan : PlanParts) (program : Parts) → program ≡ plan.program → (n : ℕ) (timer : TimerOf) → slice_get program.timers n ≡ Some timer → slice_get plan.program.timers n ≡ Some timer
timer_there plan program same n timer is = subst (λ (z : Parts). slice_get z.timers n ≡ Some timer) same is
