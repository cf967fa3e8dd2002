-- The firings of a timer, one after another.
use Rattle.std.proofs.Common.{◌≡◌, ℕ, ◌+◌, ◌*◌, ◌<◌, ◌≤◌, ◌-◌, ◌/◌, ◌%◌, inl, inr, List, refl, sym, ap, ◌∙◌, subst, arith, Some, None}
use Rattle.std.proofs.{lemmas.Nat.{mod_below, mul-le}, Math.Nat.{div-add-mod, div-mul-le_self, zero-mul}}
use native.Mathlib.Decide.{ℕ_discrete, dec_lt}
use Rattle.lft_tag.{specs.{declared.Tag.Tag, Tags.{Before, UpTo}}, proofs.{Chains.tag_of, Order.{UpTo-not, UpTo-trans}}}
use Rattle.lft_ir.specs.declared.parts.Timer.{Timer as TimerOf}
use Rattle.lft_model.{specs.Presence.{stop, Fires}, proofs.Firings.{firing, time_of}}
use Rattle.lft_rows.specs.Presence.Traces.{TraceParts, LeastTag}
use Rattle.lft_check.specs.inner.ByTag.Least.{HasTag, IsPassed, IsFirstFiringFrom, IsFirstTime, LacksFiring}

-- the firings before this time are each there
pub record WalkedTo (cut : TraceParts) (timer : TimerOf) (low : Tag) (tags : List Tag) (time : ℕ) : Type 0 where
  pub count : ℕ
  pub is_at : time ≡ timer.offset + count * timer.period
  pub once : timer.period ≡ 0 → count ≡ 0
  pub from : UpTo low (record { time = time; micro = 0 })
  pub ran : (j : ℕ) → j < count → IsPassed low tags (record { time = timer.offset + j * timer.period; micro = 0 })

-- where each firing is before the low tag
pub walk_none : (cut : TraceParts) (timer : TimerOf) (low : Tag) (tags : List Tag) → ((g : Tag) → Fires timer g → Before g low) → LeastTag (LacksFiring cut timer low tags) None
walk_none cut timer low tags before g x = x.not_there (inl (before g x.fires))

module _ (cut : TraceParts) (timer : TimerOf) (low : Tag) (tags : List Tag) (time : ℕ) (so_far : WalkedTo cut timer low tags time) where
  -- the timer fires at this time
  pub walk_fires : Fires timer (record { time = time; micro = 0 })
  walk_fires = (so_far.count, tag_of so_far.is_at refl, so_far.once)

  -- a later firing than those before is at this time or after it
  beyond : (g : Tag) (f : Fires timer g) → ¬ (f.0 < so_far.count) → (time ≤ g.time) × (g.micro ≡ 0)
  beyond g f n =
      let e : g.time ≡ timer.offset + f.0 * timer.period = (time_of g (firing timer f.0) f.1).0 in
      let m : so_far.count * timer.period ≤ f.0 * timer.period = mul-le so_far.count timer.period f.0 timer.period (omega arith) (omega arith) in
      let a : time ≡ timer.offset + so_far.count * timer.period = so_far.is_at in
      (omega arith, (time_of g (firing timer f.0) f.1).1)

  ran_before : (g : Tag) (f : Fires timer g) → f.0 < so_far.count → IsPassed low tags g
  ran_before g f l = subst (λ (z : Tag). IsPassed low tags z) (sym f.1) (so_far.ran f.0 l)

  missed_beyond : (g : Tag) → LacksFiring cut timer low tags g → (time ≤ g.time) × (g.micro ≡ 0)
  missed_beyond g x = go (dec_lt x.fires.0 so_far.count)
    where
      go : Dec (x.fires.0 < so_far.count) → (time ≤ g.time) × (g.micro ≡ 0)
      go (yes l) = absurd (x.not_there (ran_before g x.fires l))
      go (no n) = beyond g x.fires n

  -- the firing at this time is not there
  pub walk_finds : time ≤ (stop cut.plan cut.rows).time → ¬ HasTag tags (record { time = time; micro = 0 }) → LeastTag (LacksFiring cut timer low tags) (Some (record { time = time; micro = 0 }))
  walk_finds l n = (record { fires = (so_far.count, tag_of so_far.is_at refl, so_far.once); in_time = up (stop cut.plan cut.rows) l; not_there = not_passed }, λ h x. later h (missed_beyond h x))
    where
      not_passed : ¬ IsPassed low tags (record { time = time; micro = 0 })
      not_passed (inl b) = UpTo-not low (record { time = time; micro = 0 }) so_far.from b
      not_passed (inr h) = n h

      up : (g : Tag) → time ≤ g.time → UpTo (record { time = time; micro = 0 }) g
      up g u = go (dec_lt time g.time)
        where
          go : Dec (time < g.time) → UpTo (record { time = time; micro = 0 }) g
          go (yes k) = inl k
          go (no k) = inr (omega arith, omega arith)

      later : (h : Tag) → (time ≤ h.time) × (h.micro ≡ 0) → UpTo (record { time = time; micro = 0 }) h
      later h u = up h u.0

  -- the next firing is past the stop
  pub walk_ends : (stop cut.plan cut.rows).time < time → LeastTag (LacksFiring cut timer low tags) None
  walk_ends l g x = past g (stop cut.plan cut.rows) (missed_beyond g x).0 x.in_time l
    where
      past : (g last : Tag) → time ≤ g.time → UpTo g last → last.time < time → ⊥
      past g last a (inl b) c = omega arith
      past g last a (inr b) c = let e : g.time ≡ last.time = b.0 in omega arith

  -- one firing more
  pub walk_goes_on : ¬ (timer.period ≡ 0) → HasTag tags (record { time = time; micro = 0 }) → WalkedTo cut timer low tags (time + timer.period)
  walk_goes_on n ran = record { count = so_far.count + 1; is_at = at so_far.count so_far.is_at; once = λ e. absurd (n e); from = UpTo-trans low (record { time = time; micro = 0 }) (record { time = time + timer.period; micro = 0 }) so_far.from (inl (omega arith)); ran = λ j l. each j l (ℕ_discrete j so_far.count) }
    where
      at : (k : ℕ) → time ≡ timer.offset + k * timer.period → time + timer.period ≡ timer.offset + (k + 1) * timer.period
      at k e = let d : (k + 1) * timer.period ≡ k * timer.period + timer.period = grind arith in omega arith

      each : (j : ℕ) → j < so_far.count + 1 → Dec (j ≡ so_far.count) → IsPassed low tags (record { time = timer.offset + j * timer.period; micro = 0 })
      each j l (yes e) = subst (λ (k : ℕ). IsPassed low tags (record { time = k; micro = 0 })) (so_far.is_at ∙ ap (λ k. timer.offset + k * timer.period) (sym e)) (inr ran)
      each j l (no m) = so_far.ran j (omega arith)

-- the first firing of all is from the low tag on
pub first_at_offset : (timer : TimerOf) (low : Tag) → UpTo low (record { time = timer.offset; micro = 0 }) → IsFirstFiringFrom timer low timer.offset
first_at_offset timer low up = record { count = 0; is_at = omega arith; once = λ e. refl; from = up; before = λ j l. absurd (omega arith) }

-- the first time at the low tag or behind it
pub due_at : (low : Tag) → low.micro ≡ 0 → IsFirstTime low low.time
due_at low none = record { before = λ time l. inl l; from = λ time l. at time l (dec_lt low.time time) }
  where
    at : (time : ℕ) → low.time ≤ time → Dec (low.time < time) → UpTo low (record { time = time; micro = 0 })
    at time l (yes m) = inl m
    at time l (no n) = inr (omega arith, omega arith)

pub due_behind : (low : Tag) → ¬ (low.micro ≡ 0) → IsFirstTime low (low.time + 1)
due_behind low some = record { before = λ time l. at time l (dec_lt time low.time); from = λ time l. inl (omega arith) }
  where
    at : (time : ℕ) → time < low.time + 1 → Dec (time < low.time) → Before (record { time = time; micro = 0 }) low
    at time l (yes m) = inl m
    at time l (no n) = inr (omega arith, omega arith)

-- a timer that fires once, before the low tag
pub once_before : (timer : TimerOf) (low : Tag) (due : ℕ) → IsFirstTime low due → timer.offset < due → timer.period ≡ 0 → (g : Tag) → Fires timer g → Before g low
once_before timer low due is l none g f = subst (λ (z : Tag). Before z low) (sym f.1) (is.before (timer.offset + f.0 * timer.period) early)
  where
    early : timer.offset + f.0 * timer.period < due
    early = let e : f.0 ≡ 0 = f.2 none in let z : f.0 * timer.period ≡ 0 = ap (λ n. n * timer.period) e ∙ zero-mul timer.period in omega arith

-- that firing is at most a period behind the time
pub firing_near : (offset due period : ℕ) → offset < due → offset + ((due - offset - 1) / period + 1) * period ≤ due + period
firing_near offset due period l =
    let a : ((due - offset - 1) / period + 1) * period ≡ (due - offset - 1) / period * period + period = grind arith in
    let b : (due - offset - 1) / period * period ≤ due - offset - 1 = div-mul-le_self (due - offset - 1) period in
    omega arith

-- the first firing at or behind a time that is past the first of all
pub first_behind : (timer : TimerOf) (low : Tag) (due : ℕ) → IsFirstTime low due → timer.offset < due → ¬ (timer.period ≡ 0) → IsFirstFiringFrom timer low (timer.offset + ((due - timer.offset - 1) / timer.period + 1) * timer.period)
first_behind timer low due is l some = record {
  count = quotient + 1;
  is_at = refl;
  once = λ e. absurd (some e);
  from = is.from (timer.offset + (quotient + 1) * timer.period) (let a : (quotient + 1) * timer.period ≡ quotient * timer.period + timer.period = grind arith in omega arith);
  before = λ j k. is.before (timer.offset + j * timer.period) (let m : j * timer.period ≤ quotient * timer.period = mul-le j timer.period quotient timer.period (omega arith) (omega arith) in omega arith);
}
  where
    behind : ℕ
    behind = due - timer.offset - 1

    quotient : ℕ
    quotient = behind / timer.period

    below : quotient * timer.period ≤ behind
    below = div-mul-le_self behind timer.period

    above : behind < quotient * timer.period + timer.period
    above =
        let parts : timer.period * quotient + behind % timer.period ≡ behind = div-add-mod behind timer.period in
        let turned : timer.period * quotient ≡ quotient * timer.period = grind arith in
        let less : behind % timer.period < timer.period = mod_below behind timer.period (omega arith) in
        omega arith
