-- The first firing of a timer after a tag.
use Rattle.std.proofs.Common.{◌≡◌, ℕ, suc, ◌+◌, ◌-◌, ◌*◌, ◌/◌, ◌%◌, ◌<◌, ◌≤◌, inl, inr, refl, arith}
use Rattle.std.proofs.{lemmas.Nat.div-add-mod', Math.Nat.{mod-lt, mul-le-mul_right, suc-mul}}
use native.Mathlib.Decide.{dec_lt}
use Rattle.lft_tag.{specs.{declared.Tag.Tag, Tags.{Before, UpTo}}, proofs.Chains.tag_of}
use Rattle.lft_ir.specs.declared.parts.Timer.{Timer as TimerOf}
use Rattle.lft_model.{specs.Presence.Fires, proofs.Firings.{firing, time_of}}
use Rattle.lft_scheduler.specs.inner.Firings.{IsFirstFiring}

-- after a tag is at a later time, since it fires at microstep 0
later_time : (g f : Tag) → f.micro ≡ 0 → Before g f → g.time < f.time
later_time g f m (inl b) = b
later_time g f m (inr b) = absurd (let k = b.1 in omega arith)

-- of two times the tags
up_to_time : (time : ℕ) (f : Tag) → f.micro ≡ 0 → time ≤ f.time → UpTo (record { time = time; micro = 0 }) f
up_to_time time f m l = search arith

pub starts_at : (timer : TimerOf) → IsFirstFiring timer (λ h. UpTo (record { time = 0; micro = 0 }) h) (record { time = timer.offset; micro = 0 })
starts_at timer = record {
  fires = (0, tag_of (omega arith) refl, λ p. refl);
  holds = search arith;
  least = λ f fires u. (let e = time_of f (firing timer fires.0) fires.1 in up_to_time timer.offset f e.1 (let d : f.time ≡ timer.offset + fires.0 * timer.period = e.0 in omega arith));
}

-- a firing after the tag is at least one period after the last one up to it
more_times : (k j period over time : ℕ) → over < period → k * period + over < j * period → suc k * period ≤ j * period
more_times k j period over time l b = go (dec_lt j (suc k))
  where
    go : Dec (j < suc k) → suc k * period ≤ j * period
    go (yes q) = absurd (let a : j ≤ k = omega arith in let m : j * period ≤ k * period = mul-le-mul_right period a in omega arith)
    go (no n) = let a : suc k ≤ j = omega arith in mul-le-mul_right period a

pub next_of : (timer : TimerOf) (g : Tag) → timer.offset ≤ g.time → ¬ (timer.period ≡ 0) → IsFirstFiring timer (λ h. Before g h) (record { time = g.time - (g.time - timer.offset) % timer.period + timer.period; micro = 0 })
next_of timer g l n = by ((g.time - timer.offset) / timer.period) ((g.time - timer.offset) % timer.period) (div-add-mod' (g.time - timer.offset) timer.period) (mod-lt (g.time - timer.offset) (omega arith))
  where
    by : (k over : ℕ) → k * timer.period + over ≡ g.time - timer.offset → over < timer.period → IsFirstFiring timer (λ h. Before g h) (record { time = g.time - over + timer.period; micro = 0 })
    by k over split small = record {
      fires = (suc k, tag_of time refl, λ p. absurd (n p));
      holds = inl (omega arith);
      least = λ f fires b. least f fires b;
    }
      where
        one_more : suc k * timer.period ≡ k * timer.period + timer.period
        one_more = suc-mul k timer.period

        time : g.time - over + timer.period ≡ timer.offset + suc k * timer.period
        time = let o = one_more in omega arith

        least : (f : Tag) → Fires timer f → Before g f → UpTo (record { time = g.time - over + timer.period; micro = 0 }) f
        least f fires b =
            let e = time_of f (firing timer fires.0) fires.1 in
            let d : f.time ≡ timer.offset + fires.0 * timer.period = e.0 in
            let y : g.time < f.time = later_time g f e.1 b in
            let m : suc k * timer.period ≤ fires.0 * timer.period = more_times k fires.0 timer.period over g.time small (omega arith) in
            up_to_time (g.time - over + timer.period) f e.1 (let q = time in omega arith)
