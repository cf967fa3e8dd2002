-- Where a timer fires, so does the one that leads it: of the timers of one beat the first has all their firings.
use Rattle.std.proofs.Common.{◌≡◌, ℕ, suc, ◌+◌, ◌-◌, ◌*◌, ◌/◌, ◌%◌, ◌<◌, ◌≤◌, ◌⊎◌, inl, inr, sym, ap, ◌∙◌, arith}
use Rattle.std.proofs.{lemmas.{Bool.cases_eq, Nat.div-add-mod'}, Math.Nat.{mod-zero, mod-lt, mul-le-mul_right, suc-mul, add-mul}}
use native.Mathlib.Decide.{dec_lt}
use Rattle.lft_tag.specs.declared.Tag.{Tag}
use Rattle.lft_ir.specs.{Parts.Parts, declared.parts.{Timer.Timer as TimerOf, Trigger.TheVariants.Timer}}
use Rattle.lft_model.specs.Presence.{Fires}
use Rattle.lft_scheduler.{specs.inner.{Listeners.{beat, IsListener, IsLive}, Telling.FiresAt}, proofs.Led.led}

-- the later of two offsets that go as far past whole periods is whole periods after the other
periods_after : (first offset period : ℕ) → 0 < period → first % period ≡ offset % period → first ≤ offset → (j : ℕ) × (offset ≡ first + j * period)
periods_after first offset period some same l = go (dec_lt (offset / period) (first / period))
  where
    a : ℕ
    a = offset / period

    b : ℕ
    b = first / period

    its : a * period + offset % period ≡ offset
    its = div-add-mod' offset period

    firsts : b * period + first % period ≡ first
    firsts = div-add-mod' first period

    go : Dec (a < b) → (j : ℕ) × (offset ≡ first + j * period)
    go (yes k) =
        let s : suc a * period ≤ b * period = mul-le-mul_right period (let q = k in omega (arith, q)) in
        let m : suc a * period ≡ a * period + period = suc-mul a period in
        let r : offset % period < period = mod-lt offset some in
        absurd (omega (arith, s, m, its, firsts, same, l, some))
    go (no k) =
        let d : (a - b) * period + b * period ≡ a * period = sym (add-mul (a - b) b period) ∙ ap (λ (n : ℕ). n * period) (let q = k in omega (arith, q)) in
        (a - b, omega (arith, d, its, firsts, same))

-- the leader fires whenever the timer does
leader_fires : (first timer : TimerOf) (g : Tag) → beat first ≡ beat timer → first.offset ≤ timer.offset → Fires timer g → Fires first g
leader_fires first timer g alike l fires = go (cases_eq timer.period 0)
  where
    period : first.period ≡ timer.period
    period = ap (λ (b : ℕ × ℕ). b.0) alike

    rest : first.offset % timer.period ≡ timer.offset % timer.period
    rest = ap (λ (n : ℕ). first.offset % n) (sym period) ∙ ap (λ (b : ℕ × ℕ). b.1) alike

    go : (timer.period ≡ 0) ⊎ (timer.period ≡ 0 → ⊥) → Fires first g
    go (inl z) =
        let offset : first.offset ≡ timer.offset = sym (mod-zero first.offset) ∙ ap (λ (n : ℕ). first.offset % n) (sym z) ∙ rest ∙ ap (λ (n : ℕ). timer.offset % n) z ∙ mod-zero timer.offset in
        (fires.0, fires.1 ∙ ap (λ (time : ℕ). record { time = time; micro = 0 }) (sym (ap (λ (n : ℕ). first.offset + fires.0 * n) period ∙ ap (λ (n : ℕ). n + fires.0 * timer.period) offset)), λ p. fires.2 z)
    go (inr d) =
        let j = periods_after first.offset timer.offset timer.period (omega (arith, d)) rest l in
        let sum : (j.0 + fires.0) * timer.period ≡ j.0 * timer.period + fires.0 * timer.period = add-mul j.0 fires.0 timer.period in
        let time : timer.offset + fires.0 * timer.period ≡ first.offset + (j.0 + fires.0) * timer.period = (let e = j.1 in omega (arith, sum, e)) in
        (j.0 + fires.0, fires.1 ∙ ap (λ (t : ℕ). record { time = t; micro = 0 }) (time ∙ ap (λ (n : ℕ). first.offset + (j.0 + fires.0) * n) (sym period)), λ p. absurd (d (sym period ∙ p)))

-- where a timer that triggers a reaction fires, a live one that triggers it does
pub live_fires : (program : Parts) (g : Tag) (r n : ℕ) → FiresAt program g n → IsListener program (Timer n) r → (m : ℕ) × IsLive program m × IsListener program (Timer m) r × FiresAt program g m
live_fires program g r n fires l =
    let q = led program fires.0 l.0.triggers n l.2 fires.1 in
    (q.0, (r, l.0, l.1, q.1), (l.0, l.1, q.1.there), (q.1.timer, q.1.is_timer, leader_fires q.1.timer fires.0 g q.2 q.3 fires.2))
