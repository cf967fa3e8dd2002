-- Whether a timer fires at a tag.
use Rattle.std.proofs.Common.{◌≡◌, ℕ, ◌+◌, ◌-◌, ◌*◌, ◌/◌, ◌%◌, ◌<◌, ◌≤◌, refl, ap, ◌∙◌, subst, arith}
use Rattle.std.proofs.lemmas.Nat.{div-add-mod', mod-mul-add}
use Rattle.lft_tag.{specs.declared.Tag.Tag, proofs.Chains.tag_of}
use Rattle.lft_ir.specs.declared.parts.Timer.{Timer as TimerOf}
use Rattle.lft_model.specs.Presence.{Fires}

pub time_of : (g : Tag) (time : ℕ) → g ≡ record { time = time; micro = 0 } → (g.time ≡ time) × (g.micro ≡ 0)
time_of g time e = (ap (λ (z : Tag). z.time) e, ap (λ (z : Tag). z.micro) e)

-- the time of the k-th firing
abbrev pub firing : TimerOf → ℕ → ℕ
firing timer k = timer.offset + k * timer.period

pub fires_again : (timer : TimerOf) (g : Tag) → g.micro ≡ 0 → timer.offset ≤ g.time → ¬ (timer.period ≡ 0) → (g.time - timer.offset) % timer.period ≡ 0 → Fires timer g
fires_again timer g m l n e = (k, tag_of time m, λ q. absurd (n q))
  where
    k : ℕ
    k = (g.time - timer.offset) / timer.period

    split : k * timer.period + (g.time - timer.offset) % timer.period ≡ g.time - timer.offset
    split = div-add-mod' (g.time - timer.offset) timer.period

    time : g.time ≡ timer.offset + k * timer.period
    time = by k refl
      where
        by : (j : ℕ) → k ≡ j → g.time ≡ timer.offset + j * timer.period
        by j q = let s : j * timer.period + (g.time - timer.offset) % timer.period ≡ g.time - timer.offset = subst (λ i. i * timer.period + (g.time - timer.offset) % timer.period ≡ g.time - timer.offset) q split in omega arith

pub again_fires : (timer : TimerOf) (g : Tag) → ¬ (timer.period ≡ 0) → Fires timer g → (g.time - timer.offset) % timer.period ≡ 0
again_fires timer g n f =
    let e : g.time ≡ timer.offset + f.0 * timer.period = (time_of g (firing timer f.0) f.1).0 in
    let d : g.time - timer.offset ≡ f.0 * timer.period + 0 = omega arith in
    let p : 0 < timer.period = omega arith in
    ap (λ i. i % timer.period) d ∙ mod-mul-add f.0 timer.period 0 p
