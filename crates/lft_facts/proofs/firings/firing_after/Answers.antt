use Rattle.std.proofs.Common.{◌≡◌, Bool, false, true, sym, ◌∙◌, ◌-◌, ◌/◌, ◌%◌, refl, div-add-mod', mod-lt, arith}
use Rattle.lft_tag.proofs.Chains.{tag_of}
use Rattle.lft_facts.proofs.Firing.{first_after, next_after, from_not}
use Rattle.lft_facts.proofs.firings.firing_after.Goals as goal

pub returns-then-is_before : goal.returns-then-is_before
returns-then-is_before c = first_after c.args.timer.now c.args.tag _ refl (c.is_before.ensures.0 c.if-is_before.true)

pub returns : goal.returns
returns c =
    let timer = c.args.timer.now in
    let g = c.args.tag in
    let some = c.if-timer-eq0.false in
    next_after timer g ((g.time - timer.offset) / timer.period) ((g.time - timer.offset) % timer.period) (div-add-mod' (g.time - timer.offset) timer.period) (mod-lt (g.time - timer.offset) (omega arith)) (from_not timer g (λ b. let z : ◌≡◌ {A = Bool} false true = sym c.if-is_before.false ∙ c.is_before.ensures.1 b in absurd (cc))) _ (let e = c.in_ok-time.ensures in tag_of (omega arith) refl)
