use Rattle.std.proofs.Common.{◌-◌, ◌/◌, ◌%◌, refl, div-add-mod', mod-lt, arith}
use Rattle.lft_facts.proofs.Firing.{first_before, last_before, from_first}
use Rattle.lft_facts.proofs.firings.firing_before.Goals as goal

pub returns-then-timer-eq0 : goal.returns-then-timer-eq0
returns-then-timer-eq0 c = first_before c.args.timer.now c.args.tag c.if-timer-eq0.true _ refl (c.is_before.ensures.0 c.if-not-is_before.false)

pub returns : goal.returns
returns c =
    let timer = c.args.timer.now in
    let g = c.args.tag in
    let some = c.if-timer-eq0.false in
    last_before timer g ((g.time - timer.offset) / timer.period) ((g.time - timer.offset) % timer.period) (div-add-mod' (g.time - timer.offset) timer.period) (mod-lt (g.time - timer.offset) (omega arith)) (from_first timer g (c.is_before.ensures.0 c.if-not-is_before.false)) c.requires _ refl
