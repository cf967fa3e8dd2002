use Rattle.lft_facts.proofs.{Added.adds_both, Firing.{near_before, near_after, not_now, timer_there}}
use Rattle.lft_facts.proofs.firings.add_firings.Goals as goal

pub firing_before-requires : goal.firing_before-requires
firing_before-requires c = not_now c.args.plan.now c.args.rows.now c.args.tag c.args.number c.timer-timer.result.now (timer_there c.args.plan.now c.program.result.now c.program.ensures.value c.args.number c.timer-timer.result.now c.timer-timer.ensures.value) c.requires.absent

pub returns : goal.returns
returns c b p =
    let plan = c.args.plan.now in
    let rows = c.args.rows.now in
    let is = timer_there plan c.program.result.now c.program.ensures.value c.args.number c.timer-timer.result.now c.timer-timer.ensures.value in
    adds_both plan rows _ _ _
    (c.in_ok-add.ensures.adds b plan rows (c.nearest.ensures.holds plan rows (near_before plan rows c.args.tag c.args.number c.timer-timer.result.now is c.firing_before.result c.firing_before.ensures)) (c.nearest.ensures.own b p))
    (c.in_ok-add-2.ensures.adds b plan rows (c.nearest-2.ensures.holds plan rows (near_after plan rows c.args.tag c.args.number c.timer-timer.result.now is c.firing_after.result c.firing_after.ensures)) (c.nearest-2.ensures.own b p))
