use Rattle.std.proofs.Common.{◌≤◌, ◌<◌, ◌+◌, ◌-◌, ◌*◌, ◌/◌, arith}
use Rattle.lft_check.proofs.ByTagLemmas.Firings.{first_at_offset, first_behind, firing_near, once_before}
use Rattle.lft_check.proofs.by_tag.missing.first_firing.Goals as goal

pub overflow_add-result : goal.overflow_add-result
overflow_add-result c =
    let offset = c.args.timer.now.offset in
    let due = c.first_time-due.result in
    let period = c.args.timer.now.period in
    let l : offset < due = omega arith in
    let near : offset + ((due - offset - 1) / period + 1) * period ≤ due + period = firing_near offset due period l in
    omega arith

pub returns-then-timer-due : goal.returns-then-timer-due
returns-then-timer-due c = first_at_offset c.args.timer.now c.args.low (c.first_time-due.ensures.first.from c.args.timer.now.offset c.if-timer-due.true)

pub returns-then-timer-eq0 : goal.returns-then-timer-eq0
returns-then-timer-eq0 c = once_before c.args.timer.now c.args.low c.first_time-due.result c.first_time-due.ensures.first (omega arith) c.if-timer-eq0.true

pub returns : goal.returns
returns c = first_behind c.args.timer.now c.args.low c.first_time-due.result c.first_time-due.ensures.first (omega arith) c.if-timer-eq0.false
