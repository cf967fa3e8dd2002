use Rattle.std.proofs.Common.{◌+◌, ◌-◌, ◌/◌, arith}
use Rattle.lft_rows.proofs.PresenceLemmas.{Positions.lower, Lists.not_true}
use Rattle.lft_rows.proofs.presence.causes.position.Goals as goal

pub loop-low-preserved : goal.loop-low-preserved
loop-low-preserved c =
    let low = c.loop-low.low in
    let high = c.loop-low.high in
    lower c.args.causes.now c.requires.ascending c.args.name (c.args.shift.time, c.args.shift.steps) c.args.tag c.args.past low high (low + (high - low) / 2) c.loop-low.invariant c.item_at.result c.item_at.ensures (omega arith) (omega arith) (λ b. not_true (c.if-lies_below.ensures.1 b))
