use Rattle.std.proofs.Common.{arith}
use Rattle.lft_facts.proofs.Causes.{fires_after}
use Rattle.lft_facts.proofs.cause.timer_cause.Goals as goal

pub returns-else-timer-eq0-clause-some : goal.returns-else-timer-eq0-clause-some
returns-else-timer-eq0-clause-some c = fires_after c.args.plan.now c.program.result.now c.program.ensures.value c.args.tag c.args.number c.timer-timer.result.now c.timer-timer.ensures.value (c.fires.ensures.0 c.if-not-fires.false) (λ e. let n = c.if-timer-eq0.false in omega arith)
