use Rattle.std.proofs.Common.{arith}
use Rattle.lft_scheduler.proofs.NextFiring.{next_of}
use Rattle.lft_scheduler.proofs.firings.next_firing.Goals as goal

pub returns-clause-some : goal.returns-clause-some
returns-clause-some c = next_of c.args.timer.now c.args.tag (omega arith) (λ e. omega (arith, c.if-timer-eq0.false, e))
