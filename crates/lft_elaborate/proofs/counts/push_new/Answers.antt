use Rattle.std.proofs.Common.{arith}
use Rattle.lft_elaborate.proofs.counts.push_new.Goals as goal

pub returns-clause-marked : goal.returns-clause-marked
returns-clause-marked c a = c.in_ok-mark.ensures.marked (c.in_ok-lengthen.ensures.marked c.args.used.now.items a)

pub returns-clause-has : goal.returns-clause-has
returns-clause-has c a low = let long = c.in_ok-lengthen.ensures.long in c.in_ok-mark.ensures.has (c.in_ok-lengthen.ensures.marked c.args.used.now.items a) (omega (arith, long, low))
