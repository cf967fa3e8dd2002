use Rattle.std.proofs.Common.{arith}
use Rattle.lft_log.proofs.Odd.{one_line}
use Rattle.lft_log.proofs.lines.first_line.Goals as goal

pub returns-clause-within : goal.returns-clause-within
returns-clause-within c = let l = (one_line c.args.lines.now c.before_end.result c.requires c.before_end.ensures.within c.before_end.ensures.none c.before_end.ensures.end).0 in omega (arith, l)

pub returns-clause-line : goal.returns-clause-line
returns-clause-line c = (one_line c.args.lines.now c.before_end.result c.requires c.before_end.ensures.within c.before_end.ensures.none c.before_end.ensures.end).1
