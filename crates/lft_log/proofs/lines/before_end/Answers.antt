use Rattle.std.proofs.Common.{length, arith}
use Rattle.lft_log.proofs.Ends.{byte_there, none_before}
use Rattle.lft_log.proofs.lines.before_end.Goals as goal

pub returns-in-Some-clause-none : goal.returns-in-Some-clause-none
returns-in-Some-clause-none c = let l = c.in-Some.ensures.0.high in none_before c.args.text.now c.in-Some.place (omega (arith, l)) c.in-Some.ensures.0.before

pub returns-in-Some-clause-end : goal.returns-in-Some-clause-end
returns-in-Some-clause-end c = λ l. byte_there c.args.text.now 10 c.in-Some.place l c.in-Some.ensures.1

pub returns-in-None-clause-none : goal.returns-in-None-clause-none
returns-in-None-clause-none c = none_before c.args.text.now (length c.args.text.now) (omega arith) c.in-None.ensures
