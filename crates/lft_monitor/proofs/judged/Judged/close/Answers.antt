use Rattle.std.proofs.Common.{arith}
use Rattle.lft_monitor.proofs.Ended.{still_judged}
use Rattle.lft_monitor.proofs.judged.Judged.close.Goals as goal

pub judge-requires-clause-few : goal.judge-requires-clause-few
judge-requires-clause-few c = let f = c.requires.few in let n = c.requires.fit.few in omega (arith, f, n)

pub judge-requires-clause-kept : goal.judge-requires-clause-kept
judge-requires-clause-kept c = λ no_rules. absurd (cc)

pub returns-in-Some-clause-closed : goal.returns-in-Some-clause-closed
returns-in-Some-clause-closed c = λ t is earlier. c.in-Some.ensures t (still_judged c.args.plan.now t c.args.self.now c.judge.new.self is (c.in-Ok-false.ensures.past c.in-Ok-false.field-0-test) (c.in-Ok-false.ensures.count c.in-Ok-false.field-0-test)) earlier
