use Rattle.std.proofs.Common.{◌≡◌, length, subst, arith}
use Rattle.std.proofs.Math.Nat.{min-le_left}
use Rattle.memchr.specs.Find.{OccursAt}
use Rattle.lft_log.specs.Logs.{header_words}
use Rattle.lft_log.proofs.lines.first_words.Goals as goal

pub returns-in-Some-clause-none : goal.returns-in-Some-clause-none
returns-in-Some-clause-none c = λ i l o. let m = c.min.ensures in let up = min-le_left c.in-Some.place (length c.args.lines.now) in c.in-Some.ensures.0.before i (omega arith) (omega (arith, l, m, up)) o

pub returns-in-None-clause-none : goal.returns-in-None-clause-none
returns-in-None-clause-none c = λ i l o. c.in-None.ensures i (omega arith) (omega (arith, l)) o

pub returns-in-Some-clause-words : goal.returns-in-Some-clause-words
returns-in-Some-clause-words c = λ l. let m = c.min.ensures in let same : c.in-Some.place ≡ c.min.result = omega (arith, l, m) in subst (OccursAt c.args.lines.now header_words) same c.in-Some.ensures.1
