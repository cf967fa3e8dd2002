use Rattle.std.proofs.Common.{OnOk, IfErr, sym, subst}
use Rattle.lft_driver.specs.{declared.paired.Paired.Paired, Explained.Writes, inner.Explained.WriteRefusal, PairExplained.StandsBehind}
use Rattle.lft_driver.proofs.explain_pair.write_behind.Goals as goal

pub returns-in-Second-clause-refused : goal.returns-in-Second-clause-refused
returns-in-Second-clause-refused g c = subst (λ (p : Paired). IfErr c.write_reasons-in-Second.result (WriteRefusal (StandsBehind c.args.all c.args.plan.now c.args.first.now c.args.second.now p) (g.W.Write.contents c.args.out.now) (g.W.Write.contents c.write_reasons-in-Second.new.out))) (sym c.in-Second.is) c.write_reasons-in-Second.ensures.refused

pub returns-in-Differ-clause-written : goal.returns-in-Differ-clause-written
returns-in-Differ-clause-written g c = subst (λ (p : Paired). OnOk c.write_answers.result (Writes (StandsBehind c.args.all c.args.plan.now c.args.first.now c.args.second.now p) (g.W.Write.contents c.args.out.now) (g.W.Write.contents c.write_answers.new.out))) (sym c.in-Differ.is) c.write_answers.ensures.written

pub returns-in-Differ-clause-refused : goal.returns-in-Differ-clause-refused
returns-in-Differ-clause-refused g c = subst (λ (p : Paired). IfErr c.write_answers.result (WriteRefusal (StandsBehind c.args.all c.args.plan.now c.args.first.now c.args.second.now p) (g.W.Write.contents c.args.out.now) (g.W.Write.contents c.write_answers.new.out))) (sym c.in-Differ.is) c.write_answers.ensures.refused
