use Rattle.std.proofs.Common.{inl}
use Rattle.lft_driver.{specs.PairExplained.PairExplainingRefusal.by_check, proofs.PairExplaining.{line_refused, all_written, rest_refused}}
use Rattle.std.proofs.KnownBytes.{Keeps-refl}
use Rattle.lft_driver.proofs.explain_pair.explain_rows.Goals as goal

pub returns-in-Err-clause-refused : goal.returns-in-Err-clause-refused
returns-in-Err-clause-refused g c = by_check c.in-Err.ensures.fault (inl (Keeps-refl (g.W.Write.contents c.args.out.now)))

pub returns-in-Err-report-clause-refused : goal.returns-in-Err-report-clause-refused
returns-in-Err-report-clause-refused g c = line_refused c.args.all c.args.plan.now c.args.first.now c.args.second.now c.args.workers c.program.result.now c.program.ensures.value c.in-Ok.paired c.in-Ok.ensures.right c.in-Ok.ensures.workers (g.W.Write.contents c.args.out.now) (g.W.Write.contents c.report.new.out) (g.W.Write.contents c.report.new.out) c.in-Err-report.fault c.in-Err-report.ensures.front c.in-Err-report.ensures.kept

pub returns-in-Ok-write_behind-clause-written : goal.returns-in-Ok-write_behind-clause-written
returns-in-Ok-write_behind-clause-written g c = all_written c.args.all c.args.plan.now c.args.first.now c.args.second.now c.args.workers c.program.result.now c.program.ensures.value c.in-Ok.paired c.in-Ok.ensures.right c.in-Ok.ensures.workers (g.W.Write.contents c.args.out.now) (g.W.Write.contents c.report.new.out) (g.W.Write.contents c.write_behind.new.out) c.in-Ok-report.ensures.written c.in-Ok-write_behind.ensures.written

pub returns-in-Err-write_behind-clause-refused : goal.returns-in-Err-write_behind-clause-refused
returns-in-Err-write_behind-clause-refused g c = rest_refused c.args.all c.args.plan.now c.args.first.now c.args.second.now c.args.workers c.program.result.now c.program.ensures.value c.in-Ok.paired c.in-Ok.ensures.right c.in-Ok.ensures.workers (g.W.Write.contents c.args.out.now) (g.W.Write.contents c.report.new.out) (g.W.Write.contents c.write_behind.new.out) c.in-Ok-report.ensures.written c.in-Err-write_behind.fault c.in-Err-write_behind.ensures.refused
