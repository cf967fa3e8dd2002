use Rattle.std.proofs.Common.{sym, subst}
use Rattle.lft_check.specs.declared.verdict.Verdict.{Verdict}
use Rattle.lft_coverage.specs.{inner.Driver.Covered.IsCoverText, Driver.Covered.IsJudgedCoverUnder}
use Rattle.lft_coverage.proofs.DriverLemmas.Covering.{judged, refused, refused_none, unwritten, unwritten_none}
use Rattle.lft_driver.proofs.Behind.{unwritten_kept}
use Rattle.lft_coverage.proofs.driver.texts.cover_plan.Goals as goal

pub returns-in-Err-clause-refused : goal.returns-in-Err-clause-refused
returns-in-Err-clause-refused g c = refused c.args.list c.args.plan.now c.args.trace.now c.args.workers _ _ c.in-Err.fault c.in-Err.ensures.refused

pub returns-in-Err-clause-none : goal.returns-in-Err-clause-none
returns-in-Err-clause-none g c = refused_none c.args.list c.args.plan.now c.args.trace.now c.args.workers (g.W.Write.contents c.args.out.now) (g.W.Write.contents c.args.out.now) c.in-Err.fault c.in-Err.ensures.refused

pub write_covered-requires : goal.write_covered-requires
write_covered-requires g c = let x = c.in-Ok.ensures.covered in (x.0, x.2)

pub returns-in-Ok-write_covered-clause-judged : goal.returns-in-Ok-write_covered-clause-judged
returns-in-Ok-write_covered-clause-judged g c =
    let is = judged c.args.list c.args.plan.now c.args.trace.now c.args.workers _ _ c.in-Ok.covered c.in-Ok.ensures.covered c.law_one_worker.ensures.runs c.law_one_worker.ensures.precedence c.in-Ok-write_covered.ensures.written in
    subst (λ (v : Verdict). IsJudgedCoverUnder c.args.list c.args.plan.now c.args.trace.now (g.W.Write.contents c.args.out.now) (g.W.Write.contents c.write_covered.new.out) v) (sym c.verdict.ensures) is

pub returns-clause-refused : goal.returns-clause-refused
returns-clause-refused g c = unwritten c.args.list c.args.plan.now c.args.trace.now c.args.workers _ _ c.in-Ok.covered c.in-Ok.ensures.covered c.in-Ok.ensures.workers c.in-Err-write_covered.fault c.in-Err-write_covered.ensures.refused

pub returns-clause-none : goal.returns-clause-none
returns-clause-none g c = λ t rows table. unwritten_none (IsCoverText c.args.list c.args.plan.now c.in-Ok.covered) _ _ c.in-Err-write_covered.fault c.in-Err-write_covered.ensures.refused t

pub returns-clause-kept : goal.returns-clause-kept
returns-clause-kept g c = unwritten_kept (IsCoverText c.args.list c.args.plan.now c.in-Ok.covered) _ _ c.in-Err-write_covered.fault c.in-Err-write_covered.ensures.refused
