use Rattle.std.proofs.Common.{inl, inr, subst}
use Rattle.lft_driver.specs.{Lines.line_of_pair, Refusals.CheckRefusal.by_growth, PairRefusals.PairingRefusal.{by_check, by_writer}}
use Rattle.lft_load.specs.Written.{AppendsFront}
use Rattle.lft_driver.proofs.pair.pair_rows.Goals as goal

pub returns-in-Err-report-clause-refused : goal.returns-in-Err-report-clause-refused
returns-in-Err-report-clause-refused g c = elim c.in-Err-report.ensures.front [
  | inl x ↦ by_check (by_growth x c.in-Ok.ensures.workers)
  | inr x ↦ by_writer c.in-Ok.paired x.0 x.1 c.in-Ok.ensures.right (subst (λ p. AppendsFront (g.W.Write.contents c.args.out.now) (g.W.Write.contents c.report.new.out) (line_of_pair p c.in-Ok.paired)) c.program.ensures.value x.2)
]
