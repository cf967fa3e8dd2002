use Rattle.lft_log.proofs.ExplainLemmas.Cutting.{NoneLater}
use Rattle.lft_log.proofs.explain.cut.end_of_cut.Given as goal

abbrev pub invariant-loop-place : goal.invariant-loop-place
invariant-loop-place l = NoneLater l.rows l.breach l.place
