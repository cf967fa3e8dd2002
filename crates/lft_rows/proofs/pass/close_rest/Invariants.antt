use Rattle.lft_rows.specs.inner.Passes.{Holds}
use Rattle.lft_rows.proofs.pass.close_rest.Given as goal

abbrev pub invariant-loop-place : goal.invariant-loop-place
invariant-loop-place l = Holds l.rows l.from l.place l.runs
