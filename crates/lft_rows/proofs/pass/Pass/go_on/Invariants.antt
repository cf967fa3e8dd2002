use Rattle.lft_rows.specs.inner.Passes.{HasPassed}
use Rattle.lft_rows.proofs.pass.Pass.go_on.Given as goal

abbrev pub invariant-loop-place : goal.invariant-loop-place
invariant-loop-place l = HasPassed l.stop l.plan l.rows l.place l.self
