use Rattle.lft_rows.specs.inner.Passes.{IsKnown, KeepsEarly}
use Rattle.lft_rows.proofs.pass.early_rows.Given as goal

abbrev pub invariant-loop-place : goal.invariant-loop-place
invariant-loop-place l = record { known : IsKnown l.plan.program l.rows l.place l.known; kept : KeepsEarly l.stop l.plan l.rows l.place }
