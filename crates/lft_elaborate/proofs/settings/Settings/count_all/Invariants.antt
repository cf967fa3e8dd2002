use Rattle.lft_elaborate.specs.inner.Noted.{GoesOn, table}
use Rattle.lft_elaborate.proofs.settings.Settings.count_all.Given as goal

abbrev pub invariant-loop-place : goal.invariant-loop-place
invariant-loop-place l = record { goes : GoesOn (table l.fn.self) (table l.self) }
