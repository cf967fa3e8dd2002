use Rattle.lft_elaborate.specs.inner.Noted.{GoesOn, table}
use Rattle.lft_elaborate.proofs.settings.Settings.count.Given as goal

abbrev pub invariant-loop-number : goal.invariant-loop-number
invariant-loop-number l = record { goes : GoesOn (table l.fn.self) (table l.self) }
