use Rattle.lft_elaborate.specs.inner.Noted.{GoesOn, table}
use Rattle.lft_elaborate.proofs.settings.Settings.width.Given as goal

abbrev pub invariant-widths : goal.invariant-widths
invariant-widths l = record {
  goes : GoesOn (table l.fn.self) (table l.self);
}

abbrev pub decreases-widths : goal.decreases-widths
decreases-widths l = l.self.work.left
