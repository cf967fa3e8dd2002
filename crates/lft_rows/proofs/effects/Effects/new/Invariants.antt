use Rattle.lft_rows.specs.inner.Effects.{AreFirst}
use Rattle.lft_rows.proofs.effects.Effects.new.Given as goal

abbrev pub invariant-loop-number : goal.invariant-loop-number
invariant-loop-number l = AreFirst l.number l.program l.sets.items
