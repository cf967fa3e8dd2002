use Rattle.lft_lower.specs.inner.Meanings.Names.{AreNamesTaken}
use Rattle.lft_lower.proofs.meanings.naming.names.Given as goal

abbrev pub invariant-loop-setting : goal.invariant-loop-setting
invariant-loop-setting l = AreNamesTaken l.names
