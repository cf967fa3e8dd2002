use Rattle.lft_lower.{specs.inner.Meanings.Names.texts, proofs.MeaningsLemmas.Apart.AreNone}
use Rattle.lft_lower.proofs.meanings.naming.CoreNames.of.Given as goal

abbrev pub invariant-loop : goal.invariant-loop
invariant-loop l = AreNone (texts l.found.items)
