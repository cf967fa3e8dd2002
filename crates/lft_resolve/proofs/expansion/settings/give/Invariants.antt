use Rattle.std.proofs.Common.{drop}
use Rattle.lft_resolve.proofs.ExpansionLemmas.Entering.{AreEntered}
use Rattle.lft_resolve.proofs.expansion.settings.give.Given as goal

abbrev pub invariant-given : goal.invariant-given
invariant-given l = AreEntered l.outer (drop l.number l.given) l.fn.own l.own
