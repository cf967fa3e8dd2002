use Rattle.std.proofs.Common.{◌≤◌}
use Rattle.lft_resolve.proofs.ExpansionLemmas.Things.{Numbering}
use Rattle.lft_resolve.proofs.expansion.numbering.first_numbers.Given as goal

abbrev pub invariant-instances : goal.invariant-instances
invariant-instances l = Numbering l.counts l.instances l.firsts.items l.number l.total × (l.total ≤ l.limit)
