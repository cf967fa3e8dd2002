use Rattle.std.proofs.Common.{map}
use Rattle.lft_resolve.proofs.ExpansionLemmas.Entering.{Valued}
use Rattle.lft_resolve.proofs.expansion.settings.Values.of.Given as goal

abbrev pub invariant-instances : goal.invariant-instances
invariant-instances l = Valued l.table l.instances (map (λ row. row.items) l.rows.items) l.number
