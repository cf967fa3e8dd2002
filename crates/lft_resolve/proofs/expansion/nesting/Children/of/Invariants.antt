use Rattle.std.proofs.Common.{map}
use Rattle.lft_resolve.proofs.ExpansionLemmas.Siblings.{Filled}
use Rattle.lft_resolve.proofs.expansion.nesting.Children.of.Given as goal

abbrev pub invariant-instances : goal.invariant-instances
invariant-instances l = Filled l.instances (map (λ row. row.items) l.rows.items) l.number
