use Rattle.std.proofs.Common.{◌≡◌}
use Rattle.lft_classes.specs.inner.{Chains.{base_of, bases_from}, Walks.{IsOrdered, IsWalk}}
use Rattle.lft_classes.proofs.chains.chain.Given as goal

abbrev pub invariant-visits : goal.invariant-visits
invariant-visits l = record { walk : IsWalk (base_of l.scopes) l.class l.walk; order : IsOrdered (bases_from l.scopes) l.class l.walk; main : l.work.main ≡ l.initial.work.main }

abbrev pub decreases-visits : goal.decreases-visits
decreases-visits l = l.work.left
