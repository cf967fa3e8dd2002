use Rattle.lft_resolve.proofs.ExpansionLemmas.Chains.{IsFollowed}
use Rattle.lft_resolve.proofs.expansion.origins.reached_along.Given as goal

abbrev pub invariant-order : goal.invariant-order
invariant-order l = IsFollowed l.sources l.order l.all.items l.place
