use Rattle.lft_resolve.proofs.ExpansionLemmas.Joining.{Sited, Sourced}
use Rattle.lft_resolve.proofs.expansion.joins.find_sources.Given as goal

abbrev pub invariant-instances : goal.invariant-instances
invariant-instances l = Sourced l.counts l.table l.instances l.firsts l.children l.values l.number 0 l.sources.items × Sited l.table l.instances l.firsts l.children l.values l.sources.items l.sites.items

abbrev pub invariant-joins : goal.invariant-joins
invariant-joins l = Sourced l.counts l.table l.instances l.firsts l.children l.values l.number l.place l.sources.items × Sited l.table l.instances l.firsts l.children l.values l.sources.items l.sites.items
