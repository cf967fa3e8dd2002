use Rattle.lft_resolve.proofs.ExpansionLemmas.Listing.{Listing}
use Rattle.lft_resolve.proofs.expansion.numbering.list_things.Given as goal

abbrev pub invariant-instances : goal.invariant-instances
invariant-instances l = Listing l.counts l.instances l.number 0 l.all.items

abbrev pub invariant-things : goal.invariant-things
invariant-things l = Listing l.counts l.instances l.number l.place l.all.items
