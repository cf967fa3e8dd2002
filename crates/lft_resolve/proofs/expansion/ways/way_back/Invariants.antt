use Rattle.std.proofs.Common.{◌<◌, length}
use Rattle.lft_resolve.specs.inner.Expansion.Ways.{LeadsBack}
use Rattle.lft_resolve.proofs.expansion.ways.way_back.Given as goal

abbrev pub invariant-back : goal.invariant-back
invariant-back l = LeadsBack l.found.sources.items l.found.sites.items l.port l.way.items l.at × (l.at < length l.found.sources.items)
