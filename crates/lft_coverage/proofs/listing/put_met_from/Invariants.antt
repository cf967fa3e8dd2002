use Rattle.std.proofs.Common.{◌-◌, drop, take, flat_map}
use Rattle.std.specs.List.{enumerate_from}
use Rattle.lft_counts.specs.Overlaps.{met_by}
use Rattle.lft_coverage.specs.{Facts.{has, pair_words}, inner.Taking.TookMore}
use Rattle.lft_coverage.proofs.listing.put_met_from.Given as goal

abbrev pub invariant-loop-number : goal.invariant-loop-number
invariant-loop-number g l = TookMore (g.W.Write.contents l.fn.out) l.fn.whole (g.W.Write.contents l.out) l.whole (flat_map (λ d. pair_words l.program (has (met_by l.overlaps l.then) d.0) d.0 l.then) (take (l.number - l.from) (enumerate_from l.from (drop l.from l.program.reactions))))
