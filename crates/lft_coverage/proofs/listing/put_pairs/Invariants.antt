use Rattle.std.proofs.Common.{take, flat_map}
use Rattle.std.specs.List.{enumerate_from}
use Rattle.lft_coverage.specs.{Facts.pair_lines, inner.Taking.TookMore}
use Rattle.lft_coverage.proofs.listing.put_pairs.Given as goal

abbrev pub invariant-loop-number : goal.invariant-loop-number
invariant-loop-number g l = TookMore (g.W.Write.contents l.fn.out) l.fn.whole (g.W.Write.contents l.out) l.whole (flat_map (λ d. pair_lines l.program l.overlaps d.0) (take l.number (enumerate_from 0 l.program.reactions)))
