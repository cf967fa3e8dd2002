use Rattle.std.proofs.Common.{take, flat_map}
use Rattle.std.specs.List.{enumerate_from}
use Rattle.lft_coverage.specs.{Facts.write_line, inner.Taking.TookMore}
use Rattle.lft_coverage.proofs.listing.put_writes.Given as goal

abbrev pub invariant-loop-number : goal.invariant-loop-number
invariant-loop-number g l = TookMore (g.W.Write.contents l.fn.out) l.fn.whole (g.W.Write.contents l.out) l.whole (flat_map (write_line l.program) (take l.number (enumerate_from 0 l.counts)))
