use Rattle.std.proofs.Common.{take, flat_map}
use Rattle.std.specs.List.{enumerate_from}
use Rattle.lft_coverage.specs.{Facts.width_line, inner.Taking.TookMore}
use Rattle.lft_coverage.proofs.listing.put_widths.Given as goal

abbrev pub invariant-loop-width : goal.invariant-loop-width
invariant-loop-width g l = TookMore (g.W.Write.contents l.fn.out) l.fn.whole (g.W.Write.contents l.out) l.whole (flat_map width_line (take l.width (enumerate_from 0 l.widths)))
