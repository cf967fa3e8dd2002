use Rattle.std.proofs.Common.{take, flat_map}
use Rattle.lft_coverage.specs.{Facts.worker_line, inner.Taking.TookMore}
use Rattle.lft_coverage.proofs.listing.put_workers.Given as goal

abbrev pub invariant-loop-place : goal.invariant-loop-place
invariant-loop-place g l = TookMore (g.W.Write.contents l.fn.out) l.fn.whole (g.W.Write.contents l.out) l.whole (flat_map worker_line (take l.place l.workers))
