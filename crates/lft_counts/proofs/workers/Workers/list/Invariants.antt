use Rattle.std.proofs.Common.{◌≡◌, ◌++◌}
use Rattle.lft_counts.proofs.workers.Workers.list.Given as goal

abbrev pub invariant-loop-worker : goal.invariant-loop-worker
invariant-loop-worker l = l.self.counts.entries ≡ l.all.items ++ l.worker-iterator
