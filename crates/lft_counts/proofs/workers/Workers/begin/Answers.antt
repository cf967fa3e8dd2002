use Rattle.std.proofs.Common.{◌<◌, ◌+◌, List, ℕ, sym, subst, arith}
use Rattle.std.specs.List.{AllByRecursion}
use Rattle.lft_counts.proofs.Entries.{all_inserted}
use Rattle.lft_counts.proofs.workers.Workers.begin.Goals as goal

pub returns-in-Ok-clause-listed : goal.returns-in-Ok-clause-listed
returns-in-Ok-clause-listed c all = subst (λ (es : List (ℕ × ℕ)). AllByRecursion (λ d. 0 < d.1) es) (sym c.in-Ok.ensures.entries) (all_inserted (λ d. 0 < d.1) c.args.worker (c.of-count.result + 1) (λ q. omega arith) c.args.self.now.counts.entries all)
