use Rattle.std.proofs.Common.{ℕ, ◌+◌, ◌≤◌}
use Rattle.lft_graph.specs.Counts.{Count}
use Rattle.lft_coverage.specs.inner.Pairs.{IsCountedWith}
use Rattle.lft_coverage.proofs.pairs.pairs_from.Given as goal

abbrev pub invariant-loop-other : goal.invariant-loop-other
invariant-loop-other l = record {
  counted : (n : ℕ) → Count (λ a. IsCountedWith l.overlaps a l.reaction) l.from n → Count (λ a. IsCountedWith l.overlaps a l.reaction) l.other (n + l.many);
  few : l.from + l.many ≤ l.other;
}
