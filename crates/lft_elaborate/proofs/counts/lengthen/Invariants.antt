use Rattle.std.proofs.Common.{ℕ, ◌≤◌, List, vec_len}
use Rattle.lft_elaborate.specs.inner.Used.{AreMarked}
use Rattle.lft_elaborate.proofs.counts.lengthen.Given as goal

abbrev pub invariant-loop-more : goal.invariant-loop-more
invariant-loop-more l = record {
  long : l._more ≤ vec_len l.is_used;
  marked : (used : List ℕ) → AreMarked used l.fn.is_used.items → AreMarked used l.is_used.items;
}
