use Rattle.std.proofs.Common.{ℕ, ◌<◌, ◌≤◌}
use Rattle.lft_syntax.specs.Lexes.{Pair}
use Rattle.lft_syntax.proofs.piece.past_pair.Given as goal

abbrev pub invariant-loop-at : goal.invariant-loop-at
invariant-loop-at l = (k : ℕ) → l.fn.from ≤ k → k < l.at → Pair l.first l.second l.text k → ⊥
