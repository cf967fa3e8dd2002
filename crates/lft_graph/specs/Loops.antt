-- Causality loops.
use Rattle.std.specs.Prelude.{◌≡◌, ℕ, ◌≤◌, List, Some, slice_get}
use Rattle.lft_lists.specs.Walks.{IsCircle}
use Rattle.lft_ir.specs.Parts.{Parts}
use Rattle.lft_graph.specs.Precedence.{Direct}

-- a circle of steps, of which the least number stands first
pub record IsLoopOf (Step : ℕ → ℕ → Type 0) (loop : List ℕ) : Type 0 where
  pub circle : IsCircle Step loop
  pub least_first : (i a b : ℕ) → slice_get loop 0 ≡ Some a → slice_get loop i ≡ Some b → a ≤ b

-- a causality loop: each reaction directly precedes the next, and the last the first
abbrev pub IsLoop : Parts → List ℕ → Type 0
IsLoop program loop = IsLoopOf (Direct program) loop
