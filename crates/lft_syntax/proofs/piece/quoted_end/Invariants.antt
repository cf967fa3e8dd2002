use Rattle.std.proofs.Common.{ℕ, ◌-◌, ◌≤◌, length}
use Rattle.lft_syntax.specs.Lexes.{Quoted}
use Rattle.lft_syntax.proofs.piece.quoted_end.Given as goal

abbrev pub invariant-quoted : goal.invariant-quoted
invariant-quoted l = record { order : l.fn.from ≤ l.at; within : l.at ≤ length l.text; found : (j : ℕ) → Quoted l.text l.at j → Quoted l.text l.fn.from j; only : (j : ℕ) → Quoted l.text l.fn.from j → Quoted l.text l.at j }

abbrev pub decreases-quoted : goal.decreases-quoted
decreases-quoted l = length l.text - l.at
