use Rattle.std.proofs.Common.{◌≡◌, ◌≤◌, ◌<◌, ◌-◌, ℕ, Some, slice_get}
use Rattle.lft_ir.specs.declared.parts.{Name.Name, Reaction.Reaction}
use Rattle.lft_rows.specs.inner.Marks.{HasSeat}
use Rattle.lft_check.specs.inner.ByTag.Reads.{IsMissed}
use Rattle.lft_check.proofs.by_tag.sliced.Sliced.misses_in.Given as goal

abbrev pub invariant-loop-seat : goal.invariant-loop-seat
invariant-loop-seat l = (x : Reaction) (n : Name) (k : ℕ) → slice_get l.self.plan.program.reactions l.reaction ≡ Some x → HasSeat x n k → l.from ≤ k → k < l.seat → ¬ IsMissed l.self.plan l.self.rows l.slice.tag l.reaction n

abbrev pub decreases-loop-seat : goal.decreases-loop-seat
decreases-loop-seat l = l.to - l.seat
