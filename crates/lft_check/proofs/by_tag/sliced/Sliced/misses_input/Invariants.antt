use Rattle.std.proofs.Common.{◌≡◌, ◌<◌, ◌/◌, ℕ, Some, slice_get}
use Rattle.lft_ir.specs.declared.parts.{Name.Name, Reaction.Reaction}
use Rattle.lft_rows.specs.inner.Marks.{HasSeat}
use Rattle.lft_check.specs.inner.ByTag.{Reads.IsMissed, Walks.HasWalked}
use Rattle.lft_check.proofs.by_tag.sliced.Sliced.misses_input.Given as goal

abbrev pub invariant-loop-block : goal.invariant-loop-block
invariant-loop-block l = record {
  walked : HasWalked l.self l.slice l.walk;
  none : (x : Reaction) (n : Name) (k : ℕ) → slice_get l.self.plan.program.reactions l.reaction ≡ Some x → HasSeat x n k → k / 64 < l.block → ¬ IsMissed l.self.plan l.self.rows l.slice.tag l.reaction n;
}
