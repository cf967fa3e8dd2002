use Rattle.std.proofs.Common.{◌≡◌, ℕ, ◌<◌, ◌≤◌, None}
use Rattle.lft_classes.specs.inner.Shapes.{child_at}
use Rattle.lft_classes.proofs.nesting.next_child.Given as goal

abbrev pub invariant-loop-number : goal.invariant-loop-number
invariant-loop-number l = (k : ℕ) → l.fn.visit.next ≤ k → k < l.number → child_at l.shape.children.items k ≡ None
