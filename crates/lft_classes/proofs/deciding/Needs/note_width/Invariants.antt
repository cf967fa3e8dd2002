use Rattle.std.proofs.Common.{◌≡◌}
use Rattle.lft_classes.{specs.inner.Needs.Marks, proofs.{Marking.AnyBelow, Passing.IsTermIn}}
use Rattle.lft_classes.proofs.deciding.Needs.note_width.Given as goal

abbrev pub invariant-loop-term : goal.invariant-loop-term
invariant-loop-term l = record {
  sized : Marks (AnyBelow (IsTermIn l.fn.shape) l.term-items l.term-index) l.initial.self.sized.items l.self.sized.items;
  timed : l.self.timed ≡ l.initial.self.timed;
}
