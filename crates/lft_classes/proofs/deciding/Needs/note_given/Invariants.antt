use Rattle.lft_classes.{specs.{inner.Needs.{IsPassed, Marks}, Needs.{Times, Widths}}, proofs.Marking.AnyBelow}
use Rattle.lft_classes.proofs.deciding.Needs.note_given.Given as goal

abbrev pub invariant-loop-assignment : goal.invariant-loop-assignment
invariant-loop-assignment l = record {
  sized : Marks (AnyBelow (λ i a. IsPassed Widths l.shape l.inner a) l.given l.assignment-index) l.initial.self.sized.items l.self.sized.items;
  timed : Marks (AnyBelow (λ i a. IsPassed Times l.shape l.inner a) l.given l.assignment-index) l.initial.self.timed.items l.self.timed.items;
}
