use Rattle.std.proofs.Common.{◌≡◌, ◌<◌, ℕ, Some, slice_get}
use Rattle.lft_classes.{specs.{inner.Needs.{HasNeed, IsUnmarkedAt, Marks}, declared.shapes.Inherited.Inherited, Needs.{Times, Widths}}, proofs.Marking.AnyBelow}
use Rattle.lft_classes.proofs.deciding.needs_of.Given as goal

abbrev pub invariant-loop-number : goal.invariant-loop-number
invariant-loop-number l = record {
  sized : Marks (AnyBelow (λ k (m : Inherited). HasNeed Widths l.shapes l.shape k m.member.now) l.shape.members.items l.number) l.initial.needs.sized.items l.needs.sized.items;
  timed : Marks (AnyBelow (λ k (m : Inherited). HasNeed Times l.shapes l.shape k m.member.now) l.shape.members.items l.number) l.initial.needs.timed.items l.needs.timed.items;
  index : (k : ℕ) (m : Inherited) → k < l.number → slice_get l.shape.members.items k ≡ Some m → IsUnmarkedAt l.shapes l.shape k m.member.now;
}
