use Rattle.std.proofs.Common.{◌≡◌, ◌<◌, ℕ, Some, slice_get}
use Rattle.lft_classes.specs.inner.{Built.{Core, IsNoted, cores}, Makings.GoesOnMaking, Shapes.tables}
use Rattle.lft_classes.proofs.making.Making.fill_all.Given as goal

abbrev pub invariant-loop-shape : goal.invariant-loop-shape
invariant-loop-shape l = record {
  goes : GoesOnMaking (λ first. Unit {0}) l.initial.self l.self;
  noted : (s : ℕ) (c : Core) → s < l.shape → slice_get (cores l.self.shapes.items) s ≡ Some c → IsNoted l.initial.self.scopes (tables l.self.shapes.items) s c;
}
