use Rattle.std.proofs.Common.{◌≡◌, ◌<◌, ℕ, Some, slice_get}
use Rattle.lft_classes.specs.declared.scopes.ReactorNames.{ReactorNames}
use Rattle.lft_classes.specs.inner.{Built.{AreNoted, cores}, Makings.AreShapes, Needs.{IsDecided, IsIndexFree}, Shapes.{inside, tables}}
use Rattle.lft_classes.specs.inner.Walks.{IsTopologicalOrder}
use Rattle.lft_classes.proofs.nesting.Nesting.of.Given as goal

abbrev pub invariant-loop-place : goal.invariant-loop-place
invariant-loop-place l = record {
  rows : tables l.shapes.items ≡ tables l.initial.shapes.items;
  same : cores l.shapes.items ≡ cores l.initial.shapes.items;
  decided : (scopes : ReactorNames) (first : ℕ) → AreShapes scopes first (cores l.initial.shapes.items) (tables l.initial.shapes.items) → AreNoted scopes (cores l.initial.shapes.items) (tables l.initial.shapes.items) → IsTopologicalOrder (inside (tables l.initial.shapes.items)) l.order.items → (j t : ℕ) → j < l.place → slice_get l.order.items j ≡ Some t → IsDecided scopes l.shapes.items t;
  index : (scopes : ReactorNames) (first : ℕ) → AreShapes scopes first (cores l.initial.shapes.items) (tables l.initial.shapes.items) → AreNoted scopes (cores l.initial.shapes.items) (tables l.initial.shapes.items) → IsTopologicalOrder (inside (tables l.initial.shapes.items)) l.order.items → (j t : ℕ) → j < l.place → slice_get l.order.items j ≡ Some t → IsIndexFree scopes (cores l.initial.shapes.items) (tables l.initial.shapes.items) t;
}
