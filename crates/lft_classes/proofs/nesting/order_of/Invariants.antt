use Rattle.std.proofs.Common.{◌≡◌}
use Rattle.lft_classes.specs.inner.{Shapes.{inside, tables}, Walks.IsWalk}
use Rattle.lft_classes.proofs.nesting.order_of.Given as goal

abbrev pub invariant-visits : goal.invariant-visits
invariant-visits l = record { walk : IsWalk (inside (tables l.shapes)) 0 l.walk; main : l.work.main ≡ l.initial.work.main }

abbrev pub decreases-visits : goal.decreases-visits
decreases-visits l = l.work.left
