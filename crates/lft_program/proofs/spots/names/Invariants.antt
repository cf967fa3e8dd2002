use Rattle.std.proofs.Common.{◌≡◌, Some, length}
use Rattle.lft_program.{specs.inner.Laying.name_at, proofs.Making.Made}
use Rattle.lft_program.proofs.spots.names.Given as goal

abbrev pub invariant-loop-spot : goal.invariant-loop-spot
invariant-loop-spot l = (length l.names.items ≡ l.spot-index) × Made (λ _ x y. name_at l.nest l.instance x ≡ Some y) l.spots l.names.items
