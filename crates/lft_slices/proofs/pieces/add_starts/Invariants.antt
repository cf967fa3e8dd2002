use Rattle.lft_slices.specs.inner.Pieces.{AreStartsTo}
use Rattle.lft_slices.proofs.pieces.add_starts.Given as goal

abbrev pub invariant-loop-place : goal.invariant-loop-place
invariant-loop-place l = AreStartsTo l.rows l.fn.slice l.place l.found.items
