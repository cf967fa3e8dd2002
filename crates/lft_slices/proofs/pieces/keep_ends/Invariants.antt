use Rattle.std.proofs.Common.{◌≡◌, length}
use Rattle.lft_slices.specs.inner.Pieces.{AreEndsTo}
use Rattle.lft_slices.proofs.pieces.keep_ends.Given as goal

abbrev pub invariant-loop-place : goal.invariant-loop-place
invariant-loop-place l = record { count : length l.ends.items ≡ length l.fn.ends.items; ends : AreEndsTo l.rows l.fn.slice l.place l.ends.items }
