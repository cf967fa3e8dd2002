use Rattle.std.proofs.Common.{◌≡◌, length}
use Rattle.lft_slices.specs.inner.Pieces.{ArePiecesTo}
use Rattle.lft_slices.proofs.pieces.pieces_of.Given as goal

abbrev pub invariant-loop-place : goal.invariant-loop-place
invariant-loop-place l = record { count : length l.ends.items ≡ l.fn.reactions; pieces : ArePiecesTo l.rows l.slices l.place l.pieces.tags.items l.pieces.firsts.items l.pieces.list.items }
