use Rattle.std.proofs.Common.{length}
use Rattle.lft_pair.proofs.Kept.{ReadTo}
use Rattle.lft_pair.proofs.starts.StartPlaces.read_to.Given as goal

abbrev pub invariant-loop-place : goal.invariant-loop-place
invariant-loop-place l = ReadTo l.rows l.tag (length l.fn.self.places.items) l.place l.self.read l.self.places.items
