use Rattle.std.proofs.Common.{◌≡◌, length, take}
use Rattle.std.specs.List.{All}
use Rattle.lft_lower.specs.inner.Meanings.Meanings.{Means, all_places, here}
use Rattle.lft_lower.proofs.meanings.places.count.Given as goal

abbrev pub invariant-loop-place : goal.invariant-loop-place
invariant-loop-place l = (l.all ≡ length (all_places (here l.within) (take l.place l.references))) × All (Means (here l.within)) (take l.place l.references)
