use Rattle.std.proofs.Common.{◌≡◌, take}
use Rattle.lft_pair.specs.{Words.first_words, Told.widest}
use Rattle.lft_pair.proofs.contrasting.table.first_width.Given as goal

abbrev pub invariant-loop-place : goal.invariant-loop-place
invariant-loop-place l = l.width ≡ widest (first_words) 5 (take l.place l.contrasts)
